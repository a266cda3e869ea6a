-- Internal: how fields of equal name become one, field by field (RFC 9110, section 5.2).
use Rattle.std.specs.Prelude.{◌≡◌, ℕ, List, [], ◌∷◌, ◌++◌, codes, position, if◌then◌else◌}
use Rattle.std.specs.Borrow.{Bor}
use Rattle.std.specs.BTreeMap.{BTreeMap, get_by}
use Rattle.std.specs.Cmp.Lexicographic.{slice_cmp}
use Rattle.std.specs.Ordering.{nat_cmp}
use Rattle.head_grammar.specs.FieldLines.{has_name}
use Rattle.head_grammar.specs.declared.types.Field.{Field}

-- a field with a further value
abbrev pub with_value : Field → List ℕ → Field
with_value field more = record { name = field.name; value = field.value ++ codes ", " ++ more }

-- one more field: its value goes to the field that has its name, or it is the last one
abbrev pub added : List Field → Field → List Field
added [] field = field ∷ []
added (first ∷ rest) field =
    if has_name field.name first then with_value first field.value ∷ rest
    else first ∷ added rest field

-- where the field of each name stands
abbrev pub ArePlaces : BTreeMap (Bor (List ℕ)) ℕ → List Field → Type 0
ArePlaces places fields = (name : List ℕ) →
    get_by (λ k. slice_cmp nat_cmp name k.now) places
    ≡ position (λ field. has_name name field) fields
