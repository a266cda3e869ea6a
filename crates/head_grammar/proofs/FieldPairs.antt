-- Fields that are found among pairs by their names.
use Rattle.std.proofs.Common.{◌≡◌, ℕ, Bool, true, false, List, [], ◌∷◌, Bor, cond}
use Rattle.std.proofs.Common.{refl, ap, ◌∙◌}
use Rattle.std.specs.Prelude.{Option, Some, None, find, option_map, option_copied, ◌||◌}
use Rattle.std.specs.Option.{is_some}
use Rattle.std.specs.List.{list_any}
use Rattle.std.specs.Str.{bytes_eq}
use Rattle.std.proofs.lemmas.Cmp.{nat_list_eq_equiv}
use Rattle.pair_list.specs.Firsts.{first_value}
use Rattle.head_grammar.specs.FieldLines.{field_value, has_name}
use Rattle.head_grammar.specs.Pairs.{field_of, fields_of}

value_step : (name : List ℕ) (pair : List ℕ × List ℕ) (pairs : List (List ℕ × List ℕ))
    (test : Bool) → first_value name pairs ≡ field_value name (fields_of pairs) →
    option_map (λ pair. pair.1) (cond test (Some pair) (find (λ pair. bytes_eq pair.0 name) pairs))
    ≡ option_map (λ field. field.value)
    (cond test (Some (field_of pair.0 pair.1)) (find (has_name name) (fields_of pairs)))
value_step name pair pairs true same = refl
value_step name pair pairs false same = same

pub value_found : (name : List ℕ) (pairs : List (List ℕ × List ℕ)) →
    first_value name pairs ≡ field_value name (fields_of pairs)
value_found name [] = refl
value_found name (pair ∷ pairs) =
    value_step name pair pairs (bytes_eq pair.0 name) (value_found name pairs)
    ∙ ap (λ test. option_map (λ field. field.value)
    (cond test (Some (field_of pair.0 pair.1)) (find (has_name name) (fields_of pairs))))
    (nat_list_eq_equiv.symm pair.0 name)

name_step : (name : List ℕ) (pair : List ℕ × List ℕ) (pairs : List (List ℕ × List ℕ))
    (test : Bool) → is_some (first_value name pairs) ≡ list_any (has_name name) (fields_of pairs) →
    is_some (option_map (λ pair. pair.1)
    (cond test (Some pair) (find (λ pair. bytes_eq pair.0 name) pairs)))
    ≡ (test || list_any (has_name name) (fields_of pairs))
name_step name pair pairs true same = refl
name_step name pair pairs false same = same

pub name_found : (name : List ℕ) (pairs : List (List ℕ × List ℕ)) →
    is_some (first_value name pairs) ≡ list_any (has_name name) (fields_of pairs)
name_found name [] = refl
name_found name (pair ∷ pairs) =
    name_step name pair pairs (bytes_eq pair.0 name) (name_found name pairs)
    ∙ ap (λ test. test || list_any (has_name name) (fields_of pairs)) (nat_list_eq_equiv.symm pair.0 name)

pub copied_some : {T : Type 0} (found : Option (Bor T)) →
    is_some found ≡ is_some (option_copied found)
copied_some None = refl
copied_some (Some value) = refl
