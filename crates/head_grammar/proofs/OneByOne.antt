-- Fields that are combined one by one.
use Rattle.std.proofs.Common.{◌≡◌, ℕ, Bool, true, false, List, [], ◌∷◌, ◌++◌, refl, ap, sym, ◌∙◌}
use Rattle.std.proofs.Common.{cond}
use Rattle.std.specs.Prelude.{not, ◌&&◌, ◌||◌, filter, codes}
use Rattle.std.specs.List.{list_any}
use Rattle.std.specs.Str.{bytes_eq}
use Rattle.std.proofs.lemmas.Slice.Eq.{bytes_eq-Decides}
use Rattle.std.proofs.lemmas.List.{append_assoc, append-nil}
use Rattle.std.proofs.lemmas.List.Elements.{filter-append}
use Rattle.std.proofs.lemmas.Cmp.{nat_list_eq_equiv}
use Rattle.std.proofs.lemmas.Grind.{flat_map-append}
use Rattle.head_grammar.specs.declared.types.Field.{Field}
use Rattle.head_grammar.specs.Combining.{with_value, added}
use Rattle.head_grammar.specs.FieldLines.{has_name, further_values, with_further, combined}
use Rattle.head_grammar.specs.FieldLines.{names_differ}

pub neither : (s t : Bool) → (s || t) ≡ false → (s ≡ false) × (t ≡ false)
neither true t e = cc
neither false t e = (refl, e)

pub apart : (s t : Bool) → (not s && t) ≡ true → (s ≡ false) × (t ≡ true)
apart true t e = cc
apart false t e = (refl, e)

-- the fields of other names
abbrev others : List ℕ → List Field → List Field
others name fields = filter (λ field. not (has_name name field)) fields

-- equal names are equal in each test
pub same_name : (x y : List ℕ) → bytes_eq x y ≡ true → (name : List ℕ) →
    bytes_eq x name ≡ bytes_eq y name
same_name x y e name = ap (λ zs. bytes_eq zs name) ((bytes_eq-Decides x y).0 e)

same_behind : (x y : List ℕ) → bytes_eq x y ≡ true → (name : List ℕ) →
    bytes_eq name x ≡ bytes_eq name y
same_behind x y e name = ap (λ zs. bytes_eq name zs) ((bytes_eq-Decides x y).0 e)

left_out : (name : List ℕ) (first : Field) (rest : List Field) → has_name name first ≡ true →
    others name (first ∷ rest) ≡ others name rest
left_out name first rest e = ap (λ t. cond (not t) (first ∷ others name rest) (others name rest)) e

left_in : (name : List ℕ) (first : Field) (rest : List Field) → has_name name first ≡ false →
    others name (first ∷ rest) ≡ first ∷ others name rest
left_in name first rest e = ap (λ t. cond (not t) (first ∷ others name rest) (others name rest)) e

same_step : (t : Bool) (name : List ℕ) (field first : Field) (rest : List Field) →
    bytes_eq name field.name ≡ true → has_name field.name first ≡ t →
    others name (added rest field) ≡ others name rest →
    others name (cond t (with_value first field.value ∷ rest) (first ∷ added rest field))
    ≡ others name (first ∷ rest)
same_step true name field first rest e h ih =
    let n : has_name name first ≡ true = same_name name field.name e first.name ∙ h in
    left_out name (with_value first field.value) rest n ∙ sym (left_out name first rest n)
same_step false name field first rest e h ih = ap (λ fields. cond (not (has_name name first))
    (first ∷ fields) fields) ih

-- a field of the name that is left out changes none of the others
others_same : (name : List ℕ) (field : Field) (fields : List Field) → bytes_eq name field.name
    ≡ true → others name (added fields field) ≡ others name fields
others_same name field [] e = left_out name field [] e
others_same name field (first ∷ rest) e = same_step (has_name field.name first) name field first
    rest e refl (others_same name field rest e)

both_step : (u : Bool) (name : List ℕ) (field first : Field) (rest : List Field) →
    has_name field.name first ≡ false → has_name name first ≡ u →
    others name (added rest field) ≡ added (others name rest) field →
    cond (not u) (first ∷ others name (added rest field)) (others name (added rest field))
    ≡ added (cond (not u) (first ∷ others name rest) (others name rest)) field
both_step true name field first rest h g ih = ih
both_step false name field first rest h g ih =
    ap (λ fields. first ∷ fields) ih ∙ sym (ap (λ t. cond t (with_value first field.value
    ∷ others name rest) (first ∷ added (others name rest) field)) h)

other_step : (t : Bool) (name : List ℕ) (field first : Field) (rest : List Field) →
    bytes_eq name field.name ≡ false → has_name field.name first ≡ t →
    others name (added rest field) ≡ added (others name rest) field →
    others name (cond t (with_value first field.value ∷ rest) (first ∷ added rest field))
    ≡ added (others name (first ∷ rest)) field
other_step true name field first rest e h ih =
    let n : has_name name first ≡ false = sym (same_behind field.name first.name h name) ∙ e in
    left_in name (with_value first field.value) rest n ∙
    (sym (ap (λ t. cond t (with_value first field.value ∷ others name rest)
    (first ∷ added (others name rest) field)) h) ∙
    ap (λ fields. added fields field) (sym (left_in name first rest n)))
other_step false name field first rest e h ih = both_step
    (has_name name first) name field first rest h refl ih

-- a field of another name is added among the others
others_added : (name : List ℕ) (field : Field) (fields : List Field) → bytes_eq name field.name
    ≡ false → others name (added fields field) ≡ added (others name fields) field
others_added name field [] e = left_in name field [] e
others_added name field (first ∷ rest) e = other_step (has_name field.name first) name field first
    rest e refl (others_added name field rest e)

one_value : (t : Bool) (field : Field) → further_values (cond t (field ∷ []) [])
    ≡ cond t (codes ", " ++ field.value) []
one_value true field = append-nil (codes ", " ++ field.value)
one_value false field = refl

-- the values of one field more
more_values : (t : Bool) (first : Field) (rest : List Field) (field : Field) →
    has_name first.name field ≡ t →
    further_values (filter (λ other. has_name first.name other) (rest ++ field ∷ []))
    ≡ further_values (filter (λ other. has_name first.name other) rest)
    ++ cond t (codes ", " ++ field.value) []
more_values t first rest field e =
    ap further_values (filter-append (λ other. has_name first.name other) rest (field ∷ [])) ∙
    (flat_map-append (λ (other : Field). codes ", " ++ other.value)
    (filter (λ other. has_name first.name other) rest)
    (filter (λ other. has_name first.name other) (field ∷ [])) ∙
    ap (λ values. further_values (filter (λ other. has_name first.name other) rest) ++ values)
    (ap (λ u. further_values (cond u (field ∷ []) [])) e ∙ one_value t field))

abbrev of_value : Field → List ℕ → Field
of_value first value = record { name = first.name; value = value }

further_step : (t : Bool) (first : Field) (rest : List Field) (field : Field) →
    has_name first.name field ≡ t →
    with_further first (rest ++ field ∷ []) ≡ cond t
    (with_value (with_further first rest) field.value) (with_further first rest)
further_step true first rest field e =
    ap (of_value first) (ap (λ values. first.value ++ values) (more_values true first rest field e)
    ∙
    (sym (append_assoc first.value (further_values
    (filter (λ other. has_name first.name other) rest)) (codes ", " ++ field.value)) ∙
    sym (append_assoc (first.value ++ further_values
    (filter (λ other. has_name first.name other) rest)) (codes ", ") field.value)))
further_step false first rest field e =
    ap (of_value first) (ap (λ values. first.value ++ values) (more_values false first rest field e
    ∙ append-nil (further_values (filter (λ other. has_name first.name other) rest))))

more_step : (t : Bool) (first : Field) (rest : List Field) (field : Field) →
    has_name first.name field ≡ t → combined (rest ++ field ∷ []) ≡ added (combined rest) field →
    with_further first (rest ++ field ∷ []) ∷ others first.name (combined (rest ++ field ∷ [])) ≡
    cond t (with_value (with_further first rest) field.value ∷ others first.name (combined rest))
    (with_further first rest ∷ added (others first.name (combined rest)) field)
more_step true first rest field e ih =
    ap (λ new. new ∷ others first.name (combined (rest ++ field ∷ [])))
    (further_step true first rest field e) ∙
    ap (λ fields. with_value (with_further first rest) field.value ∷ fields)
    (ap (others first.name) ih ∙ others_same first.name field (combined rest) e)
more_step false first rest field e ih =
    ap (λ new. new ∷ others first.name (combined (rest ++ field ∷ [])))
    (further_step false first rest field e) ∙
    ap (λ fields. with_further first rest ∷ fields) (ap (others first.name) ih
    ∙ others_added first.name field (combined rest) e)

pub combined_more : (fields : List Field) (field : Field) → combined (fields ++ field ∷ [])
    ≡ added (combined fields) field
combined_more [] field = ap (λ value. of_value field value ∷ []) (append-nil field.value)
combined_more (first ∷ rest) field =
    more_step (has_name first.name field) first rest field refl (combined_more rest field) ∙
    ap (λ t. cond t (with_value (with_further first rest) field.value
    ∷ others first.name (combined rest)) (with_further first rest
    ∷ added (others first.name (combined rest)) field))
    (nat_list_eq_equiv.symm first.name field.name)

none_pass : (test : Field → Bool) (fields : List Field) → list_any test fields ≡ false →
    (filter test fields ≡ []) × (filter (λ field. not (test field)) fields ≡ fields)
none_pass test [] e = (refl, refl)
none_pass test (first ∷ rest) e =
    let ends = neither (test first) (list_any test rest) e in
    let more = none_pass test rest ends.1 in (
      ap (λ t. cond t (first ∷ filter test rest) (filter test rest)) ends.0 ∙ more.0,
      ap (λ t. cond (not t) (first ∷ filter (λ field. not (test field)) rest)
          (filter (λ field. not (test field)) rest)) ends.0 ∙ ap (λ fields. first ∷ fields) more.1,
    )

-- where no two names are equal, there is nothing to combine
pub combined_same : (fields : List Field) → names_differ fields ≡ true → combined fields ≡ fields
combined_same [] e = refl
combined_same (first ∷ rest) e =
    let ends = apart (list_any (λ other. has_name first.name other) rest) (names_differ rest) e in
    let none = none_pass (λ other. has_name first.name other) rest ends.0 in
    ap (λ fields. with_further first rest ∷ others first.name fields) (combined_same rest ends.1) ∙
    (ap (λ fields. with_further first rest ∷ fields) none.1 ∙
    ap (λ value. of_value first value ∷ rest) (ap (λ fields. first.value ++ further_values fields)
    none.0 ∙ append-nil first.value))
