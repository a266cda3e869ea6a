-- Where the fields of each name stand, with one field more.
use Rattle.std.proofs.Common.{◌≡◌, ◌+◌, ℕ, suc, zero, Bool, true, false, List, [], ◌∷◌, ◌++◌}
use Rattle.std.proofs.Common.{length, set, get_or, None, Some, refl, ap, sym, ◌∙◌, cond, arith}
use Rattle.std.specs.Prelude.{Option, option_map, position}
use Rattle.std.specs.List.{position_from}
use Rattle.std.specs.Borrow.{Bor}
use Rattle.std.specs.BTreeMap.{BTreeMap, get_by}
use Rattle.std.specs.Cmp.Lexicographic.{slice_cmp}
use Rattle.std.specs.Ordering.{nat_cmp}
use Rattle.std.specs.Str.{bytes_eq}
use Rattle.std.proofs.lemmas.Cmp.{nat_list_eq_equiv}
use Rattle.std.proofs.lemmas.Iterator.Adapters.{position_from-zero}
use Rattle.head_grammar.specs.declared.types.Field.{Field}
use Rattle.head_grammar.specs.Combining.{ArePlaces, with_value, added}
use Rattle.head_grammar.specs.FieldLines.{has_name}
use Rattle.std.proofs.lemmas.Slice.Eq.{bytes_eq-Decides}

later_step : (t : Bool) (test : Field → Bool) (i : ℕ) (rest : List Field) →
    position_from test (i + 1 + 1) rest ≡ option_map (λ n. suc n)
    (position_from test (i + 1) rest) →
    cond t (Some (i + 1)) (position_from test (i + 1 + 1) rest)
    ≡ option_map (λ n. suc n) (cond t (Some i) (position_from test (i + 1) rest))
later_step true test i rest ih = let e : i + 1 ≡ suc i = omega arith in ap Some e
later_step false test i rest ih = ih

from_later : (test : Field → Bool) (i : ℕ) (fields : List Field) → position_from test (i + 1) fields
    ≡ option_map (λ n. suc n) (position_from test i fields)
from_later test i [] = refl
from_later test i (first ∷ rest) = later_step (test first) test i rest
    (from_later test (i + 1) rest)

-- where the first field that passes stands, by cases
place_cons : (test : Field → Bool) (first : Field) (rest : List Field) →
    position test (first ∷ rest) ≡ cond (test first) (Some 0)
    (option_map (λ n. suc n) (position test rest))
place_cons test first rest =
    position_from-zero test (first ∷ rest) ∙
    ap (cond (test first) (Some 0)) (from_later test 0 rest
    ∙ ap (option_map (λ n. suc n)) (sym (position_from-zero test rest)))

some_step : (t : Bool) (first : Field) (rest : List Field) (field : Field) (r : Option ℕ) (k : ℕ) →
    ((j : ℕ) → r ≡ Some j → added rest field ≡ set rest j
    (with_value (get_or rest j field) field.value)) →
    cond t (Some 0) (option_map (λ n. suc n) r) ≡ Some k →
    cond t (with_value first field.value ∷ rest) (first ∷ added rest field)
    ≡ set (first ∷ rest) k (with_value (get_or (first ∷ rest) k field) field.value)
some_step true first rest field r zero ih e = refl
some_step true first rest field r (suc k) ih e = cc
some_step false first rest field None k ih e = cc
some_step false first rest field (Some j) zero ih e = cc
some_step false first rest field (Some j) (suc k) ih e = let same : j ≡ k = cc in
    ap (λ fields. first ∷ fields) (ih k (ap Some same))

-- a value goes to the field of its name
pub added_some : (fields : List Field) (field : Field) (k : ℕ) →
    position (λ other. has_name field.name other) fields ≡ Some k → added fields field
    ≡ set fields k (with_value (get_or fields k field) field.value)
added_some [] field k e = let wrong : None ≡ Some k = e in cc
added_some (first ∷ rest) field k e =
    some_step (has_name field.name first) first rest field
    (position (λ other. has_name field.name other) rest) k (added_some rest field)
    (sym (place_cons (λ other. has_name field.name other) first rest) ∙ e)

none_step : (t : Bool) (first : Field) (rest : List Field) (field : Field) (r : Option ℕ) →
    (r ≡ None → added rest field ≡ rest ++ field ∷ []) → cond t (Some 0) (option_map (λ n. suc n) r)
    ≡ None →
    cond t (with_value first field.value ∷ rest) (first ∷ added rest field)
    ≡ first ∷ (rest ++ field ∷ [])
none_step true first rest field r ih e = cc
none_step false first rest field None ih e = ap (λ fields. first ∷ fields) (ih refl)
none_step false first rest field (Some j) ih e = cc

-- a field whose name is new is the last one
pub added_none : (fields : List Field) (field : Field) →
    position (λ other. has_name field.name other) fields ≡ None → added fields field
    ≡ fields ++ field ∷ []
added_none [] field e = refl
added_none (first ∷ rest) field e =
    none_step (has_name field.name first) first rest field
    (position (λ other. has_name field.name other) rest) (added_none rest field)
    (sym (place_cons (λ other. has_name field.name other) first rest) ∙ e)

-- the first place, with one more at the end
abbrev last_place : Option ℕ → Bool → ℕ → Option ℕ
last_place (Some k) t n = Some k
last_place None t n = cond t (Some n) None

last_step : (s t : Bool) (r : Option ℕ) (n : ℕ) → cond s (Some 0)
    (option_map (λ n. suc n) (last_place r t n)) ≡ last_place
    (cond s (Some 0) (option_map (λ n. suc n) r)) t (suc n)
last_step true t r n = refl
last_step false t (Some k) n = refl
last_step false true None n = refl
last_step false false None n = refl

place_last : (test : Field → Bool) (fields : List Field) (field : Field) →
    position test (fields ++ field ∷ []) ≡ last_place (position test fields) (test field)
    (length fields)
place_last test [] field = place_cons test field []
place_last test (first ∷ rest) field =
    place_cons test first (rest ++ field ∷ []) ∙
    (ap (λ r. cond (test first) (Some 0) (option_map (λ n. suc n) r)) (place_last test rest field) ∙
    (last_step (test first) (test field) (position test rest) (length rest) ∙
    ap (λ r. last_place r (test field) (suc (length rest))) (sym (place_cons test first rest))))

new_step : (t u : Bool) (r : Option ℕ) (n : ℕ) → t ≡ u → (t ≡ true → r ≡ None) → last_place r u n
    ≡ cond t (Some n) r
new_step true true r n e none = ap (λ q. last_place q true n) (none refl)
new_step true false r n e none = cc
new_step false true r n e none = cc
new_step false false None n e none = refl
new_step false false (Some k) n e none = refl

-- where the names stand with a field at the end, whose name is new
pub places_last : (fields : List Field) (field : Field) (name : List ℕ) →
    position (λ other. has_name field.name other) fields ≡ None →
    position (λ other. has_name name other) (fields ++ field ∷ [])
    ≡ cond (bytes_eq field.name name) (Some (length fields))
    (position (λ other. has_name name other) fields)
places_last fields field name e =
    place_last (λ other. has_name name other) fields field ∙
    new_step (bytes_eq field.name name) (bytes_eq name field.name)
    (position (λ other. has_name name other) fields) (length fields) (nat_list_eq_equiv.symm field.name name)
    (λ same. ap (λ zs. position (λ other. has_name zs other) fields)
    (sym ((bytes_eq-Decides field.name name).0 same)) ∙ e)

-- what the map gives for a name is its place
pub place_is : (places : BTreeMap (Bor (List ℕ)) ℕ) (fields : List Field) (name key : List ℕ)
    (r : Option ℕ) → ArePlaces places fields → key ≡ name →
    r ≡ get_by (λ k. slice_cmp nat_cmp key k.now) places →
    position (λ other. has_name name other) fields ≡ r
place_is places fields name key r are e h = sym (are name)
    ∙ (ap (λ zs. get_by (λ k. slice_cmp nat_cmp zs k.now) places) (sym e) ∙ sym h)
