-- Whether names differ, as neighbours tell it where the names are sorted.
use Rattle.std.proofs.Common.{◌≡◌, ◌+◌, ◌<◌, ℕ, Bool, true, false, List, [], ◌∷◌, Bor, map}
use Rattle.std.proofs.Common.{length, get_or, refl, ap, sym, ◌∙◌, arith}
use Rattle.std.specs.Prelude.{not, ◌&&◌, ◌||◌}
use Rattle.std.specs.List.{list_any, AllByRecursion, AllAdjacentBelow, IsAllAdjacentAnswer}
use Rattle.std.specs.List.{IsDistinct}
use Rattle.std.specs.List.Sorted.{IsPermutation, IsSorted, IsStrictlySortedBy}
use Rattle.std.specs.Cmp.Lexicographic.{on_texts, slice_cmp, texts_ties}
use Rattle.std.specs.Ordering.{eq_by_cmp, is_eq, is_lt, nat_cmp, ordering_reverse}
use Rattle.std.specs.declared.cmp.Ordering.{Ordering}
use Rattle.std.specs.declared.cmp.Ordering.TheVariants.{Less, Equal, Greater}
use Rattle.std.proofs.lemmas.Cmp.{eq_by_cmp_equiv}
use Rattle.std.proofs.lemmas.List.Sorted.{IsPermutation-sym}
use Rattle.std.proofs.lemmas.Map.Keys.{apart_from_distinct, sorted_from_all_adjacent}
use Rattle.std.proofs.lemmas.Map.Keys.{IsDistinct-from_sorted, IsDistinct-IsPermutation}
use Rattle.head_grammar.specs.declared.types.Field.{Field}
use Rattle.head_grammar.specs.FieldLines.{has_name, names_differ}
use Rattle.head_grammar.proofs.OneByOne.{apart, neither}

abbrev Name : Type 0
Name = Bor (List ℕ)

abbrev pub by_text : Name → Name → Ordering
by_text x y = slice_cmp nat_cmp x.now y.now

abbrev AreNames : List Name → List Field → Type 0
AreNames names fields = map (λ name. name.now) names ≡ map (λ field. field.name) fields

any_same : (key : Name) (fields : List Field) (names : List Name) → AreNames names fields →
    list_any (λ field. has_name key.now field) fields ≡ list_any (eq_by_cmp by_text key) names
any_same key [] [] same = refl
any_same key [] (name ∷ names) same = absurd (cc)
any_same key (field ∷ fields) [] same = absurd (cc)
any_same key (field ∷ fields) (name ∷ names) same =
    let first : field.name ≡ name.now = cc in
    let test : has_name key.now field ≡ eq_by_cmp by_text key name =
    ap (λ text. has_name key.now (record { name = text; value = field.value })) first
    ∙ texts_ties key.now name.now in
    ap (λ b. b || list_any (λ field. has_name key.now field) fields) test
    ∙ ap (λ b. eq_by_cmp by_text key name || b) (any_same key fields names (cc))

none_any : (p : Name → Bool) (names : List Name) → AllByRecursion (λ name. p name ≡ false) names →
    list_any p names ≡ false
none_any p [] none = refl
none_any p (name ∷ names) none =
    ap (λ b. b || list_any p names) none.0 ∙ none_any p names none.1

any_none : (p : Name → Bool) (names : List Name) → list_any p names ≡ false →
    AllByRecursion (λ name. p name ≡ false) names
any_none p [] e = tt
any_none p (name ∷ names) e =
    let ends = neither (p name) (list_any p names) e in (ends.0, any_none p names ends.1)

behind : (field : Field) (fields : List Field) (name : Name) (names : List Name) →
    AreNames (name ∷ names) (field ∷ fields) →
    list_any (λ other. has_name field.name other) fields ≡ list_any (eq_by_cmp by_text name) names
behind field fields name names same =
    let first : field.name ≡ name.now = cc in
    ap (λ text. list_any (λ other. has_name text other) fields) first
    ∙ any_same name fields names (cc)

differ : (fields : List Field) (names : List Name) → AreNames names fields →
    IsDistinct (eq_by_cmp by_text) names → names_differ fields ≡ true
unfolding IsDistinct
differ [] [] same distinct = refl
differ [] (name ∷ names) same distinct = absurd (cc)
differ (field ∷ fields) [] same distinct = absurd (cc)
differ (field ∷ fields) (name ∷ names) same distinct =
    ap (λ b. not b && names_differ fields) (behind field fields name names same
    ∙ none_any (eq_by_cmp by_text name) names distinct.0)
    ∙ differ fields names (cc) distinct.1

distinct : (fields : List Field) (names : List Name) → AreNames names fields →
    names_differ fields ≡ true → IsDistinct (eq_by_cmp by_text) names
unfolding IsDistinct
distinct [] [] same e = tt
distinct [] (name ∷ names) same e = absurd (cc)
distinct (field ∷ fields) [] same e = absurd (cc)
distinct (field ∷ fields) (name ∷ names) same e =
    let ends = apart (list_any (λ other. has_name field.name other) fields) (names_differ fields) e
    in (
      any_none (eq_by_cmp by_text name) names (sym (behind field fields name names same) ∙ ends.0),
      distinct fields names (cc) ends.1,
    )

less : (o : Ordering) → true ≡ is_lt o → o ≡ Less
less Less e = refl
less Equal e = cc
less Greater e = cc

rising : (names : List Name) →
    AllAdjacentBelow (λ x y. true ≡ is_lt (by_text x y)) names (length names) →
    IsStrictlySortedBy by_text names
unfolding IsStrictlySortedBy
rising [] up = tt
rising (name ∷ names) up =
    sorted_from_all_adjacent (on_texts (λ (x : Name). x.now)) (name ∷ names) name
    (λ k within. less (by_text (get_or (name ∷ names) k name)
    (get_or (name ∷ names) (k + 1) name)) (up k name within))

tied : (a b : Ordering) → a ≡ ordering_reverse b → false ≡ is_lt a → is_lt b ≡ false →
    is_eq a ≡ true
tied Less b reversed up down = cc
tied Equal b reversed up down = refl
tied Greater Less reversed up down = cc
tied Greater Equal reversed up down = cc
tied Greater Greater reversed up down = cc

-- names in another order differ as before
moved : (old new : List Name) → IsPermutation old new → IsDistinct (eq_by_cmp by_text) old →
    IsDistinct (eq_by_cmp by_text) new
moved old new same = IsDistinct-IsPermutation (eq_by_cmp by_text)
    (eq_by_cmp_equiv (on_texts (λ (x : Name). x.now))).symm old new same

-- neighbours that don't rise are equal
equal : (names : List Name) (k : ℕ) (d : Name) → k + 1 < length names →
    IsSorted by_text names →
    false ≡ is_lt (by_text (get_or names k d) (get_or names (k + 1) d)) →
    IsDistinct (eq_by_cmp by_text) names → false ≡ true
equal names k d within sorted up distinct =
    let x = get_or names k d in
    let y = get_or names (k + 1) d in
    sym (apart_from_distinct (eq_by_cmp by_text) names k (k + 1) d distinct (omega arith) within)
    ∙ tied (by_text x y) (by_text y x) ((on_texts (λ (x : Name). x.now)).antisymm x y) up
    (sorted k d (omega arith) within)

refuted : (b : Bool) → (b ≡ true → false ≡ true) → false ≡ b
refuted true wrong = wrong refl
refuted false wrong = refl

pub sorted_tell : (fields : List Field) (old new : List Name) (rise : Bool) →
    AreNames old fields → IsPermutation old new → IsSorted by_text new →
    IsAllAdjacentAnswer (λ x y b. b ≡ is_lt (by_text x y)) new rise → rise ≡ names_differ fields
sorted_tell fields old new true same shuffled sorted up =
    sym (differ fields old same (moved new old (IsPermutation-sym old new shuffled)
    (IsDistinct-from_sorted by_text new (rising new up))))
sorted_tell fields old [] false same shuffled sorted up =
    let within = up.1 in absurd (omega arith)
sorted_tell fields old (name ∷ names) false same shuffled sorted up =
    refuted (names_differ fields)
    (λ e. equal (name ∷ names) up.0 name up.1 sorted (up.2 name)
    (moved old (name ∷ names) shuffled (distinct fields old same e)))
