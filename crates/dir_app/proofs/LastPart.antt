-- The last part of a path, and the parts of a longer one.
use Rattle.std.specs.Prelude.{◌≡◌, ◌≤◌, ◌<◌, ◌+◌, ◌-◌, ℕ, suc, Bool, true, false, not, ◌==◌, List}
use Rattle.std.specs.Prelude.{[], ◌∷◌, ◌++◌, length, drop, refl}
use Rattle.std.specs.List.{after_last, onto_first, prefix_len, slice_split, suffix_len}
use Rattle.std.proofs.Common.{◌∙◌, ◌⊎◌, inl, inr, ap, cond, sym, subst, reverse, arith}
use Rattle.std.proofs.lemmas.List.{length-reverse, reverse-append}
use Rattle.byte_tables.proofs.Cuts.{some_part}
use Rattle.dir_app.specs.Names.{is_slash}

abbrev pub last_of : List (List ℕ) → List ℕ
last_of [] = []
last_of (part ∷ []) = part
last_of (part ∷ next ∷ rest) = last_of (next ∷ rest)

abbrev pub onto_last : List ℕ → List (List ℕ) → List (List ℕ)
onto_last y [] = y ∷ []
onto_last y (part ∷ []) = (part ++ y) ∷ []
onto_last y (part ∷ next ∷ rest) = part ∷ onto_last y (next ∷ rest)

-- the list of parts of a longer list
first_last : (x : ℕ) (y : List ℕ) (more : List (List ℕ)) →
    onto_first x (onto_last y more) ≡ onto_last y (onto_first x more)
first_last x y [] = refl
first_last x y (part ∷ []) = refl
first_last x y (part ∷ next ∷ rest) = refl

behind_empty : (y : List ℕ) (more : List (List ℕ)) → 0 < length more →
    [] ∷ onto_last y more ≡ onto_last y ([] ∷ more)
behind_empty y [] some = absurd (omega arith)
behind_empty y (next ∷ rest) some = refl

longer_by : (t : Bool) (x : ℕ) (y : List ℕ) (cut more : List (List ℕ)) → 0 < length cut →
    more ≡ onto_last y cut →
    cond t ([] ∷ more) (onto_first x more) ≡ onto_last y (cond t ([] ∷ cut) (onto_first x cut))
longer_by true x y cut more some same = ap (λ (parts : List (List ℕ)). [] ∷ parts) same ∙
    behind_empty y cut some
longer_by false x y cut more some same = ap (onto_first x) same ∙ first_last x y cut

pub longer : (y : List ℕ) → slice_split is_slash y ≡ y ∷ [] → (xs : List ℕ) →
    slice_split is_slash (xs ++ y) ≡ onto_last y (slice_split is_slash xs)
longer y whole [] = whole
longer y whole (x ∷ xs) =
    longer_by (is_slash x) x y (slice_split is_slash xs) (slice_split is_slash (xs ++ y))
    (some_part is_slash xs) (longer y whole xs)

-- a test's run at the end of a list that begins with one more
less_by : (t : Bool) (m n l : ℕ) → (n < l → m ≡ n) → cond t (1 + n) 0 < suc l →
    cond t (1 + m) 0 ≡ cond t (1 + n) 0
less_by true m n l same less = let e = same (omega arith) in omega arith
less_by false m n l same less = refl

whole_by : (t : Bool) (m n l c : ℕ) → (l ≤ n → m ≡ l + c) → suc l ≤ cond t (1 + n) 0 →
    cond t (1 + m) 0 ≡ suc l + c
whole_by true m n l c same whole = let e = same (omega arith) in omega arith
whole_by false m n l c same whole = absurd (omega arith)

one_by : (t : Bool) → cond t (1 + 0) 0 ≡ 0 + cond t 1 0
one_by true = refl
one_by false = refl

module _ (q : ℕ → Bool) where
  prefix_less : (ys : List ℕ) (x : ℕ) → prefix_len q ys < length ys →
      prefix_len q (ys ++ x ∷ []) ≡ prefix_len q ys
  prefix_less [] x less = absurd (omega arith)
  prefix_less (y ∷ ys) x less = less_by (q y) (prefix_len q (ys ++ x ∷ [])) (prefix_len q ys)
      (length ys) (prefix_less ys x) less

  prefix_whole : (ys : List ℕ) (x : ℕ) → length ys ≤ prefix_len q ys →
      prefix_len q (ys ++ x ∷ []) ≡ length ys + cond (q x) 1 0
  prefix_whole [] x whole = one_by (q x)
  prefix_whole (y ∷ ys) x whole =
      whole_by (q y) (prefix_len q (ys ++ x ∷ [])) (prefix_len q ys) (length ys) (cond (q x) 1 0)
      (prefix_whole ys x) whole

  suffix_less : (x : ℕ) (xs : List ℕ) → suffix_len q xs < length xs →
      suffix_len q (x ∷ xs) ≡ suffix_len q xs
  suffix_less x xs less =
      ap (prefix_len q) (reverse-append (x ∷ []) xs) ∙ prefix_less (reverse xs) x
      (let l = length-reverse xs in omega arith)

  suffix_whole : (x : ℕ) (xs : List ℕ) → suffix_len q xs ≡ length xs →
      suffix_len q (x ∷ xs) ≡ length xs + cond (q x) 1 0
  suffix_whole x xs whole =
      ap (prefix_len q) (reverse-append (x ∷ []) xs)
      ∙ (prefix_whole (reverse xs) x (let l = length-reverse xs in omega arith) ∙
      ap (λ n. n + cond (q x) 1 0) (length-reverse xs))

last_behind : (part : List ℕ) (more : List (List ℕ)) → 0 < length more →
    last_of (part ∷ more) ≡ last_of more
last_behind part [] some = absurd (omega arith)
last_behind part (next ∷ rest) some = refl

last_onto : (x : ℕ) (more : List (List ℕ)) → 2 ≤ length more →
    (last_of (onto_first x more) ≡ last_of more) × (2 ≤ length (onto_first x more))
last_onto x [] two = absurd (omega arith)
last_onto x (part ∷ []) two = absurd (omega arith)
last_onto x (part ∷ next ∷ rest) two = (refl, two)

last_split : (t : Bool) (x : ℕ) (more : List (List ℕ)) → 2 ≤ length more →
    (last_of (cond t ([] ∷ more) (onto_first x more)) ≡ last_of more)
    × (2 ≤ length (cond t ([] ∷ more) (onto_first x more)))
last_split true x more two = (last_behind [] more (omega arith), omega arith)
last_split false x more two = last_onto x more two

-- the last part is what stands behind the last slash
abbrev no_slash : ℕ → Bool
no_slash x = not (is_slash x)

abbrev Ends : List ℕ → List (List ℕ) → Type 0
Ends xs cut =
    ((suffix_len no_slash xs < length xs) × (2 ≤ length cut)
    × (after_last is_slash xs ≡ last_of cut))
    ⊎ ((suffix_len no_slash xs ≡ length xs) × (cut ≡ xs ∷ []))

drop_more : (x : ℕ) (xs : List ℕ) (k n : ℕ) → k < n → drop (suc n - k) (x ∷ xs) ≡ drop (n - k) xs
drop_more x xs k n less = let e : suc n - k ≡ suc (n - k) =
    omega arith in ap (λ j. drop j (x ∷ xs)) e

ends_less : (x : ℕ) (xs : List ℕ) (cut : List (List ℕ)) → suffix_len no_slash xs < length xs →
    2 ≤ length cut →
    after_last is_slash xs ≡ last_of cut → Ends (x ∷ xs)
    (cond (is_slash x) ([] ∷ cut) (onto_first x cut))
ends_less x xs cut less two same =
    let k : suffix_len no_slash (x ∷ xs) ≡ suffix_len no_slash xs =
    suffix_less no_slash x xs less in
    let split = last_split (is_slash x) x cut two in
    inl (
      omega arith,
      split.1,
      ap (λ k. drop (suc (length xs) - k) (x ∷ xs)) k
          ∙ (drop_more x xs (suffix_len no_slash xs) (length xs) less ∙ (same ∙ sym split.0)),
    )

ends_by : (t : Bool) (x : ℕ) (xs : List ℕ) → suffix_len no_slash (x ∷ xs) ≡ length xs + cond (not t)
    1 0 →
    Ends (x ∷ xs) (cond t ([] ∷ xs ∷ []) (onto_first x (xs ∷ [])))
ends_by true x xs k =
    let one : suc (length xs) - suffix_len no_slash (x ∷ xs) ≡ 1 = omega arith in
    inl (omega arith, omega arith, ap (λ n. drop n (x ∷ xs)) one)
ends_by false x xs k = inr (omega arith, refl)

ends : (xs : List ℕ) → Ends xs (slice_split is_slash xs)
ends [] = inr (refl, refl)
ends (x ∷ xs) = elim (ends xs) [
  | inl e ↦ ends_less x xs (slice_split is_slash xs) e.0 e.1 e.2
  | inr e ↦ subst (λ cut. Ends (x ∷ xs) (cond (is_slash x) ([] ∷ cut) (onto_first x cut))) (sym e.1)
      (ends_by (is_slash x) x xs (suffix_whole no_slash x xs e.0))
]

last_is : (xs : List ℕ) → after_last is_slash xs ≡ last_of (slice_split is_slash xs)
last_is xs = elim (ends xs) [
  | inl e ↦ e.2
  | inr e ↦ let none : length xs - suffix_len no_slash xs ≡ 0 =
      omega arith in ap (λ n. drop n xs) none ∙ sym (ap last_of e.1)
]

pub behind_slash : (b : ℕ) (bs : List ℕ) → (b == 47) ≡ true →
    after_last is_slash (b ∷ bs) ≡ last_of (slice_split is_slash bs)
behind_slash b bs slash =
    last_is (b ∷ bs)
    ∙ (ap (λ (t : Bool). last_of (cond t ([] ∷ slice_split is_slash bs)
    (onto_first b (slice_split is_slash bs)))) slash
    ∙ last_behind [] (slice_split is_slash bs) (some_part is_slash bs))
