-- A list that is cut at each element that passes a test.
use Rattle.std.proofs.Common.{◌≡◌, ◌≤◌, ◌<◌, ◌+◌, ◌-◌, ℕ, Bool, true, false, List, [], ◌∷◌, length}
use Rattle.std.proofs.Common.{take, drop, None, Some, refl, ap, subst, cond, arith}
use Rattle.std.specs.Prelude.{not, nat_lt, position}
use Rattle.std.specs.List.{slice_split, onto_first, position_or_len}
use Rattle.std.proofs.lemmas.Bool.{ltb-true, ltb-false}
use Rattle.std.proofs.lemmas.List.{length-drop, take_all}
use Rattle.std.proofs.lemmas.List.Splits.{slice_split_first, length-slice_split}

-- a place that is told where a test is true
pub by_test : (t : Bool) (n k : ℕ) → cond t (Some n) None ≡ Some k → (t ≡ true) × (n ≡ k)
by_test true n k e = let same : n ≡ k = cc in (refl, same)
by_test false n k e = cc

pub by_no_test : (t : Bool) (n : ℕ) → cond t (Some n) None ≡ None → t ≡ false
by_no_test true n e = cc
by_no_test false n e = refl

module _ (p : ℕ → Bool) where
  -- the first part ends at the place of the first such element
  pub cut_some : (xs : List ℕ) (k : ℕ) → position p xs ≡ Some k → slice_split p xs ≡ take k xs ∷
      slice_split p (drop (k + 1) xs)
  cut_some xs k e =
      let found = by_test (nat_lt (position_or_len p xs) (length xs)) (position_or_len p xs) k e in
      subst (λ n. slice_split p xs ≡ take n xs ∷ slice_split p (drop (n + 1) xs)) found.1
      (slice_split_first p xs 0 (ltb-true _ _ found.0))

  whole_by : (t : Bool) (x : ℕ) (xs : List ℕ) (n : ℕ) → (length xs ≤ n → slice_split p xs ≡ xs ∷ [])
      → length (x ∷ xs) ≤ cond t 0 (1 + n) →
      cond t ([] ∷ slice_split p xs) (onto_first x (slice_split p xs)) ≡ (x ∷ xs) ∷ []
  whole_by true x xs n ih l = absurd (omega arith)
  whole_by false x xs n ih l = ap (onto_first x) (ih (omega arith))

  first_step : (t : Bool) (n : ℕ) → cond (not t) (1 + n) 0 ≡ cond t 0 (1 + n)
  first_step true n = refl
  first_step false n = refl

  whole_if : (xs : List ℕ) → length xs ≤ position_or_len p xs → slice_split p xs ≡ xs ∷ []
  whole_if [] l = refl
  whole_if (x ∷ xs) l = whole_by (p x) x xs (position_or_len p xs) (whole_if xs)
      (subst (λ n. length (x ∷ xs) ≤ n) (first_step (p x) (position_or_len p xs)) l)

  -- without such an element the list is one part
  pub cut_none : (xs : List ℕ) → position p xs ≡ None → slice_split p xs ≡ xs ∷ []
  cut_none xs e = whole_if xs (ltb-false (position_or_len p xs) (length xs)
      (by_no_test (nat_lt (position_or_len p xs) (length xs)) (position_or_len p xs) e))

  -- a list has a part at least
  pub some_part : (xs : List ℕ) → 0 < length (slice_split p xs)
  some_part xs = let e = length-slice_split p xs in omega arith

-- the slice of a text from a place on
pub rest_is : (text : List ℕ) (start : ℕ) → take (length text - start) (drop start text) ≡
    drop start text
rest_is text start = take_all (length text - start) (drop start text)
    (let l = length-drop start text in omega arith)
