-- How many elements pass a test at the front of a list.
use Rattle.std.proofs.Common.{◌≡◌, ◌≤◌, ◌+◌, ℕ, Bool, true, false, List, [], ◌∷◌, length, refl, ap}
use Rattle.std.proofs.Common.{◌∙◌, cond, arith}
use Rattle.std.specs.Prelude.{None, Some, not, nat_lt, position, unwrap_or}
use Rattle.std.specs.List.{prefix_len, position_or_len}
use Rattle.std.proofs.lemmas.Bool.{ltb-false}
use Rattle.std.proofs.lemmas.List.Sums.{prefix_len-le-length}

double : (t : Bool) → not (not t) ≡ t
double true = refl
double false = refl

twice : (p : ℕ → Bool) (xs : List ℕ) → position_or_len (λ b. not (p b)) xs ≡ prefix_len p xs
twice p [] = refl
twice p (x ∷ xs) =
    ap (λ t. cond t (1 + position_or_len (λ b. not (p b)) xs) 0) (double (p x))
    ∙ ap (λ n. cond (p x) (1 + n) 0) (twice p xs)

first_by : (t : Bool) (n size : ℕ) → nat_lt n size ≡ t → n ≤ size →
    unwrap_or (cond t (Some n) None) size ≡ n
first_by true n size e l = refl
first_by false n size e l = let high = ltb-false n size e in omega arith

-- the place of the first element that fails is how many pass before it
pub first_other : (p : ℕ → Bool) (xs : List ℕ) → unwrap_or (position (λ b. not (p b)) xs)
    (length xs) ≡ prefix_len p xs
first_other p xs =
    let same = twice p xs in
    first_by (nat_lt (position_or_len (λ b. not (p b)) xs) (length xs))
    (position_or_len (λ b. not (p b)) xs) (length xs) refl (let l = prefix_len-le-length p xs in
    omega arith) ∙ same
