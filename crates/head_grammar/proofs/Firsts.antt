-- The place of the first element that passes a test, or the end.
use Rattle.std.proofs.Common.{◌≡◌, ◌≤◌, ℕ, Bool, true, false, List, length, None, Some, refl, cond}
use Rattle.std.proofs.Common.{arith}
use Rattle.std.specs.Prelude.{not, nat_lt, position, unwrap_or}
use Rattle.std.specs.List.{position_or_len}
use Rattle.std.proofs.lemmas.Bool.{ltb-false}
use Rattle.std.proofs.lemmas.List.Sums.{prefix_len-le-length}

by_test : (t : Bool) (n size : ℕ) → nat_lt n size ≡ t → n ≤ size →
    unwrap_or (cond t (Some n) None) size ≡ n
by_test true n size e l = refl
by_test false n size e l = let high = ltb-false n size e in omega arith

pub first_or_end : (p : ℕ → Bool) (xs : List ℕ) → unwrap_or (position p xs) (length xs)
    ≡ position_or_len p xs
first_or_end p xs = by_test (nat_lt (position_or_len p xs) (length xs)) (position_or_len p xs)
    (length xs) refl (prefix_len-le-length (λ x. not (p x)) xs)
