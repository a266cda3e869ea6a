-- How the links of a rehearsal give and take.
use Rattle.std.proofs.Common.{◌≡◌, ◌+◌, ℕ, zero, suc, Bool, true, false, refl, replicate, arith}
use Rattle.std.specs.Prelude.{◌||◌, nat_eq}
use Rattle.outside.specs.Memory.{is_listed}

some_count : (k : ℕ) → nat_eq (1 + k) 0 ≡ false
some_count k = grind (arith)

or_none : (a b : Bool) → a ≡ false → b ≡ false → (a || b) ≡ false
or_none true b h k = cc
or_none false b h k = k

-- a count above 0, so many times
pub unlisted : (n k : ℕ) → is_listed (replicate n (1 + k)) 0 ≡ false
unlisted zero k = refl
unlisted (suc n) k =
    or_none (nat_eq (1 + k) 0) (is_listed (replicate n (1 + k)) 0) (some_count k) (unlisted n k)
