-- Numbers that stand in a list.
use Rattle.std.proofs.Common.{◌≡◌, ◌<◌, ◌-◌, ◌||◌, ℕ, zero, suc, Bool, true, false, List, [], ◌∷◌}
use Rattle.std.proofs.Common.{length, refl, arith, nat_eq, slice_get, min, get_or, eq-eqb}
use Rattle.outside.specs.Memory.{is_listed}
use Rattle.outside.specs.MemLink.{within}
use Rattle.outside.specs.Moments.{moment_at}

or-true : (b : Bool) → (b || true) ≡ true
or-true true = refl
or-true false = refl

-- a list in which a number stands has an item
pub some_listed : (numbers : List ℕ) (n : ℕ) → is_listed numbers n ≡ true → 0 < length numbers
some_listed [] n e = absurd (grind (arith, e))
some_listed (y ∷ numbers) n e = omega arith

-- a limit that lets nothing through is 0
pub zero_listed : (limits : List ℕ) (k n : ℕ) → 0 < n → within (slice_get limits k) n ≡ 0 →
    is_listed limits 0 ≡ true
zero_listed [] k n pos none = absurd (omega (arith, none))
zero_listed (l ∷ limits) zero n pos none = let e : l ≡ 0 = omega (arith, none) in rw e refl
zero_listed (l ∷ limits) (suc k) n pos none =
    rw (zero_listed limits k n pos none) (or-true (nat_eq l 0))

-- each item of a list stands in it
item_listed : (numbers : List ℕ) (k : ℕ) → k < length numbers →
    is_listed numbers (get_or numbers k 0) ≡ true
item_listed [] k within = absurd (omega (arith, within))
item_listed (y ∷ numbers) zero within = rw (eq-eqb y y refl) refl
item_listed (y ∷ numbers) (suc k) within =
    rw (item_listed numbers k (omega (arith, within))) (or-true (nat_eq y (get_or numbers k 0)))

-- the moment of each turn is one of the moments
pub moment_listed : (moments : List ℕ) (turn : ℕ) → 0 < length moments →
    is_listed moments (moment_at moments turn) ≡ true
moment_listed moments turn some = item_listed moments (min turn (length moments - 1)) (omega arith)
