-- Choices by tests, and what tests of numbers say.
use Rattle.std.proofs.Common.{◌≡◌, ℕ, Bool, true, false, refl, cond, arith}
use Rattle.std.specs.Prelude.{nat_eq, ◌||◌}
use Rattle.std.proofs.lemmas.Grind.{common_steps}

-- a choice has a property where each side has it
pub by_cond : {X : Type 0} (P : X → Type 0) (b : Bool) (x y : X) → (b ≡ true → P x) →
    (b ≡ false → P y) → P (cond b x y)
by_cond P true x y f g = f refl
by_cond P false x y f g = g refl

pub either : {P : Type 0} (b : Bool) → (b ≡ true → P) → (b ≡ false → P) → P
either true f g = f refl
either false f g = g refl

pub by_or : {P : Type 0} (a b : Bool) → (a || b) ≡ true → (a ≡ true → P) → (b ≡ true → P) → P
by_or true b h f g = f refl
by_or false b h f g = g h

pub eq_of : (m n : ℕ) → nat_eq m n ≡ true → m ≡ n
eq_of m n h = grind (arith, common_steps)

pub apart : (m n : ℕ) → nat_eq m n ≡ false → m ≡ n → ⊥
apart m n h e = grind (arith, common_steps)

pub test_true : (m n : ℕ) → m ≡ n → nat_eq m n ≡ true
test_true m n e = grind (arith, common_steps)

pub test_false : (m n : ℕ) → (m ≡ n → ⊥) → nat_eq m n ≡ false
test_false m n f = grind (arith, common_steps)
