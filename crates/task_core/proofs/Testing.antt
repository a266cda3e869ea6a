-- Tests that are true or false.
use Rattle.std.proofs.Common.{◌≡◌, ℕ, suc, Bool, true, false, List, [], ◌∷◌, length, refl, sym, ◌∙◌}
use Rattle.std.proofs.Common.{arith}
use Rattle.std.proofs.lemmas.Bool.Decides.{nat_tests}
use Rattle.std.specs.Prelude.{nat_lt, ◌&&◌, ◌||◌, ◌==◌}
use Rattle.task_core.specs.Scripts.{has_bytes}

pub or_false : (b : Bool) → (b || false) ≡ b
or_false true = refl
or_false false = refl

pub or_true : (b : Bool) → (b || true) ≡ true
or_true true = refl
or_true false = refl

pub and_false : (b : Bool) → (b && false) ≡ false
and_false true = refl
and_false false = refl

pub and_true : (b : Bool) → (b && true) ≡ b
and_true true = refl
and_true false = refl

pub one_less : (m n : ℕ) → nat_lt (suc m) (suc n) ≡ nat_lt m n
one_less m n = grind (arith, nat_tests)

pub none_less : (n : ℕ) → nat_lt 0 (suc n) ≡ true
none_less n = grind (arith, nat_tests)

pub no_bytes : (bytes : List ℕ) → has_bytes bytes ≡ false → bytes ≡ []
no_bytes [] h = refl
no_bytes (b ∷ bs) h = let no : true ≡ false = sym (none_less (length bs)) ∙ h in absurd (cc)

pub some_bytes : (bytes : List ℕ) → (length bytes == 0) ≡ false → has_bytes bytes ≡ true
some_bytes bytes h = grind (arith, nat_tests)

pub empty_is : (bytes : List ℕ) → (length bytes == 0) ≡ true → bytes ≡ []
empty_is bytes h = let none : has_bytes bytes ≡ false = grind (arith, nat_tests) in no_bytes bytes
    none
