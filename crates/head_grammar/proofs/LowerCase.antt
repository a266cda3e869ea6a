-- An underscore stays one in lower case, and nothing becomes one.
use Rattle.std.proofs.Common.{◌≡◌, ℕ, List, [], ◌∷◌, map, refl, ap, ◌∙◌, arith}
use Rattle.std.specs.Prelude.{◌==◌, ◌||◌}
use Rattle.std.specs.List.{list_any}
use Rattle.std.specs.Char.{to_ascii_lowercase}
use Rattle.std.proofs.lemmas.Bool.Decides.{nat_tests}

same_test : (b : ℕ) → (to_ascii_lowercase b == 95) ≡ (b == 95)
same_test b = grind (arith, nat_tests)

pub no_other : (bytes : List ℕ) → list_any (λ b. b == 95) (map to_ascii_lowercase bytes)
    ≡ list_any (λ b. b == 95) bytes
no_other [] = refl
no_other (b ∷ bs) = ap (λ t. t || list_any (λ c. c == 95) (map to_ascii_lowercase bs)) (same_test b)
    ∙ ap (λ t. b == 95 || t) (no_other bs)
