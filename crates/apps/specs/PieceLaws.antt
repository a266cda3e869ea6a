-- The steps that are left are as many as is said.
use Rattle.std.specs.Prelude.{◌≤◌, ℕ, zero, suc, List, Option, None, Some, length, drop, refl}
use Rattle.std.specs.Simd.{first_chunks}
use Rattle.std.proofs.Common.{◌≡◌, ◌∙◌, ap}
use Rattle.std.proofs.Math.Nat.{le_of_eq}
use Rattle.std.proofs.lemmas.List.{length-map}
use Rattle.wsgi.specs.declared.step.Step.{Step}
use Rattle.wsgi.specs.declared.step.Step.TheVariants.{Piece}
use Rattle.apps.specs.Pieces.{piece_count, pieces, rest_of, count_of}

length-chunks : (n k : ℕ) (xs : List ℕ) → length (first_chunks n k xs) ≡ k
length-chunks n zero xs = refl
length-chunks n (suc k) xs = ap (λ j. suc j) (length-chunks n k (drop n xs))

pub length-pieces : (bytes : List ℕ) → length (pieces bytes) ≡ piece_count (length bytes)
length-pieces bytes =
    length-map (first_chunks 32768 (piece_count (length bytes)) bytes) (λ piece. Piece piece)
    ∙ length-chunks 32768 (piece_count (length bytes)) bytes

pub rest_is_counted : (start : Option Step) (bytes : List ℕ) →
    length (rest_of start bytes) ≤ count_of start (length bytes)
rest_is_counted None bytes = le_of_eq (length-pieces bytes)
rest_is_counted (Some step) bytes = le_of_eq (ap (λ n. suc n) (length-pieces bytes))
