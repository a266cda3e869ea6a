-- The parts of a path, one by one.
use Rattle.std.proofs.Common.{◌≡◌, ◌<◌, ◌∙◌, ℕ, Bool, true, false, List, [], ◌∷◌, length, refl, ap}
use Rattle.std.proofs.Common.{arith, inl, inr}
use Rattle.std.specs.Prelude.{◌&&◌, nat_lt, IsUtf8}
use Rattle.std.specs.Str.{is_utf8}
use Rattle.std.proofs.lemmas.Bool.{cases_Bool}
use Rattle.std.proofs.lemmas.Str.{IsUtf8-from_is_utf8, is_utf8-from_IsUtf8}
use Rattle.dir_app.specs.Names.{are_names, is_name}

step : (part : List ℕ) (more : List (List ℕ)) → 0 < length more →
    are_names (part ∷ more) ≡ (nat_lt 0 (length part) && is_name part && are_names more)
step part [] some = absurd (omega arith)
step part (next ∷ rest) some = refl

pub empty_part_ends : (whole : List (List ℕ)) (part : List ℕ) (more : List (List ℕ)) →
    whole ≡ part ∷ more → 0 < length more →
    length part ≡ 0 → are_names whole ≡ false
empty_part_ends whole [] more cut some none = ap are_names cut ∙ step [] more some
empty_part_ends whole (b ∷ bs) more cut some none = absurd (omega arith)

by_test : (t u : Bool) → (t && false && u) ≡ false
by_test true u = refl
by_test false u = refl

pub is_text : (bytes : List ℕ) → IsUtf8 bytes → is_utf8 bytes ≡ true
is_text bytes valid = is_utf8-from_IsUtf8 bytes valid

pub is_no_text : (bytes : List ℕ) → ¬ (IsUtf8 bytes) → is_utf8 bytes ≡ false
is_no_text bytes other = elim (cases_Bool (is_utf8 bytes)) [
  | inl valid ↦ absurd (other (IsUtf8-from_is_utf8 bytes valid))
  | inr invalid ↦ invalid
]
