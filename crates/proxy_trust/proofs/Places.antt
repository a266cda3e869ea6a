-- The place of the first element that passes a test, and that element.
use Rattle.std.proofs.Common.{◌≡◌, ℕ, Bool, List, length, get_or, None, Some, refl, sym, subst}
use Rattle.std.proofs.Common.{◌∙◌}
use Rattle.std.specs.Prelude.{find, nat_lt, position}
use Rattle.std.specs.List.{position_or_len}
use Rattle.std.proofs.lemmas.Bool.{ltb-true, ltb-false}
use Rattle.std.proofs.lemmas.List.Folds.{find_at}
use Rattle.std.proofs.lemmas.Option.{slice_get_past, slice_get_read}
use Rattle.byte_tables.proofs.Cuts.{by_no_test, by_test}

pub found : {X : Type 0} (p : X → Bool) (xs : List X) (k : ℕ) (x : X) → position p xs ≡ Some k →
    x ≡ get_or xs k x → Some x ≡ find p xs
found p xs k x e r =
    let at = by_test (nat_lt (position_or_len p xs) (length xs)) (position_or_len p xs) k e in
    sym (find_at p xs ∙ slice_get_read xs (length xs) (position_or_len p xs) x refl
    (ltb-true _ _ at.0) (subst (λ n. x ≡ get_or xs n x) (sym at.1) r))

pub not_found : {X : Type 0} (p : X → Bool) (xs : List X) → position p xs ≡ None → None ≡ find p xs
not_found p xs e =
    let past = by_no_test (nat_lt (position_or_len p xs) (length xs)) (position_or_len p xs) e in
    sym (find_at p xs ∙ slice_get_past xs (position_or_len p xs) (ltb-false _ _ past))
