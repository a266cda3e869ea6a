-- The first piece of a body, and those behind it.
use Rattle.std.proofs.Common.{◌≡◌, ◌+◌, ◌-◌, ℕ, zero, suc, Bool, true, false, List, [], ◌∷◌, ◌++◌}
use Rattle.std.proofs.Common.{length, take, cond, refl, ap, sym, ◌∙◌, append_assoc, arith}
use Rattle.std.proofs.lemmas.Bool.Decides.{nat_tests}
use Rattle.std.proofs.lemmas.List.{length-append}
use Rattle.std.proofs.Math.Seq.{take-nil}
use Rattle.std.specs.Prelude.{nat_lt}
use Rattle.std.specs.List.{concat, flat_map}
use Rattle.task_core.specs.Answer.{body_bytes, chunk, last_chunk, layout_closes}
use Rattle.task_core.specs.Scripts.{has_bytes}
use Rattle.task_core.specs.Sending.{ending, left_behind, passed}
use Rattle.task_core.specs.declared.layout.Layout.{Layout}
use Rattle.task_core.specs.declared.layout.Layout.TheVariants.{NoContent, NotModified, HeadOnly}
use Rattle.task_core.specs.declared.layout.Layout.TheVariants.{Known, Chunked, UntilClose}

none_less : (n : ℕ) → n ≡ n - 0
none_less n = omega arith

gone : (n : ℕ) → 0 ≡ 0 - suc n
gone n = omega arith

same_left : (n k : ℕ) → n - k ≡ suc n - suc k
same_left n k = omega arith

take_more : (n : ℕ) (xs ys : List ℕ) → take n (xs ++ ys) ≡ take n xs ++ take (n - length xs) ys
take_more n [] ys = ap (λ k. take k ys) (none_less n) ∙ ap (λ l. l ++ take (n - 0) ys)
    (sym (take-nil n))
take_more zero (x ∷ xs) ys = ap (λ k. take k ys) (gone (length xs))
take_more (suc n) (x ∷ xs) ys =
    ap (λ l. x ∷ l) (take_more n xs ys) ∙ ap (λ k. x ∷ (take n xs ++ take k ys))
    (same_left n (length xs))

less_left : (n k m : ℕ) → nat_lt (k + m) n ≡ nat_lt m (n - k)
less_left n k m = grind (arith, nat_tests)

pub piece_sent : (layout : Layout) (bytes : List ℕ) (pieces : List (List ℕ)) (failed : Bool) →
    has_bytes bytes ≡ true →
    body_bytes layout (bytes ∷ pieces) failed
    ≡ passed layout bytes ++ body_bytes (left_behind layout bytes) pieces failed
piece_sent NoContent bytes pieces failed some = refl
piece_sent (NotModified declared) bytes pieces failed some = refl
piece_sent (HeadOnly known) bytes pieces failed some = refl
piece_sent (Known n) bytes pieces failed some = take_more n bytes (concat pieces)
piece_sent Chunked bytes pieces failed some =
    append_assoc (chunk bytes) (flat_map chunk pieces) (last_chunk failed)
    ∙ ap (λ t. cond t (chunk bytes) [] ++ (flat_map chunk pieces ++ last_chunk failed)) (sym some)
piece_sent UntilClose bytes pieces failed some = refl

pub piece_closes : (layout : Layout) (bytes : List ℕ) (pieces : List (List ℕ)) →
    layout_closes layout (bytes ∷ pieces) ≡ layout_closes (left_behind layout bytes) pieces
piece_closes NoContent bytes pieces = refl
piece_closes (NotModified declared) bytes pieces = refl
piece_closes (HeadOnly known) bytes pieces = refl
piece_closes (Known n) bytes pieces =
    ap (λ k. nat_lt k n) (length-append bytes (concat pieces)) ∙
    less_left n (length bytes) (length (concat pieces))
piece_closes Chunked bytes pieces = refl
piece_closes UntilClose bytes pieces = refl

pub nothing_passed : (layout : Layout) → passed layout [] ≡ []
nothing_passed NoContent = refl
nothing_passed (NotModified declared) = refl
nothing_passed (HeadOnly known) = refl
nothing_passed (Known n) = take-nil n
nothing_passed Chunked = refl
nothing_passed UntilClose = refl

pub nothing_left : (layout : Layout) → left_behind layout [] ≡ layout
nothing_left NoContent = refl
nothing_left (NotModified declared) = refl
nothing_left (HeadOnly known) = refl
nothing_left (Known n) = let same : n - 0 ≡ n = omega arith in ap (λ k. Known k) same
nothing_left Chunked = refl
nothing_left UntilClose = refl

pub ending_is : (layout : Layout) → body_bytes layout [] false ≡ ending layout
ending_is NoContent = refl
ending_is (NotModified declared) = refl
ending_is (HeadOnly known) = refl
ending_is (Known n) = take-nil n
ending_is Chunked = refl
ending_is UntilClose = refl
