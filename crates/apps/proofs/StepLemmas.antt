-- The step at a place of a list of steps.
use Rattle.std.proofs.Common.{◌≡◌, ◌<◌, ◌≤◌, ◌+◌, ◌-◌, ◌^◌, ◌∙◌, ℕ, Bool, true, false, suc, zero}
use Rattle.std.proofs.Common.{List, [], ◌∷◌, ◌++◌, length, map, drop, None, Some, refl, ap, arith}
use Rattle.std.proofs.Common.{add-one, append_assoc}
use Rattle.std.specs.Prelude.{slice_get}
use Rattle.std.proofs.Math.Seq.{drop-cons}
use Rattle.std.proofs.lemmas.List.{drop_all, length-append, length-map}
use Rattle.apps.specs.TableScript.{body_step, failure, row_script}
use Rattle.apps.specs.declared.row.Row.{Row}
use Rattle.std.proofs.lemmas.Option.{get_or_from_slice_get, same_Some, slice_get_within}

pub get_taken : {X : Type 0} (xs : List X) (k : ℕ) (x : X) → slice_get xs k ≡ Some x →
    drop k xs ≡ x ∷ drop (k + 1) xs
get_taken xs k x e =
    rw add-one (drop-cons xs k x (slice_get_within xs k x e) ∙
    ap (λ y. y ∷ drop (suc k) xs) (get_or_from_slice_get xs k x x e))

pub get_over : {X : Type 0} (xs : List X) (k : ℕ) → slice_get xs k ≡ None → drop k xs ≡ []
get_over [] k e = drop_all k [] (omega arith)
get_over (x ∷ xs) zero e = cc
get_over (x ∷ xs) (suc k) e = get_over xs k e

pub place_within : {X : Type 0} (xs : List X) (k : ℕ) (x : X) → slice_get xs k ≡ Some x →
    k < length xs
place_within xs k x e = slice_get_within xs k x e

pub get_behind : {X : Type 0} (x : X) (xs : List X) (k : ℕ) → (k ≡ 0 → ⊥) →
    slice_get (x ∷ xs) k ≡ slice_get xs (k - 1)
get_behind x xs zero some = absurd (some refl)
get_behind x xs (suc k) some = let e : k ≡ suc k - 1 = omega arith in ap (slice_get xs) e

pub get_past : {X : Type 0} (x : X) (k : ℕ) → (k ≡ 0 → ⊥) → slice_get (x ∷ []) k ≡ None
get_past x zero some = absurd (some refl)
get_past x (suc k) some = refl

pub get_mapped : {X Y : Type 0} (f : X → Y) (xs : List X) (ys : List Y) (k : ℕ) (x : X) →
    slice_get xs k ≡ Some x → slice_get (map f xs ++ ys) k ≡ Some (f x)
get_mapped f [] ys k x e = cc
get_mapped f (y ∷ xs) ys zero x e = ap (λ z. Some (f z)) (same_Some y x e)
get_mapped f (y ∷ xs) ys (suc k) x e = get_mapped f xs ys k x e

pub get_past_mapped : {X Y : Type 0} (f : X → Y) (xs : List X) (ys : List Y) (k : ℕ) →
    slice_get xs k ≡ None → slice_get (map f xs ++ ys) k ≡ slice_get ys (k - length xs)
get_past_mapped f [] ys k e = let same : k ≡ k - 0 = omega arith in ap (slice_get ys) same
get_past_mapped f (y ∷ xs) ys zero e = cc
get_past_mapped f (y ∷ xs) ys (suc k) e =
    let same : k - length xs ≡ suc k - length (y ∷ xs) = omega arith in
    get_past_mapped f xs ys k e ∙ ap (slice_get ys) same

pub two_more : {X : Type 0} (xs : List X) (x y : X) → (xs ++ x ∷ []) ++ y ∷ [] ≡ xs ++ x ∷ y ∷ []
two_more xs x y = append_assoc xs (x ∷ []) (y ∷ [])

failure_few : (fail : Bool) → length (failure fail) ≤ 1
failure_few true = omega arith
failure_few false = omega arith

pub row_few : (row : Row) → length row.pieces < 2 ^ 61 → length (row_script row) < 2 ^ 62
row_few row few =
    let body = length-append (map (body_step row.whole) row.pieces) (failure row.fail) in
    let pieces = length-map row.pieces (body_step row.whole) in
    let fails = failure_few row.fail in
    omega arith
