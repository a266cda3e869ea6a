-- A body that is cut into pieces.
use Rattle.std.proofs.Common.{◌≡◌, ◌<◌, ◌-◌, ℕ, suc, min, List, [], ◌∷◌, ◌++◌, Bool, Option, None}
use Rattle.std.proofs.Common.{false, IsTrue, length, take, drop, map, refl, ap, sym, ◌∙◌, arith}
use Rattle.std.specs.Simd.{first_chunks}
use Rattle.std.proofs.lemmas.List.{take_min, take_all, take-append-le, drop_all, length-drop}
use Rattle.spill_buffer.specs.Buffer.{IsToldAs}
use Rattle.wsgi.specs.declared.step.Step.TheVariants.{Piece}
use Rattle.wsgi.specs.declared.step.Step.{Step}
use Rattle.std.specs.Prelude.{Result, Ok, Err}
use Rattle.std.specs.Result.{IsErr}
use Rattle.wsgi.specs.Run.{TakesStep}
use Rattle.wsgi.specs.declared.step.RunFault.{RunFault}
use Rattle.wsgi.specs.declared.step.RunFault.TheVariants.{Outside, Spill, NoMemory}
use Rattle.apps.specs.Pieces.{piece_count, pieces, rest_of, count_of}

-- what has the room of the first n bytes, and starts as the list does, is these bytes
pub front_is : (n count : ℕ) (into xs : List ℕ) → count ≡ min (length into) (length xs) →
    length into ≡ min (length xs) n → take count into ≡ take count xs → into ≡ take n xs
front_is n count into xs counted room same =
    let whole : take count into ≡ into = take_all count into (omega arith) in
    let cut : count ≡ min n (length xs) = omega arith in
    (sym whole ∙ same) ∙ (ap (λ k. take k xs) cut ∙ take_min n xs)

pub drop_min : (n count : ℕ) (xs : List ℕ) → count ≡ min n (length xs) → drop count xs ≡ drop n xs
drop_min n count xs cut = grind (arith, drop_all)

-- a list that was written over a longer one from its front
pub take_written : (len : ℕ) (into items : List ℕ) → len ≡ length into →
    take len (into ++ drop (length into) items) ≡ into
take_written len into items e = take-append-le len into (drop (length into) items) (omega arith) ∙
    take_all len into (omega arith)

-- where the first bytes were kept and then skipped, the rest is what follows the first n
pub rest_is : (tells : Bool) (n count : ℕ) (old kept new : List ℕ) → count ≡ min n (length old) →
    IsToldAs tells kept old → IsToldAs tells new (drop count kept) → IsToldAs tells new (drop n old)
rest_is tells n count old kept new cut stays skips = record {
  size = omega (arith, stays.size, skips.size, length-drop count kept, length-drop n old);
  told = λ told. skips.told told ∙ (ap (drop count) (stays.told told) ∙ drop_min n count old cut);
}

-- one piece more than the rest has
pub piece_count-suc : (size : ℕ) → 0 < size → piece_count size ≡ suc (piece_count (size - 32768))
piece_count-suc size some = omega arith

pub pieces-suc : (body : List ℕ) → 0 < length body → pieces body ≡ Piece (take 32768 body) ∷ pieces
    (drop 32768 body)
pieces-suc body some =
    let count : piece_count (length body) ≡ suc (piece_count (length (drop 32768 body))) =
    piece_count-suc (length body) some ∙ ap (λ k. suc (piece_count k))
    (sym (length-drop 32768 body)) in
    ap (λ k. map (λ bytes. Piece bytes) (first_chunks 32768 k body)) count

-- what isn't empty has a byte
pub filled : (bytes : List ℕ) → (bytes ≡ [] → IsTrue false) → 0 < length bytes
filled [] full = grind (arith, full refl)
filled (x ∷ xs) full = omega arith

-- the next step, where nothing stands before the body
pub next_piece : (start after : Option Step) (old new piece : List ℕ) → start ≡ None →
    after ≡ None → 0 < length old → piece ≡ take 32768 old → new ≡ drop 32768 old →
    rest_of start old ≡ Piece piece ∷ rest_of after new
next_piece start after old new piece before behind some first rest =
    rw before (rw behind (rw first (rw rest (pieces-suc old some))))

pub next_falls : (start after : Option Step) (old new : List ℕ) → start ≡ None → after ≡ None →
    0 < length old → length new ≡ length (drop 32768 old) →
    count_of after (length new) < count_of start (length old)
next_falls start after old new before behind some rest =
    rw before (rw behind (rw rest (rw length-drop (omega
    (arith, piece_count-suc (length old) some)))))

-- a fault while a piece is to be taken leaves that piece
left_by : (result : Result (Option Step) RunFault) (steps : List Step) → IsErr result →
    (steps ≡ [] → ⊥) → TakesStep result steps steps
left_by (Err Outside) steps failed some = (some, refl)
left_by (Err Spill) steps failed some = (some, refl)
left_by (Err NoMemory) steps failed some = refl
left_by (Ok step) steps failed some = grind (arith, failed)

no_step : (step : Step) (steps : List Step) → step ∷ steps ≡ [] → ⊥
no_step step steps e = grind (arith, ap length e)

pub fault_leaves : (result : Result (Option Step) RunFault) (start after : Option Step)
    (old new : List ℕ) → IsErr result → start ≡ None → after ≡ None → 0 < length old → new ≡ old →
    TakesStep result (rest_of start old) (rest_of after new)
fault_leaves result start after old new failed before behind some same =
    rw before (rw behind (rw same (rw (pieces-suc old some)
    (left_by result (Piece (take 32768 old) ∷ pieces (drop 32768 old)) failed
    (no_step (Piece (take 32768 old)) (pieces (drop 32768 old)))))))
