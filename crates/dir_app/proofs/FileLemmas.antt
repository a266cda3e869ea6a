-- The steps of a file.
use Rattle.std.proofs.Common.{◌≡◌, ◌≤◌, ◌<◌, ◌+◌, ◌-◌, ◌^◌, ◌∙◌, ℕ, Bool, true, false, cond, min}
use Rattle.std.proofs.Common.{List, [], ◌∷◌, length, take, drop, Option, None, Some, Result, Ok}
use Rattle.std.proofs.Common.{Err, refl, ap, sym, arith}
use Rattle.std.specs.Prelude.{nat_lt, option_map, unwrap_or, IfSome}
use Rattle.std.proofs.lemmas.List.{drop_all, drop-drop, length-drop, take_min}
use Rattle.std.proofs.lemmas.Option.{none-some, same_Some}
use Rattle.wsgi.specs.declared.step.Step.{Step}
use Rattle.wsgi.specs.declared.step.Step.TheVariants.{Piece}
use Rattle.apps.proofs.PieceLemmas.{drop_min, piece_count-suc, pieces-suc}
use Rattle.apps.specs.PieceLaws.{length-pieces}
use Rattle.apps.specs.Pieces.{piece_count, pieces}
use Rattle.std.specs.Option.{ForSome}
use Rattle.std.specs.Result.{IsErr}
use Rattle.wsgi.specs.Run.{TakesStep}
use Rattle.wsgi.specs.declared.step.RunFault.{RunFault}
use Rattle.wsgi.specs.declared.step.RunFault.TheVariants.{Outside, Spill, NoMemory}
use Rattle.dir_app.specs.FileLaws.{length-steps_of}
use Rattle.dir_app.specs.FileSteps.{file_left, file_rest, place_of, size_of}
use Rattle.dir_app.specs.declared.text_steps.Text.TheVariants.{NotFound}
use Rattle.dir_app.specs.declared.file_steps.Progress.{Progress}
use Rattle.dir_app.specs.declared.file_steps.Progress.TheVariants.{Unseen, Found}
use Rattle.dir_app.specs.DirScript.{file_script, sizable}

-- at the end of a file nothing is left
pub found_over : (at size : ℕ) (file : Option (List ℕ)) → at ≡ size →
    option_map length file ≡ Some size →
    pieces (drop at (unwrap_or file [])) ≡ []
found_over at size None over told = absurd (none-some size told)
found_over at size (Some bytes) over told =
    let same : length bytes ≡ size = same_Some (length bytes) size told in
    ap pieces (drop_all at bytes (omega arith))

below_end : (at size : ℕ) → (at ≡ size → ⊥) → at ≤ size → at < size
below_end at size some within = grind (arith, some)

-- elsewhere a piece is, and what stands behind it
pub found_step : (at size : ℕ) (file : Option (List ℕ)) (piece : List ℕ) →
    option_map length file ≡ Some size →
    (at ≡ size → ⊥) → at ≤ size → IfSome file (λ bytes. piece ≡ take (min 32768 (size - at))
    (drop at bytes)) →
    length piece ≡ min 32768 (size - at) →
    pieces (drop at (unwrap_or file [])) ≡ Piece piece ∷ pieces
    (drop (at + length piece) (unwrap_or file []))
found_step at size None piece told some within read counted = absurd (none-some size told)
found_step at size (Some bytes) piece told some within read counted =
    let same : length bytes ≡ size = same_Some (length bytes) size told in
    let less : at < size = below_end at size some within in
    let left : length (drop at bytes) ≡ size - at = length-drop at bytes ∙ ap (λ n. n - at) same in
    let count : length piece ≡ min 32768 (length (drop at bytes)) = counted ∙
    ap (λ n. min 32768 n) (sym left) in
    let here : take 32768 (drop at bytes) ≡ piece =
    sym (take_min 32768 (drop at bytes)) ∙ (ap (λ n. take (min 32768 n) (drop at bytes)) left ∙
    sym read) in
    let behind : drop 32768 (drop at bytes) ≡ drop (at + length piece) bytes =
    sym (drop_min 32768 (length piece) (drop at bytes) count) ∙ drop-drop (length piece) at bytes in
    pieces-suc (drop at bytes) (omega arith)
    ∙ (ap (λ (xs : List ℕ). Piece xs ∷ pieces (drop 32768 (drop at bytes))) here ∙
    ap (λ (xs : List ℕ). Piece piece ∷ pieces xs) behind)

pub found_within : (progress : Progress) (at size : ℕ) → progress ≡ Found at size →
    ForSome (size_of progress) (λ size. place_of progress ≤ size) → at ≤ size
found_within progress at size found within =
    let known : place_of progress ≤ size = within size (ap size_of found) in
    let here : place_of progress ≡ at = ap place_of found in
    omega arith

-- a fault leaves the steps, of which there are some
fault_keeps : (result : Result (Option Step) RunFault) (old new : List Step) → IsErr result →
    (old ≡ [] → ⊥) → new ≡ old → TakesStep result old new
fault_keeps (Err Outside) old new failed some same = (some, same)
fault_keeps (Err Spill) old new failed some same = (some, same)
fault_keeps (Err NoMemory) old new failed some same = same
fault_keeps (Ok step) old new failed some same = grind (arith, failed)

some_script : (bodyless : Bool) (media : List ℕ) (bytes : List ℕ) (t : Bool) →
    file_script bodyless media (cond t (Some bytes) None) ≡ [] → ⊥
some_script bodyless media bytes true e = grind (arith, ap length e)
some_script bodyless media bytes false e = let none = ap length e in let two =
    length-steps_of NotFound in omega arith

script_some : (bodyless : Bool) (media : List ℕ) (file : Option (List ℕ)) →
    file_script bodyless media (sizable file) ≡ [] → ⊥
script_some bodyless media None e = let none = ap length e in let two =
    length-steps_of NotFound in omega arith
script_some bodyless media (Some bytes) e = some_script bodyless media bytes
    (nat_lt (length bytes) (2 ^ 64)) e

pub unseen_fault : (bodyless : Bool) (media : List ℕ) (file new : Option (List ℕ))
    (progress : Progress) (result : Result (Option Step) RunFault) →
    progress ≡ Unseen → IsErr result → new ≡ file →
    TakesStep result (file_rest bodyless media file progress)
    (file_rest bodyless media new progress)
unseen_fault bodyless media file new progress result unseen failed same =
    rw unseen (rw same (fault_keeps result (file_script bodyless media (sizable file))
    (file_script bodyless media (sizable file)) failed (script_some bodyless media file) refl))

found_told : (progress : Progress) (at size : ℕ) (file : Option (List ℕ)) →
    progress ≡ Found at size →
    ForSome (size_of progress) (λ size. option_map length file ≡ Some size) →
    option_map length file ≡ Some size
found_told progress at size file found told = told size (ap size_of found)

found_some : (at size : ℕ) (file : Option (List ℕ)) → option_map length file ≡ Some size →
    (at ≡ size → ⊥) → at ≤ size →
    pieces (drop at (unwrap_or file [])) ≡ [] → ⊥
found_some at size None told some within e = none-some size told
found_some at size (Some bytes) told some within e =
    let same : length bytes ≡ size = same_Some (length bytes) size told in
    let less : at < size = below_end at size some within in
    let none = ap length e in
    let counted = length-pieces (drop at bytes) in
    let left = length-drop at bytes in
    omega arith

pub found_fault : (bodyless : Bool) (media : List ℕ) (file new : Option (List ℕ))
    (progress : Progress) (at size : ℕ) (result : Result (Option Step) RunFault) →
    progress ≡ Found at size → ForSome (size_of progress)
    (λ size. option_map length file ≡ Some size) → (at ≡ size → ⊥) → at ≤ size →
    IsErr result → new ≡ file →
    TakesStep result (file_rest bodyless media file progress)
    (file_rest bodyless media new progress)
found_fault bodyless media file new progress at size result found told some within failed same =
    let known : option_map length file ≡ Some size = found_told progress at size file found told in
    rw found (rw same (fault_keeps result (pieces (drop at (unwrap_or file [])))
    (pieces (drop at (unwrap_or file []))) failed (found_some at size file known some within)
    refl))

pub found_end : (bodyless : Bool) (media : List ℕ) (file : Option (List ℕ)) (progress : Progress)
    (at size : ℕ) →
    progress ≡ Found at size → ForSome (size_of progress)
    (λ size. option_map length file ≡ Some size) → at ≡ size →
    file_rest bodyless media file progress ≡ []
found_end bodyless media file progress at size found told over =
    let known : option_map length file ≡ Some size = found_told progress at size file found told in
    rw found (found_over at size file over known)

pub found_next : (bodyless : Bool) (media : List ℕ) (file new : Option (List ℕ))
    (progress : Progress) (at size count : ℕ) (piece : List ℕ) →
    progress ≡ Found at size → ForSome (size_of progress)
    (λ size. option_map length file ≡ Some size) → (at ≡ size → ⊥) → at ≤ size →
    IfSome file (λ bytes. piece ≡ take (min 32768 (size - at)) (drop at bytes)) →
    length piece ≡ min 32768 (size - at) → count ≡ length piece → new ≡ file →
    file_rest bodyless media file progress ≡ Piece piece ∷ pieces
    (drop (at + count) (unwrap_or new []))
found_next bodyless media file new progress at size count piece found told some within read counted
    whole same =
    let known : option_map length file ≡ Some size = found_told progress at size file found told in
    rw found (rw same (rw whole (found_step at size file piece known some within read counted)))

pub found_falls : (progress : Progress) (at size count : ℕ) → progress ≡ Found at size →
    (at ≡ size → ⊥) → at ≤ size →
    count ≡ min 32768 (size - at) → piece_count (size - (at + count)) < file_left progress
found_falls progress at size count found some within counted =
    let less : at < size = below_end at size some within in
    let left : size - (at + count) ≡ size - at - 32768 = omega arith in
    rw found (rw left (let falls = piece_count-suc (size - at) (omega arith) in omega arith))
