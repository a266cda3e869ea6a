-- Internal: the steps that are left are as many as is said.
use Rattle.std.specs.Prelude.{◌≡◌, ◌≤◌, ◌+◌, ◌-◌, ◌^◌, ℕ, Bool, true, false, List, [], Option, None}
use Rattle.std.specs.Prelude.{Some, length, drop, nat_lt, option_map, unwrap_or, refl}
use Rattle.std.specs.Option.{ForSome}
use Rattle.std.proofs.Common.{◌∙◌, ap, cond, arith}
use Rattle.std.proofs.Math.Nat.{le_of_eq}
use Rattle.std.proofs.lemmas.Bool.{ltb-true}
use Rattle.std.proofs.lemmas.List.{length-drop}
use Rattle.std.proofs.lemmas.Option.{none-some, same_Some}
use Rattle.wsgi.specs.declared.step.Step.{Step}
use Rattle.apps.specs.Answers.{text_script}
use Rattle.apps.specs.PieceLaws.{length-pieces}
use Rattle.apps.specs.Pieces.{piece_count, pieces}
use Rattle.dir_app.specs.DirScript.{file_script, sizable}
use Rattle.dir_app.specs.FileSteps.{file_left, file_rest, size_of}
use Rattle.dir_app.specs.Run.{answer_by}
use Rattle.dir_app.specs.Texts.{left_of, rest_of, steps_of}
use Rattle.dir_app.specs.declared.file_steps.Progress.{Progress}
use Rattle.dir_app.specs.declared.file_steps.Progress.TheVariants.{Unseen, Missing, Found}
use Rattle.dir_app.specs.declared.run.Answer.{Answer}
use Rattle.dir_app.specs.declared.run.Answer.TheVariants.{Text as TextAnswer, File}
use Rattle.dir_app.specs.declared.text_steps.Text.{Text}
use Rattle.dir_app.specs.declared.text_steps.Text.TheVariants.{NotFound, NotAllowed}
use Rattle.dir_app.specs.declared.text_steps.TextSteps.{TextSteps}

pub length-steps_of : (text : Text) → length (steps_of text) ≡ 2
unfolding text_script
length-steps_of NotFound = refl
length-steps_of NotAllowed = refl

content_is_counted : (bodyless : Bool) (bytes : List ℕ) → nat_lt (length bytes) (2 ^ 64) ≡ true →
    length (cond bodyless [] (pieces bytes)) ≤ 2 ^ 49
content_is_counted true bytes small = omega arith
content_is_counted false bytes small =
    let fits = ltb-true (length bytes) (2 ^ 64) small in
    let counted = length-pieces bytes in
    omega arith

some_is_counted : (bodyless : Bool) (media : List ℕ) (bytes : List ℕ) (fits : Bool) →
    nat_lt (length bytes) (2 ^ 64) ≡ fits →
    length (file_script bodyless media (cond fits (Some bytes) None)) ≤ 2 ^ 49 + 1
some_is_counted bodyless media bytes true fits = let content =
    content_is_counted bodyless bytes fits in omega arith
some_is_counted bodyless media bytes false fits = let two = length-steps_of NotFound in omega arith

script_is_counted : (bodyless : Bool) (media : List ℕ) (file : Option (List ℕ)) →
    length (file_script bodyless media (sizable file)) ≤ 2 ^ 49 + 1
script_is_counted bodyless media None = let two = length-steps_of NotFound in omega arith
script_is_counted bodyless media (Some bytes) =
    some_is_counted bodyless media bytes (nat_lt (length bytes) (2 ^ 64)) refl

found_is_counted : (at size : ℕ) (file : Option (List ℕ)) → option_map length file ≡ Some size →
    length (pieces (drop at (unwrap_or file []))) ≤ piece_count (size - at)
found_is_counted at size None told = absurd (none-some size told)
found_is_counted at size (Some bytes) told =
    let same : length bytes ≡ size = same_Some (length bytes) size told in
    le_of_eq (length-pieces (drop at bytes) ∙ ap piece_count
    (length-drop at bytes ∙ ap (λ n. n - at) same))

pub text_is_counted : (text : TextSteps) → length (rest_of text) ≤ left_of text
text_is_counted text = le_of_eq (length-drop text.given (steps_of text.text))

pub file_is_counted : (bodyless : Bool) (media : List ℕ) (file : Option (List ℕ))
    (progress : Progress) →
    ForSome (size_of progress) (λ size. option_map length file ≡ Some size) →
    length (file_rest bodyless media file progress) ≤ file_left progress
file_is_counted bodyless media file Unseen told = script_is_counted bodyless media file
file_is_counted bodyless media file (Missing text) told = text_is_counted text
file_is_counted bodyless media file (Found at size) told =
    found_is_counted at size file (told size refl)

pub answer_is_counted : {F : Type 0} (rest : F → List Step) (left : F → ℕ) →
    ((steps : F) → length (rest steps) ≤ left steps) → (answer : Answer F) →
    length (answer_by rest_of rest answer) ≤ answer_by left_of left answer
answer_is_counted rest left counted (TextAnswer text) = text_is_counted text
answer_is_counted rest left counted (File steps) = counted steps
