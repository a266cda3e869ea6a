-- The step at a place of a text.
use Rattle.std.proofs.Common.{◌≡◌, ◌<◌, ◌+◌, ◌-◌, ℕ, List, [], ◌∷◌, length, drop, None, Some, sym}
use Rattle.std.proofs.Common.{ap, arith}
use Rattle.std.specs.Prelude.{slice_get}
use Rattle.std.proofs.lemmas.List.{length-drop}
use Rattle.wsgi.specs.declared.step.Step.{Step}
use Rattle.apps.proofs.StepLemmas as steps
use Rattle.dir_app.specs.FileLaws.{length-steps_of}
use Rattle.dir_app.specs.Texts.{steps_of}
use Rattle.dir_app.specs.declared.text_steps.Text.{Text}

pub get_taken : (xs : List Step) (k : ℕ) (x : Step) → slice_get xs k ≡ Some x →
    drop k xs ≡ x ∷ drop (k + 1) xs
get_taken xs k x e = steps.get_taken xs k x e

pub get_over : (xs : List Step) (k : ℕ) → slice_get xs k ≡ None → drop k xs ≡ []
get_over xs k e = steps.get_over xs k e

pub place_within : (xs : List Step) (k : ℕ) (x : Step) → slice_get xs k ≡ Some x → k < length xs
place_within xs k x e = steps.place_within xs k x e

pub two_steps : (text : Text) → length (steps_of text) ≡ 2
two_steps text = length-steps_of text

pub first_taken : (text : Text) (step : Step) → Some step ≡ slice_get (steps_of text) 0 →
    steps_of text ≡ step ∷ drop 1 (steps_of text)
first_taken text step e = steps.get_taken (steps_of text) 0 step (sym e)

-- a text has a first step
pub some_steps : (text : Text) → None ≡ slice_get (steps_of text) 0 → ⊥
some_steps text e =
    let none : length (drop 0 (steps_of text)) ≡ 0 = ap length
    (steps.get_over (steps_of text) 0 (sym e)) in
    let drops = length-drop 0 (steps_of text) in
    let two = length-steps_of text in
    omega arith

pub one_left : (text : Text) → length (steps_of text) - 1 ≡ 1
one_left text = let two = length-steps_of text in omega arith
