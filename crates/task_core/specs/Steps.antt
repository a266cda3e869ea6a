-- What one step of a task gives.
use Rattle.std.specs.Prelude.{◌≡◌, Bool, true, false, not, List, [], ◌∷◌, ◌++◌, ℕ, Option, Some}
use Rattle.std.specs.Prelude.{None, is_some}
use Rattle.task_core.specs.Answer.{Answer}
use Rattle.task_core.specs.Remaining.{rest_by}
use Rattle.task_core.specs.declared.task.Request.{Request}
use Rattle.task_core.specs.declared.task.State.{State}
use Rattle.task_core.specs.declared.task.State.TheVariants.{Opening, Sending, Ended}
use Rattle.task_core.specs.declared.task.Task.{Task}
use Rattle.task_core.specs.declared.task.Wrote.{Wrote}
use Rattle.wsgi.specs.declared.step.Step.{Step}
use Rattle.wsgi.specs.declared.step.Step.TheVariants.{Piece, Whole}

-- the byte string of an iterable, which may be its only one
abbrev pub byte_string : Bool → List ℕ → Step
byte_string true bytes = Whole bytes
byte_string false bytes = Piece bytes

-- what a step wrote
abbrev pub text_of : Wrote → List ℕ
text_of wrote = wrote.head ++ wrote.body

-- an answer with a text in front of it
abbrev pub onto : List ℕ → Answer → Answer
onto text answer = record { text = text ++ answer.text; closes = answer.closes }

-- Behind a step, what is left of each answer follows the text; or the text ended the answer,
-- whatever steps would have come.
abbrev pub Follows : Option Bool → List ℕ → (List Step → Answer) → (List Step → Answer) → Type 0
Follows None text old new = (rest : List Step) → old rest ≡ onto text (new rest)
Follows (Some closes) text old new = (rest : List Step) →
    old rest ≡ record { text = text; closes = closes }

-- behind the script's end the answer has ended
abbrev pub Ends : Option Bool → List ℕ → Answer → Type 0
Ends None text left = ⊥
Ends (Some closes) text left = left ≡ record { text = text; closes = closes }

abbrev pub GoesBy : (List Step → Answer) → Option Step → Wrote → (List Step → Answer) → Type 0
GoesBy old (Some step) wrote new = Follows wrote.ended (text_of wrote) (λ rest. old (step ∷ rest))
    new
GoesBy old None wrote new = Ends wrote.ended (text_of wrote) (old [])

abbrev pub has_ended : State → Bool
has_ended (Opening given) = false
has_ended (Sending layout) = false
has_ended Ended = true

-- what a step gives, and whether the response has ended then
abbrev pub Goes : Request → State → Option Step → Wrote × State → Type 0
Goes request old step r =
    GoesBy (rest_by request old) step r.0 (rest_by request r.1)
    × (has_ended r.1 ≡ is_some r.0.ended)

-- whether a task may be given a step
unfoldable pub is_under_way : Task → Bool
is_under_way task = not (has_ended task.state)

-- what a task still gives: its answer to the steps that are left, without what it wrote of it
unfoldable pub remaining : Task → List Step → Answer
remaining task rest = rest_by task.request task.state rest
