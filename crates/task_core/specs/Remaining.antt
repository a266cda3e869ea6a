-- Internal: what a task still gives for the steps that are left.
use Rattle.std.specs.Prelude.{Bool, true, false, ◌||◌, List, [], ◌∷◌, ◌++◌, Option, Some, None}
use Rattle.std.specs.Prelude.{if◌then◌else◌}
use Rattle.std.specs.List.{list_any}
use Rattle.task_core.specs.Answer.{Answer, answer, body_bytes, layout_closes}
use Rattle.task_core.specs.Scripts.{pieces}
use Rattle.task_core.specs.declared.layout.Layout.{Layout}
use Rattle.task_core.specs.declared.task.Request.{Request}
use Rattle.task_core.specs.declared.starts.Given.{Given}
use Rattle.task_core.specs.declared.task.State.{State}
use Rattle.task_core.specs.declared.task.State.TheVariants.{Opening, Sending, Ended}
use Rattle.wsgi.specs.declared.step.Step.{Step}
use Rattle.wsgi.specs.declared.step.Step.TheVariants.{Start, Piece, Whole, Fail}

-- the Start in force, as the one step that counts before the head
abbrev pub start_steps : Option Given → List Step
start_steps None = []
start_steps (Some given) = Start given.status given.fields false ∷ []

-- whether a step behind the head is a failure
abbrev pub is_break : Step → Bool
is_break (Start status fields replace) = true
is_break (Piece bytes) = false
is_break (Whole bytes) = false
is_break Fail = true

abbrev pub before_break : List Step → List Step
before_break [] = []
before_break (step ∷ rest) = if is_break step then [] else step ∷ before_break rest

abbrev pub breaks : List Step → Bool
breaks steps = list_any is_break steps

-- the rest of the body, where the steps before a break are these
abbrev pub rest_of_body : Request → List Step → Bool → Layout → Answer
rest_of_body request steps broken layout = record {
  text = body_bytes layout (pieces steps) broken;
  closes = request.closes || broken || layout_closes layout (pieces steps);
}

abbrev pub rest_by : Request → State → List Step → Answer
rest_by request (Opening given) rest = answer request (start_steps given ++ rest)
rest_by request (Sending layout) rest = rest_of_body request (before_break rest) (breaks rest)
    layout
rest_by request Ended rest = record { text = []; closes = true }
