-- What the calls of `step` write, one after the other, over a script.
use Rattle.std.specs.Prelude.{◌≡◌, ℕ, Bool, not, IsTrue, is_some, List, [], ◌∷◌, ◌++◌, Option, Some}
use Rattle.std.specs.Prelude.{None}
use Rattle.std.specs.List.{flat_map, last_or}
use Rattle.std.specs.Option.{option_and_then}
use Rattle.head_grammar.specs.Heads.{Head}
use Rattle.task_core.specs.Answer.{Answer, answer, request_of}
use Rattle.task_core.specs.Steps.{Ends, GoesBy, is_under_way, remaining, text_of}
use Rattle.task_core.specs.declared.task.Task.{Task}
use Rattle.task_core.specs.declared.task.Wrote.{Wrote}
use Rattle.wsgi.specs.declared.step.Step.{Step}

-- a call of `step` that is answered: what it requires, and what it ensures
pub record Takes (old : Task) (step : Option Step) (wrote : Wrote) (new : Task) : Type 0 where
  pub allowed : IsTrue (is_under_way old)
  pub under_way : is_under_way new ≡ not (is_some wrote.ended)
  pub answer : GoesBy (remaining old) step wrote (remaining new)

-- these steps are taken one after the other, and these are the parts that they write
abbrev pub TakesAll : Task → List Step → List Wrote → Task → Type 0
TakesAll old [] [] new = new ≡ old
TakesAll old [] (wrote ∷ parts) new = ⊥
TakesAll old (step ∷ steps) [] new = ⊥
TakesAll old (step ∷ steps) (wrote ∷ parts) new =
    (next : Task) × Takes old (Some step) wrote next × TakesAll next steps parts new

-- behind a part that ended the answer there is none
abbrev pub Unless : Option Bool → List Wrote → Type 0 → Type 0
Unless None parts Goes = Goes
Unless (Some closes) parts Goes = parts ≡ []

-- A whole script is taken, step by step and then its end, up to the part that ends the answer.
abbrev pub TakesScript : Task → List Step → List Wrote → Type 0
TakesScript old [] [] = ⊥
TakesScript old [] (wrote ∷ parts) = (new : Task) × Takes old None wrote new × (parts ≡ [])
TakesScript old (step ∷ rest) [] = ⊥
TakesScript old (step ∷ rest) (wrote ∷ parts) =
    (new : Task) × Takes old (Some step) wrote new × Unless wrote.ended parts
    (TakesScript new rest parts)

-- the bytes of all parts
abbrev pub joined : List Wrote → List ℕ
joined parts = flat_map text_of parts

-- what the last part says of the end
abbrev pub ended_by : List Wrote → Option Bool
ended_by parts = option_and_then (λ wrote. wrote.ended) (last_or None parts)

-- What a task writes is this answer to whatever script it is given.
pub record Answers (task : Task) (answer_to : List Step → Answer) : Type 0 where
  -- the parts so far are the front of the answer to each script that begins with these steps
  pub front : (steps : List Step) (parts : List Wrote) (left : Task) →
      TakesAll task steps parts left →
      (rest : List Step) → (more : List ℕ) × ((answer_to (steps ++ rest)).text ≡ joined parts ++
      more)
  -- behind them another step may be given, unless the last of them ended the answer
  pub goes_on : (steps : List Step) (parts : List Wrote) (left : Task) →
      TakesAll task steps parts left →
      is_under_way left ≡ not (is_some (ended_by parts))
  -- the parts of a whole script are the answer, which has ended
  pub whole : (script : List Step) (parts : List Wrote) → TakesScript task script parts →
      Ends (ended_by parts) (joined parts) (answer_to script)

-- what holds of each task that is as `Task::new` makes it
abbrev pub ScriptsAreAnswered : Type 0
ScriptsAreAnswered = (head : Head) (moment : ℕ) (ident : List ℕ) (task : Task) →
    IsTrue (is_under_way task) →
    ((script : List Step) → remaining task script ≡ answer (request_of head moment ident) script) →
    Answers task (answer (request_of head moment ident))
