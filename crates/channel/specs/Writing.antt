-- What a job still gives of the current answer.
use Rattle.std.specs.Prelude.{◌≡◌, ℕ, Bool, true, false, IsTrue, List, [], ◌++◌, length, take, map}
use Rattle.std.specs.Prelude.{Option, Some, None, is_some}
use Rattle.std.specs.List.{list_any}
use Rattle.std.specs.Option.{ForSome}
use Rattle.outside.specs.declared.types.Peer.{Peer}
use Rattle.request_stream.specs.Asks.{asks}
use Rattle.request_stream.specs.Units.{closing}
use Rattle.task_core.specs.Answer.{Answer}
use Rattle.task_core.specs.Steps.{onto, remaining}
use Rattle.wsgi.specs.declared.site.Site.{Site}
use Rattle.wsgi.specs.declared.step.Step.{Step}
use Rattle.channel.specs.Histories.{RightPast}
use Rattle.channel.specs.Output.{Script, answer_for}
use Rattle.channel.specs.declared.writing.Writing.{Writing}
use Rattle.channel.specs.declared.writing.Writing.TheVariants.{Idle, Scripted, Waits, Last}

-- A text behind what was written of an answer: a front of it, or its end.
abbrev pub GoesBy : Answer → List ℕ → List ℕ → Option Bool → Type 0
GoesBy answer written text None = take (length (written ++ text)) answer.text ≡ written ++ text
GoesBy answer written text (Some closes) = answer ≡ record {
  text = written ++ text;
  closes =
      closes;
}

module _ {R : Type 0} (rest : R → List Step) where
  -- what is still to be written of the current answer: a text that waits, and what the task gives
  -- over the rest of the script
  abbrev pub still_gives : Writing R → Answer
  still_gives Idle = record { text = []; closes = false }
  still_gives (Scripted s) = remaining s.task (rest s.run)
  still_gives (Waits w) = onto w.text (remaining w.script.task (rest w.script.run))
  still_gives (Last text closes) = record { text = text; closes = closes }

abbrev pub is_busy : {R : Type 0} → Writing R → Bool
is_busy Idle = false
is_busy (Scripted s) = true
is_busy (Waits w) = true
is_busy (Last text closes) = true

-- whether the answer closes, where the run gives these steps
abbrev pub closes_by : {R : Type 0} → Writing R → List Step → Bool
closes_by Idle steps = false
closes_by (Scripted s) steps = (remaining s.task steps).closes
closes_by (Waits w) steps = (remaining w.script.task steps).closes
closes_by (Last text closes) steps = closes

-- the answer closes, whatever the run gives
abbrev pub Shuts : {R : Type 0} → Writing R → Type 0
Shuts writing = (steps : List Step) → IsTrue (closes_by writing steps)

-- the run of a script is there
abbrev pub is_scripted : {R : Type 0} → Writing R → Bool
is_scripted Idle = false
is_scripted (Scripted s) = true
is_scripted (Waits w) = true
is_scripted (Last text closes) = false

-- how many steps the run has left
abbrev pub steps_left : {R : Type 0} → (R → ℕ) → Writing R → ℕ
steps_left left Idle = 0
steps_left left (Scripted s) = left s.run
steps_left left (Waits w) = left w.script.run
steps_left left (Last text closes) = 0

-- what is under way behind the text that waits
abbrev pub without_text : {R : Type 0} → Writing R → Writing R
without_text Idle = Idle
without_text (Scripted s) = Scripted s
without_text (Waits w) = Scripted w.script
without_text (Last text closes) = Idle

-- No text waits to be added behind which the script goes on.
abbrev pub is_settled : {R : Type 0} → Writing R → Bool
is_settled Idle = true
is_settled (Scripted s) = true
is_settled (Waits w) = false
is_settled (Last text closes) = true

-- Until it breaks, a job has an answer under way exactly where a unit is current, and what was
-- written of it and what is still to be written are the answer to that unit.
pub record KeepsWriting {R S : Type 0} (tells : Bool) (rest : R →
    List Step) (site : Site) (script : Script) (peer : Peer) (writing : Writing R)
    (past : RightPast S) : Type 0 where
  pub busy : past.broke ≡ None → is_busy writing ≡ is_some past.current
  pub gives : past.broke ≡ None → IsTrue tells → ForSome past.current (λ c.
      answer_for site script peer (asks c.unit) ≡ onto c.written (still_gives rest writing))
  -- the answer to what closes will close, or has closed, whether or not anybody tells
  pub shuts : past.broke ≡ None → ForSome past.current (λ c. IsTrue (closing (asks c.unit)) →
      Shuts writing)
  pub shut : list_any closing (map asks past.finished) ≡ true → past.closed ≡ true
