-- Internal: steps of an answer, and why it breaks off.
use Rattle.std.specs.Prelude.{◌≡◌, ◌<◌, ℕ, Bool, IsTrue, List}
use Rattle.wsgi.specs.declared.step.Step.{Step}
use Rattle.channel.specs.Writing.{Shuts, is_busy, still_gives}
use Rattle.channel.specs.declared.answering.Stop.{Stop}
use Rattle.channel.specs.declared.answering.Stop.TheVariants as stop
use Rattle.channel.specs.declared.types.Cause.{Cause}
use Rattle.channel.specs.declared.types.Cause.TheVariants as cause
use Rattle.channel.specs.declared.writing.Writing.{Writing}
use Rattle.channel.specs.declared.writing.Writing.TheVariants.{Idle, Scripted, Waits, Last}

-- what is handed out as failed has counted it
abbrev pub IsCaused : {R : Type 0} → (R → ℕ) → (R → ℕ) → Stop R → Type 0
IsCaused run_faults body_faults (stop.Spill run) = 0 < body_faults run
IsCaused run_faults body_faults (stop.App run) = 0 < run_faults run
IsCaused run_faults body_faults stop.NoMemory = Unit {0}

-- why the answer breaks off then
abbrev pub stop_cause : {R : Type 0} → Stop R → Cause
stop_cause (stop.Spill run) = cause.Spill
stop_cause (stop.App run) = cause.App
stop_cause stop.NoMemory = cause.NoMemory

-- a step that doesn't end the answer takes a step of the run
abbrev pub TakesFromRun : {R : Type 0} → (R → ℕ) → Writing R → Writing R → Type 0
TakesFromRun left (Scripted old) (Scripted new) = left new.run < left old.run
TakesFromRun left (Scripted old) (Waits new) = left new.script.run < left old.run
TakesFromRun left (Scripted old) (Last text closes) = Unit {0}
TakesFromRun left (Scripted old) Idle = ⊥
TakesFromRun left Idle new = new ≡ Idle
TakesFromRun left (Waits w) new = new ≡ Waits w
TakesFromRun left (Last text closes) new = new ≡ Last text closes

-- a step leaves what is still to be written as it is, and an answer that will close will close
pub record StepsOn {R : Type 0} (tells : Bool) (rest : R → List Step) (left : R →
    ℕ) (old new : Writing R) : Type 0 where
  pub busy : is_busy new ≡ is_busy old
  pub gives : IsTrue tells → still_gives rest old ≡ still_gives rest new
  pub takes : TakesFromRun left old new
  pub shuts : Shuts old → Shuts new
