-- Internal: what one step of the answering side does to the state, and what is told of it.
use Rattle.std.specs.Prelude.{◌≡◌, ◌≤◌, ◌<◌, ◌⊎◌, ℕ, Bool, true, false, List, [], ◌∷◌, Some, None}
use Rattle.request_stream.specs.declared.types.Unit.{Unit as AUnit}
use Rattle.channel.specs.Acting.{Begins}
use Rattle.channel.specs.Agreement.{KeepsBroken, Known, end_by}
use Rattle.channel.specs.Histories.{RightEntry}
use Rattle.channel.specs.State.{State}
use Rattle.channel.specs.Turning.{BreaksNow, Writes}
use Rattle.channel.specs.declared.acts.RightAct.TheVariants.{Began, Broke}
use Rattle.channel.specs.declared.types.Cause.{Cause}
use Rattle.channel.specs.declared.types.Progress.{Progress}
use Rattle.channel.specs.declared.types.Progress.TheVariants as progress
use Rattle.channel.specs.declared.writing.Writing.{Writing}
use Rattle.channel.specs.declared.writing.Writing.TheVariants.{Idle, Scripted, Waits, Last}

module _ {A R S : Type 0} (known : Known A R S) where
  -- the first ready unit became current
  pub record BeginsNext (old new : State A R S) (entry : RightEntry S) : Type 0 where
    pub unit : AUnit S
    pub idle : old.current ≡ false
    pub begins : Begins (Some unit) old new
    pub told : entry.value ≡ Began unit ∷ []

  -- It became current, and then its answer broke off.
  pub record BeginsInVain (why : Cause) (old new : State A R S)
      (entry : RightEntry S) : Type 0 where
    pub unit : AUnit S
    pub idle : old.current ≡ false
    pub first : old.ready ≡ unit ∷ new.ready
    pub broken : KeepsBroken known.spill_faults known.run_faults known.body_faults
        (Some why) new.fallen new.output
    pub now : new ≡ record old {
      ready = new.ready;
      current = true;
      dead = Some (end_by why);
      fallen = new.fallen;
    }
    pub told : entry.value ≡ Began unit ∷ Broke why ∷ []

  -- the run of the current answer took a step that wrote nothing
  pub record TakesStep (old_left new_left : ℕ) (old new : State A R S)
      (entry : RightEntry S) : Type 0 where
    pub fewer : new_left < old_left
    pub busy : old.current ≡ true
    pub now : new ≡ old
    pub told : entry.value ≡ []

  -- the run of the current answer took a step that wrote a text, and goes on
  pub record WritesOn (old_left new_left : ℕ) (old new : State A R S)
      (entry : RightEntry S) : Type 0 where
    pub fewer : new_left < old_left
    pub busy : old.current ≡ true
    pub text : List ℕ
    pub writes : Writes known.spill_tells text None old new entry

  -- the last text of the current answer was written
  pub record WritesLast (new_left : ℕ) (old new : State A R S) (entry : RightEntry S) : Type 0 where
    pub none : new_left ≡ 0
    pub busy : old.current ≡ true
    pub text : List ℕ
    pub closes : Bool
    pub writes : Writes known.spill_tells text (Some closes) old new entry

  -- the current answer broke off
  pub record Stops (why : Cause) (old_left new_left : ℕ) (old new : State A R S)
      (entry : RightEntry S) : Type 0 where
    pub left : new_left ≤ old_left
    pub busy : old.current ≡ true
    pub breaks : BreaksNow known why old new entry

  -- no unit is there
  pub record Rests (old_left new_left : ℕ) (old new : State A R S)
      (entry : RightEntry S) : Type 0 where
    pub left : new_left ≡ old_left
    pub idle : old.current ≡ false
    pub none : old.ready ≡ []
    pub now : new ≡ old
    pub told : entry.value ≡ []

  -- What a step does, by what it answers, where the run had and then has so many steps left.
  abbrev pub StepsTo : Progress → ℕ → ℕ → State A R S → State A R S → RightEntry S → Type 0
  StepsTo progress.More old_left new_left old new entry =
      BeginsNext old new entry ⊎ (TakesStep old_left new_left old new entry
      ⊎ (WritesOn old_left new_left old new entry ⊎ WritesLast new_left old new entry))
  StepsTo progress.Above old_left new_left old new entry = ⊥
  StepsTo progress.Rest old_left new_left old new entry = Rests old_left new_left old new entry
  StepsTo progress.Dead old_left new_left old new entry = ⊥
  StepsTo (progress.Broke why) old_left new_left old new entry =
      BeginsInVain why old new entry ⊎ Stops why old_left new_left old new entry

  -- What the addition of the text that waits does, by what it answers.
  abbrev pub AddsText : Progress → Writing R → State A R S → State A R S → RightEntry S → Type 0
  AddsText progress.More Idle old new entry = (new ≡ old) × (entry.value ≡ [])
  AddsText progress.More (Scripted s) old new entry = (new ≡ old) × (entry.value ≡ [])
  AddsText progress.More (Waits w) old new entry =
      Writes known.spill_tells w.text None old new entry
  AddsText progress.More (Last text closes) old new entry =
      Writes known.spill_tells text (Some closes) old new entry
  AddsText progress.Above writing old new entry = ⊥
  AddsText progress.Rest writing old new entry = ⊥
  AddsText progress.Dead writing old new entry = ⊥
  AddsText (progress.Broke why) writing old new entry = BreaksNow known why old new entry
