-- Internal: a turn of the answering side.
use Rattle.std.specs.Prelude.{◌≡◌, ℕ, Bool, List, [], ◌∷◌, Option, Some}
use Rattle.outside.specs.declared.types.Peer.{Peer}
use Rattle.spill_buffer.specs.declared.fault.BufferFault.{BufferFault}
use Rattle.spill_buffer.specs.declared.fault.BufferFault.TheVariants as fault
use Rattle.wsgi.specs.declared.site.Site.{Site}
use Rattle.wsgi.specs.declared.step.Step.{Step}
use Rattle.channel.specs.Acting.{Adds, length_of}
use Rattle.channel.specs.Agreement.{Agrees, KeepsBroken, Known, end_by}
use Rattle.channel.specs.Histories.{LeftPast, RightEntry, RightPast, right_turn}
use Rattle.channel.specs.Output.{Script}
use Rattle.channel.specs.State.{State}
use Rattle.channel.specs.Writing.{KeepsWriting}
use Rattle.channel.specs.declared.acts.RightAct.TheVariants.{Broke, Wrote}
use Rattle.channel.specs.declared.shared.Fixed.{Fixed}
use Rattle.channel.specs.declared.types.Cause.{Cause}
use Rattle.channel.specs.declared.types.Cause.TheVariants as cause
use Rattle.channel.specs.declared.writing.Writing.{Writing}

-- the answering side goes by what the channel was opened with
pub record GoesByFixed {A : Type 0} (of : A → Script) (fixed : Fixed A) (site : Site)
    (script : Script) (peer : Peer) : Type 0 where
  pub site_is : fixed.site ≡ site
  pub script_is : of fixed.app ≡ script
  pub peer_is : fixed.peer ≡ peer

-- A turn of the answering side keeps the state in agreement with what both sides did, and what it
-- wrote and what it still gives are the answer to the current unit.
pub record TurnsRight {A R S : Type 0} (known : Known A R S) (rest : R →
    List Step) (site : Site) (script : Script) (peer : Peer)
    (old_writing new_writing : Writing R) (old new : State A R S)
    (entry : RightEntry S) : Type 0 where
  pub fixed : new.fixed ≡ old.fixed
  pub agrees : (l : LeftPast S) (r : RightPast S) →
      GoesByFixed known.script old.fixed.value site script peer → Agrees known old l r →
      KeepsWriting known.app_tells rest site script peer old_writing r →
      Agrees known new l (right_turn r entry)
  pub writes : (l : LeftPast S) (r : RightPast S) →
      GoesByFixed known.script old.fixed.value site script peer → Agrees known old l r →
      KeepsWriting known.app_tells rest site script peer old_writing r →
      KeepsWriting known.app_tells rest site script peer new_writing (right_turn r entry)

-- the same, whatever the channel was opened with
pub record TurnsAny {A R S : Type 0} (known : Known A R S) (rest : R →
    List Step) (old_writing new_writing : Writing R) (old new : State A R S)
    (entry : RightEntry S) : Type 0 where
  pub turns : (site : Site) (script : Script) (peer : Peer) →
      TurnsRight known rest site script peer old_writing new_writing old new entry

-- what a fault of the output is to the answer
abbrev pub cause_by : BufferFault → Cause
cause_by fault.Spill = cause.Spill
cause_by fault.NoMemory = cause.NoMemory

-- The answer broke off: the output has as many bytes as before, and what broke has counted it.
pub record BreaksNow {A R S : Type 0} (known : Known A R S) (why : Cause) (old new : State A R S)
    (entry : RightEntry S) : Type 0 where
  pub output : length_of new.output ≡ length_of old.output
  pub broken : KeepsBroken known.spill_faults known.run_faults known.body_faults
      (Some why) new.fallen new.output
  pub now : new ≡ record old { output = new.output; dead = Some (end_by why); fallen = new.fallen }
  pub told : entry.value ≡ Broke why ∷ []

-- The answer breaks off, whatever is under way.
pub record BreaksAny {A R S : Type 0} (known : Known A R S) (rest : R →
    List Step) (why : Cause) (old new : State A R S) (entry : RightEntry S) : Type 0 where
  pub breaks : BreaksNow known why old new entry
  pub turns : (site : Site) (script : Script) (peer : Peer) (old_writing new_writing : Writing R) →
      TurnsRight known rest site script peer old_writing new_writing old new entry

-- A text was put behind the output, and that is all.
pub record Writes {A R S : Type 0} (tells : Bool) (text : List ℕ) (ended : Option Bool)
    (old new : State A R S) (entry : RightEntry S) : Type 0 where
  pub adds : Adds tells text ended old new
  pub told : entry.value ≡ Wrote text ended ∷ []
