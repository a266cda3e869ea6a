-- What the state of a channel and all acts of its two ends have to do with each other.
use Rattle.std.specs.Prelude.{◌≡◌, ◌≤◌, ◌<◌, ◌+◌, ℕ, Bool, true, false, ◌&&◌, IsTrue, List, []}
use Rattle.std.specs.Prelude.{◌++◌, length, take, map, Option, Some, None, is_some, option_to_list}
use Rattle.std.specs.Option.{ForSome}
use Rattle.outside.specs.declared.types.End.{End}
use Rattle.outside.specs.declared.types.End.TheVariants as over
use Rattle.outside.specs.declared.types.Peer.{Peer}
use Rattle.request_stream.specs.Asks.{asks}
use Rattle.request_stream.specs.declared.types.Unit.{Unit as AUnit}
use Rattle.spill_buffer.specs.Buffer.{Buffered}
use Rattle.wsgi.specs.declared.site.Site.{Site}
use Rattle.channel.specs.Histories.{LeftPast, RightPast, unit_of, written_of}
use Rattle.channel.specs.Output.{Script, any_closes, answer_for, answers_for, joined}
use Rattle.channel.specs.State.{State}
use Rattle.channel.specs.declared.types.Cause.{Cause}
use Rattle.channel.specs.declared.types.Cause.TheVariants as cause

-- the end that a break brings
abbrev pub end_by : Cause → End
end_by cause.Spill = over.SpillFault
end_by cause.App = over.AppFault
end_by cause.NoMemory = over.NoMemory

-- the end of a channel, by who ended it
abbrev pub death_of : Option End → Option Cause → Option End
death_of (Some end) broke = Some end
death_of None (Some cause) = Some (end_by cause)
death_of None None = None

module _ {S : Type 0} where
  -- The units are begun in the order in which they were put, and the others are ready, until
  -- an answer closes.
  pub record InOrder (closing : Bool) (put began ready : List (AUnit S)) : Type 0 where
    pub going : closing ≡ false → put ≡ began ++ ready
    pub closed : closing ≡ true → ready ≡ []
    pub front : take (length began) put ≡ began

  -- What was written is what was drained, and then the output; or, where a broken output was
  -- taken out, what was drained is the front of it.
  pub record KeepsBytes (tells : Bool) (output : Option (Buffered S))
      (drained wrote : List ℕ) : Type 0 where
    pub whole : IsTrue tells → ForSome output (λ b. wrote ≡ drained ++ b.bytes)
    pub front : IsTrue tells → take (length drained) wrote ≡ drained

  -- What was written are the answers to the finished units and the front of that to the
  -- current one.
  pub record WritesTexts (site : Site) (script : Script) (peer : Peer)
      (past : RightPast S) : Type 0 where
    pub whole : past.wrote ≡ joined (answers_for site script peer (map asks past.finished))
        ++ written_of past.current
    pub closes : any_closes (answers_for site script peer (map asks past.finished)) ≡ past.closed
    pub front : ForSome past.current (λ c.
        take (length c.written) (answer_for site script peer (asks c.unit)).text ≡ c.written)

  -- The units that were begun are those that are finished and the current one.
  pub record KeepsCourse (current closing : Bool) (past : RightPast S) : Type 0 where
    pub current_is : current ≡ is_some past.current
    pub closing_is : closing ≡ past.closed
    pub began_is : past.began ≡ past.finished ++ map unit_of (option_to_list past.current)
    -- behind an answer that closes nothing is current
    pub last : past.closed ≡ true → past.current ≡ None
    pub strict : past.stray ≡ false

-- how it died, and what broke
module _ {R S : Type 0} (spill_faults : S → ℕ) (run_faults body_faults : R → ℕ) where
  -- what broke stands in the state until it is buried
  pub record KeepsBroken (broke : Option Cause) (fallen : Option R)
      (output : Option (Buffered S)) : Type 0 where
    pub app : broke ≡ Some cause.App → IsTrue (is_some fallen)
    pub app_counted : broke ≡ Some cause.App → ForSome fallen (λ run. 0 < run_faults run)
    pub body : broke ≡ Some cause.Spill → ForSome fallen (λ run. 0 < body_faults run)
    pub stands : broke ≡ Some cause.Spill → IsTrue (is_some output)
    pub spill : broke ≡ Some cause.Spill → fallen ≡ None →
        ForSome output (λ b. 0 < spill_faults b.spill)

  pub record Dies (dead : Option End) (fallen : Option R) (output : Option (Buffered S))
      (left : LeftPast S) (right : RightPast S) : Type 0 where
    pub dead_is : dead ≡ death_of left.killed right.broke
    pub one : (is_some left.killed && is_some right.broke) ≡ false
    pub strict : left.stray ≡ false
    pub buried : left.buried ≡ true → IsTrue (is_some dead)
    pub broken : left.buried ≡ false → KeepsBroken right.broke fallen output
    pub stands : dead ≡ None → IsTrue (is_some output)

-- how long the output may be
pub record KeepsCounts {S : Type 0} (high_watermark longest : ℕ) (output : Option (Buffered S))
    (past : RightPast S) : Type 0 where
  pub longest_is : longest ≡ past.longest
  pub most : ForSome output (λ b. length b.bytes ≤ high_watermark + longest)

-- of whom it is known what a channel is to know: whether they tell, and their counts of faults
pub record Known (A R S : Type 0) : Type 0 where
  pub spill_tells : Bool
  pub app_tells : Bool
  pub script : A → Script
  pub spill_faults : S → ℕ
  pub run_faults : R → ℕ
  pub body_faults : R → ℕ

abbrev pub known_by : {A R S : Type 0} → Bool → Bool → (A → Script) → (S → ℕ) → (R → ℕ) → (R → ℕ) →
    Known A R S
known_by spill_tells app_tells script spill_faults run_faults body_faults = record {
  spill_tells = spill_tells;
  app_tells = app_tells;
  script = script;
  spill_faults = spill_faults;
  run_faults = run_faults;
  body_faults = body_faults;
}

pub record Agrees {A R S : Type 0} (known : Known A R S) (state : State A R S) (left : LeftPast S)
    (right : RightPast S) : Type 0 where
  pub order : InOrder state.closing left.put right.began state.ready
  pub bytes : KeepsBytes known.spill_tells state.output left.drained right.wrote
  pub texts : IsTrue known.app_tells → WritesTexts state.fixed.value.site
      (known.script state.fixed.value.app) state.fixed.value.peer right
  pub course : KeepsCourse state.current state.closing right
  pub death : Dies known.spill_faults known.run_faults known.body_faults state.dead state.fallen
      state.output left right
  pub counts : KeepsCounts state.fixed.value.window.high_watermark state.longest state.output right
