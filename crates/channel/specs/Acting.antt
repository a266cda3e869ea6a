-- What each function on the state does to it.
use Rattle.std.specs.Prelude.{◌≡◌, ◌<◌, ◌+◌, ℕ, max, Bool, true, false, not, ◌&&◌, ◌||◌}
use Rattle.std.specs.Prelude.{if◌then◌else◌, nat_eq, nat_lt, List, [], ◌∷◌, ◌++◌, length, take}
use Rattle.std.specs.Prelude.{drop}
use Rattle.std.specs.Prelude.{Option, Some, None, is_none, Result, Ok, Err}
use Rattle.std.specs.Option.{ForSome}
use Rattle.outside.specs.declared.types.End.{End}
use Rattle.request_stream.specs.declared.types.Unit.{Unit as AUnit}
use Rattle.spill_buffer.specs.Buffer.{Buffered, IsToldAs}
use Rattle.spill_buffer.specs.declared.fault.BufferFault.{BufferFault}
use Rattle.spill_buffer.specs.declared.fault.BufferFault.TheVariants as fault
use Rattle.channel.specs.State.{State}
use Rattle.channel.specs.Views.{over_by}

abbrev pub length_of : {S : Type 0} → Option (Buffered S) → ℕ
length_of None = 0
length_of (Some b) = length b.bytes

-- the first bytes, where they stand in memory
abbrev pub lent_of : {S : Type 0} → Option (Buffered S) → List ℕ
lent_of None = []
lent_of (Some b) = take b.in_memory b.bytes

-- something is there, and has counted a fault
abbrev pub has_counted : {T : Type 0} → (T → ℕ) → Option T → Bool
has_counted faults None = false
has_counted faults (Some x) = nat_lt 0 (faults x)

-- The spill that failed has counted it: this one or, where none is given, that of the output.
abbrev pub spill_counted : {S : Type 0} → (S → ℕ) → Option S → Option (Buffered S) → Bool
spill_counted faults (Some spill) output = nat_lt 0 (faults spill)
spill_counted faults None None = false
spill_counted faults None (Some b) = nat_lt 0 (faults b.spill)

-- the spill of what was taken out, or the one that was there before
abbrev pub spill_by : {S : Type 0} → Option (Buffered S) → Option S → Option S
spill_by None before = before
spill_by (Some output) before = Some output.spill

-- behind a text: whether its unit goes on, what is ready, and whether the channel closes
abbrev pub goes_on : Option Bool → Bool
goes_on ended = is_none ended

abbrev pub ready_by : {S : Type 0} → Option Bool → List (AUnit S) → List (AUnit S)
ready_by None ready = ready
ready_by (Some false) ready = ready
ready_by (Some true) ready = []

abbrev pub closing_by : Option Bool → Bool → Bool
closing_by None closing = closing
closing_by (Some closes) closing = closes

module _ {A R S : Type 0} where
  -- how many units are ready or current
  abbrev pub unit_count : State A R S → ℕ
  unit_count s = length s.ready + (if s.current then 1 else 0)

  -- a unit is ready or current
  abbrev pub is_working : State A R S → Bool
  is_working s = nat_lt 0 (unit_count s)

  abbrev pub output_length : State A R S → ℕ
  output_length s = length_of s.output

  -- nothing is ready or current, the output is empty, and nothing more is to come
  abbrev pub is_done : State A R S → Bool → Bool
  is_done s ended = not (is_working s) && (nat_eq (output_length s) 0 && (s.closing || ended))

  -- how a channel is over, if it is
  abbrev pub over_of : State A R S → Bool → Option End
  over_of s ended = over_by s.dead (is_done s ended)

  -- The first ready unit becomes current.
  abbrev pub Begins : Option (AUnit S) → State A R S → State A R S → Type 0
  Begins (Some unit) old new = (old.ready ≡ unit ∷ new.ready)
      × (new ≡ record old { ready = new.ready; current = true })
  Begins None old new = (old.ready ≡ []) × (new ≡ old)

  -- A text was put behind the output.
  pub record Adds (tells : Bool) (text : List ℕ) (ended : Option Bool)
      (old new : State A R S) : Type 0 where
    pub before : Buffered S
    pub after : Buffered S
    pub had : old.output ≡ Some before
    pub bytes : IsToldAs tells after.bytes (before.bytes ++ text)
    pub now : new ≡ record old {
      output = Some after;
      ready = ready_by ended old.ready;
      current = goes_on ended;
      closing = closing_by ended old.closing;
      longest = max old.longest (length text);
    }

  -- The output has the bytes that it had, and its spill may have failed.
  pub record Touches (tells : Bool) (old new : State A R S) : Type 0 where
    pub before : Buffered S
    pub after : Buffered S
    pub had : old.output ≡ Some before
    pub bytes : IsToldAs tells after.bytes before.bytes
    pub now : new ≡ record old { output = Some after }

  -- The first bytes were taken out.
  pub record Skips (tells : Bool) (count : ℕ) (old new : State A R S) : Type 0 where
    pub before : Buffered S
    pub after : Buffered S
    pub had : old.output ≡ Some before
    pub bytes : IsToldAs tells after.bytes (drop count before.bytes)
    pub now : new ≡ record old { output = Some after }

  -- where the spill of the output failed, it has counted it
  abbrev pub CountsFault : {T : Type 0} → (S → ℕ) → Result T BufferFault → State A R S → Type 0
  CountsFault faults (Ok _) s = Unit {0}
  CountsFault faults (Err fault.Spill) s = ForSome s.output (λ b. 0 < faults b.spill)
  CountsFault faults (Err fault.NoMemory) s = Unit {0}
