use Rattle.std.proofs.Common.{◌≡◌, ◌≤◌, ◌-◌, length, take}
use Rattle.std.specs.Prelude.{map}
use Rattle.request_stream.specs.Asks.{asks}
use Rattle.request_stream.specs.Reading.{Reads, Shuts, IsSound}
use Rattle.request_stream.specs.Room.{Holds, StaysWithin}
use Rattle.request_stream.specs.Units.{stamped}
use Rattle.request_stream.proofs.runs.run.Given as goal

abbrev pub invariant-loop-at : goal.invariant-loop-at
invariant-loop-at g l = record {
  within : l.at ≤ length l.piece;
  sound : IsSound l.limits l.state;
  holds : Holds l.initial.state l.state l.at l.initial.given.items l.given.items;
  small : StaysWithin l.limits l.initial.given.items l.given.items;
  shuts : Shuts l.initial.state l.state (map asks l.initial.given.items) (map asks l.given.items);
  reads : Reads g.S.Spill.tells l.limits l.initial.state l.state (stamped l.now (take l.at l.piece))
      (map asks l.initial.given.items) (map asks l.given.items);
  spills : g.P.Spills.faults l.spills ≡ g.P.Spills.faults l.initial.spills;
}

abbrev pub decreases-loop-at : goal.decreases-loop-at
decreases-loop-at g l = length l.piece - l.at
