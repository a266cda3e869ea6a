use Rattle.std.proofs.Common.{◌≡◌, ◌≤◌, ◌<◌, ◌+◌, ◌-◌, All, length, vec_capacity, vec_len}
use Rattle.channel.specs.Views.{telling}
use Rattle.poll_loop.specs.Connections.{Counted, HasBroken, going_on, service_by}
use Rattle.poll_loop.specs.Entries.{EntryHolds}
use Rattle.poll_loop.specs.Seat.{eyes_of}
use Rattle.poll_loop.proofs.Sifting.{Sifts}
use Rattle.poll_loop.proofs.retiring.retire_over.Given as goal

abbrev pub invariant-loop-i : goal.invariant-loop-i
invariant-loop-i g l = record {
  sifts : Sifts g.N.Net.tells (eyes_of g.N.Link.Link)
      (EntryHolds (service_by (telling g.N.Link.Link.tells g.P.Spill.Spill.tells g.A.App.tells)
      g.A.App.script l.settings l.app)
      (going_on (HasBroken g.A.Run.AppRun.faults)) g.N.Link.Link.state g.N.Link.Link.faults)
      l.fn.connections.seats.items l.connections.seats.items l.i (g.N.Net.state l.fn.net)
      (g.N.Net.state l.net)
      (g.P.Spills.faults l.fn.spills) (g.P.Spills.faults l.spills)
      (length l.fn.connections.fallen.items) (length l.connections.fallen.items);
  counted : Counted l.settings.serve_limit l.connections.accepted l.connections.retired
      (length l.connections.seats.items);
  shelf : length l.connections.fallen.items + length l.connections.seats.items ≤ vec_capacity
      l.connections.fallen;
  broke : All (λ run. 0 < g.A.Run.AppRun.faults run) l.connections.fallen.items;
  accepted : l.connections.accepted ≡ l.fn.connections.accepted;
  bind : g.N.Net.bind_faults l.net ≡ g.N.Net.bind_faults l.fn.net;
  polls : g.N.Net.poll_faults l.net ≡ g.N.Net.poll_faults l.fn.net;
  nobody : g.N.Net.nobody l.fn.net → g.N.Net.nobody l.net;
  plan : g.N.Net.plan l.net ≡ g.N.Net.plan l.fn.net;
  moment : g.N.Net.moment l.net ≡ g.N.Net.moment l.fn.net;
  spills : g.P.Spills.faults l.fn.spills ≤ g.P.Spills.faults l.spills;
}

abbrev pub decreases-loop-i : goal.decreases-loop-i
decreases-loop-i g l = vec_len l.connections.seats - l.i
