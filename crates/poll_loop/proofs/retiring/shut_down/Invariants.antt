use Rattle.std.proofs.Common.{◌≡◌, ◌≤◌, ◌+◌, length, vec_capacity, vec_len}
use Rattle.channel.specs.Views.{telling}
use Rattle.poll_loop.specs.Connections.{Counted, HasBroken, service_by, shutting_down}
use Rattle.poll_loop.specs.Entries.{EntryHolds}
use Rattle.poll_loop.specs.Seat.{eyes_of}
use Rattle.poll_loop.proofs.Shutting.{Shuts}
use Rattle.poll_loop.proofs.retiring.shut_down.Given as goal

abbrev pub invariant-loop-connections : goal.invariant-loop-connections
invariant-loop-connections g l = record {
  shuts : Shuts g.N.Net.tells (eyes_of g.N.Link.Link)
      (EntryHolds (service_by (telling g.N.Link.Link.tells g.P.Spill.Spill.tells g.A.App.tells)
      g.A.App.script l.settings l.app)
      (shutting_down (HasBroken g.A.Run.AppRun.faults)) g.N.Link.Link.state g.N.Link.Link.faults)
      l.fn.connections.seats.items l.connections.seats.items (g.N.Net.state l.fn.net)
      (g.N.Net.state l.net);
  counted : Counted l.settings.serve_limit l.connections.accepted l.connections.retired
      (length l.connections.seats.items);
  fallen : l.connections.fallen.items ≡ l.fn.connections.fallen.items;
  shelf : length l.connections.fallen.items + length l.connections.seats.items ≤ vec_capacity
      l.connections.fallen;
  accepted : l.connections.accepted ≡ l.fn.connections.accepted;
  bind : g.N.Net.bind_faults l.net ≡ g.N.Net.bind_faults l.fn.net;
  polls : g.N.Net.poll_faults l.net ≡ g.N.Net.poll_faults l.fn.net;
  plan : g.N.Net.plan l.net ≡ g.N.Net.plan l.fn.net;
  moment : g.N.Net.moment l.net ≡ g.N.Net.moment l.fn.net;
}

abbrev pub decreases-loop-connections : goal.decreases-loop-connections
decreases-loop-connections g l = vec_len l.connections.seats
