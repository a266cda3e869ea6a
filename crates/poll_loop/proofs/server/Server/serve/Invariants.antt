use Rattle.std.proofs.Common.{◌≡◌, ◌≤◌, IsTrue}
use Rattle.channel.specs.Views.{telling}
use Rattle.poll_loop.specs.Connections.{HasBroken, going_on, service_by}
use Rattle.poll_loop.specs.Entries.{EntryHolds}
use Rattle.poll_loop.specs.NoIdle.{Hosts}
use Rattle.poll_loop.specs.Seat.{eyes_of}
use Rattle.poll_loop.specs.Server.{Stands, booked, serving}
use Rattle.poll_loop.proofs.Ending.{GoesOn}
use Rattle.poll_loop.proofs.server.Server.serve.Given as goal

abbrev pub invariant-loop : goal.invariant-loop
invariant-loop g l = record {
  goes : IsTrue g.N.Net.tells → GoesOn
      (EntryHolds (service_by (telling g.N.Link.Link.tells g.P.Spill.Spill.tells g.A.App.tells)
      g.A.App.script l.fn.self.settings.now l.fn.self.app.now)
      (going_on (HasBroken g.A.Run.AppRun.faults)) g.N.Link.Link.state g.N.Link.Link.faults)
      g.N.Link.Link.plan l.fn.self.settings.now.serve_limit l.fn.self.connections.accepted
      l.self.connections.accepted
      (booked (eyes_of g.N.Link.Link)
      (g.N.Net.state l.fn.net) (g.P.Spills.faults l.fn.spills) (serving l.fn.self))
      (booked (eyes_of g.N.Link.Link)
      (g.N.Net.state l.net) (g.P.Spills.faults l.spills) (serving l.self));
  hosts : IsTrue g.N.Net.tells → Hosts (eyes_of g.N.Link.Link)
      (g.N.Net.state l.net) (serving l.self).open';
  stands : Stands (eyes_of g.N.Link.Link) g.A.Run.AppRun.faults l.self;
  settings : l.self.settings.now ≡ l.fn.self.settings.now;
  app : l.self.app.now ≡ l.fn.self.app.now;
  polls : g.N.Net.poll_faults l.net ≡ g.N.Net.poll_faults l.fn.net;
  bind : g.N.Net.bind_faults l.net ≡ g.N.Net.bind_faults l.fn.net;
  plan : g.N.Net.plan l.net ≡ g.N.Net.plan l.fn.net;
  spills : g.P.Spills.faults l.fn.spills ≤ g.P.Spills.faults l.spills;
}
