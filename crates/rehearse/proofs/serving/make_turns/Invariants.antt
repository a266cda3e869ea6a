use Rattle.std.proofs.Common.{◌≡◌}
use Rattle.poll_loop.specs.NoIdle.{Hosts}
use Rattle.poll_loop.specs.Server.{Stands, serving}
use Rattle.rehearse.specs.Between.{mem_eyes}
use Rattle.rehearse.proofs.Rounds.{IsBetween, Went, left_over}
use Rattle.rehearse.proofs.serving.make_turns.Given as goal

abbrev pub invariant-loop-net : goal.invariant-loop-net
invariant-loop-net g l = record {
  goes : Went g.A.App.tells g.A.App.script g.A.Run.AppRun.faults l.fn.net l.net l.fn.spills.faults
      l.spills.faults (serving l.fn.server) (serving l.server);
  hosts : Hosts mem_eyes l.net.state (serving l.server).open';
  stands : Stands mem_eyes g.A.Run.AppRun.faults l.server;
  settings : l.server.settings.now ≡ l.fn.server.settings.now;
  app : l.server.app.now ≡ l.fn.server.app.now;
  plan : l.net.plan ≡ l.fn.net.plan;
  between : IsBetween l.net (serving l.server);
}

abbrev pub decreases-loop-net : goal.decreases-loop-net
decreases-loop-net g l = left_over l.net (serving l.server)
