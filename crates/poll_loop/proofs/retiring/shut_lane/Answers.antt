use Rattle.channel.specs.Views.{telling}
use Rattle.poll_loop.proofs.Shutting.{closed_shuts}
use Rattle.poll_loop.proofs.retiring.shut_lane.Goals as goal

pub returns-clause-shuts : goal.returns-clause-shuts
returns-clause-shuts g c tells =
    closed_shuts (telling g.N.Link.Link.tells g.S.Spill.tells g.A.App.tells) g.A.App.script
    c.args.settings.now c.args.app.now g.A.Run.AppRun.faults
    g.N.Link.Link.state g.N.Link.Link.faults g.N.Link.Link.plan
    (g.N.Net.state c.args.net.now) (g.N.Net.state c.retire.new.self) c.args.lane.fixed
    c.args.lane.link c.close-closed.result.0.link c.args.lane.peer c.close-closed.result.0.peer
    (c.retire.ensures.told tells) (c.requires.live tells) c.close-closed.ensures.link
    c.close-closed.ensures.peer c.requires.by
    c.close-closed.ensures.sent (c.requires.timely tells)
