use Rattle.std.proofs.Common.{ap, length}
use Rattle.channel.specs.Views.{telling}
use Rattle.poll_loop.specs.Seat.{eyes_of}
use Rattle.poll_loop.specs.Server.{booked, serving}
use Rattle.poll_loop.proofs.Ending.{seats_timely, shut_same, turn_down, turn_ends}
use Rattle.poll_loop.proofs.server.Server.turn.Goals as goal

pub shut_down-requires-clause-timely : goal.shut_down-requires-clause-timely
shut_down-requires-clause-timely g c _ _ tells =
    seats_timely (eyes_of g.N.Link.Link)
    (g.N.Net.state c.step.new.net) c.step.new.self.connections.seats.items
    (c.step.ensures.hosts tells).timely

pub returns-in-Some-clause-served : goal.returns-in-Some-clause-served
returns-in-Some-clause-served g c _ tells =
    turn_down (telling g.N.Link.Link.tells g.P.Spill.Spill.tells g.A.App.tells) g.A.App.script
    g.A.Run.AppRun.faults
    (eyes_of g.N.Link.Link)
    c.args.self.now.settings.now c.step.new.self.settings.now c.args.self.now.app.now
    c.step.new.self.app.now
    c.in-Some.why c.step.result c.answer.result
    c.args.self.now.settings.now.serve_limit c.args.self.now.connections.accepted
    c.step.new.self.connections.accepted
    (booked (eyes_of g.N.Link.Link)
    (g.N.Net.state c.args.net.now) (g.P.Spills.faults c.args.spills.now) (serving c.args.self.now))
    (g.N.Net.state c.step.new.net) (g.N.Net.state c.shut_down.new.net)
    (g.P.Spills.faults c.step.new.spills) (g.P.Spills.faults c.shut_down.new.spills)
    (length c.step.new.self.connections.fallen.items) (length
    c.shut_down.new.connections.fallen.items)
    c.step.new.self.connections.seats.items _ c.in-Some.is c.answer.ensures
    (ap (λ r. r.now) c.step.ensures.same.settings) (ap (λ r. r.now) c.step.ensures.same.app)
    (c.step.ensures.steps tells) (c.shut_down.ensures.shuts tells) c.shut_down.ensures.spills
    (ap length c.shut_down.ensures.fallen)

pub returns-in-Some-clause-ends : goal.returns-in-Some-clause-ends
returns-in-Some-clause-ends g c tells =
    turn_ends c.in-Some.why c.step.result c.answer.result c.args.self.now.settings.now.serve_limit
    c.args.self.now.connections.accepted
    (booked (eyes_of g.N.Link.Link)
    (g.N.Net.state c.args.net.now) (g.P.Spills.faults c.args.spills.now) (serving c.args.self.now))
    (booked (eyes_of g.N.Link.Link)
    (g.N.Net.state c.step.new.net) (g.P.Spills.faults c.step.new.spills) (serving c.step.new.self))
    (booked (eyes_of g.N.Link.Link)
    (g.N.Net.state c.shut_down.new.net) (g.P.Spills.faults c.step.new.spills)
    (serving c.step.new.self))
    c.in-Some.is c.answer.ensures (c.step.ensures.steps tells).ends
    (shut_same _ _ _ _ _ (c.shut_down.ensures.shuts tells))
