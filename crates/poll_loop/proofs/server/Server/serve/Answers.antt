use Rattle.std.proofs.Common.{◌≢◌, ◌∙◌, Ok, arith, refl, sym, true≢false}
use Rattle.channel.specs.Views.{telling}
use Rattle.poll_loop.specs.Connections.{HasBroken, going_on, service_by}
use Rattle.poll_loop.specs.Entries.{EntryHolds}
use Rattle.poll_loop.specs.Seat.{eyes_of}
use Rattle.poll_loop.specs.Server.{booked, serving}
use Rattle.poll_loop.specs.declared.settings.Going.TheVariants as going
use Rattle.poll_loop.proofs.Ending.{goes_none, serve_again, serve_cause, serve_ended, serve_ends}
use Rattle.poll_loop.proofs.server.Server.serve.Goals as goal

pub loop-init : goal.loop-init
loop-init g c = record {
  goes = λ _. goes_none
      (EntryHolds (service_by (telling g.N.Link.Link.tells g.P.Spill.Spill.tells g.A.App.tells)
      g.A.App.script c.args.self.now.settings.now c.args.self.now.app.now)
      (going_on (HasBroken g.A.Run.AppRun.faults)) g.N.Link.Link.state g.N.Link.Link.faults)
      g.N.Link.Link.plan c.args.self.now.settings.now.serve_limit
      c.args.self.now.connections.accepted
      (booked (eyes_of g.N.Link.Link)
      (g.N.Net.state c.args.net.now) (g.P.Spills.faults c.args.spills.now)
      (serving c.args.self.now));
  hosts = c.requires.hosts;
  stands = c.requires.stands;
  settings = refl;
  app = refl;
  polls = refl;
  bind = refl;
  plan = refl;
  spills = omega arith;
}

pub turn-answer-requires-clause-stands : goal.turn-answer-requires-clause-stands
turn-answer-requires-clause-stands g c _ _ = c.loop.invariant.stands

pub turn-answer-requires-clause-hosts : goal.turn-answer-requires-clause-hosts
turn-answer-requires-clause-hosts g c _ _ = c.loop.invariant.hosts

pub loop-preserved : goal.loop-preserved
loop-preserved g c =
    let held = c.loop.invariant in
    let made = c.turn-answer.ensures in
    let on = c.goes_on.ensures.0 c.if-not-goes_on.false in
    record {
      goes = λ tells. serve_again
          (telling g.N.Link.Link.tells g.P.Spill.Spill.tells g.A.App.tells) g.A.App.script
          g.A.Run.AppRun.faults (eyes_of g.N.Link.Link) _ _ _ _ _ _ _ _ _
          c.turn-answer.new.self.connections.accepted held.settings held.app (held.goes tells)
          (made.goes_on on tells) (made.came_more tells) (made.unstopped on tells)
          (made.knows on tells);
      hosts = made.hosts on;
      stands = made.stands;
      settings = made.same.settings ∙ held.settings;
      app = made.same.app ∙ held.app;
      polls = serve_cause _ (Ok going.On) _ _ _ on held.polls made.cause;
      bind = made.rest.bind ∙ held.bind;
      plan = made.rest.plan ∙ held.plan;
      spills = let a = held.spills in let b = made.rest.spills in omega (arith, a, b);
    }

pub returns-then-not-goes_on-clause-ended : goal.returns-then-not-goes_on-clause-ended
returns-then-not-goes_on-clause-ended g c on =
    true≢false (sym (c.goes_on.ensures.1 on) ∙ c.if-not-goes_on.true)

pub returns-then-not-goes_on-clause-served : goal.returns-then-not-goes_on-clause-served
returns-then-not-goes_on-clause-served g c tells =
    let held = c.loop.invariant in
    let made = c.turn-answer.ensures in
    let other : c.turn-answer.result ≢ Ok going.On = λ on. true≢false
    (sym (c.goes_on.ensures.1 on) ∙ c.if-not-goes_on.true) in
    serve_ended (telling g.N.Link.Link.tells g.P.Spill.Spill.tells g.A.App.tells) g.A.App.script
    g.A.Run.AppRun.faults (eyes_of g.N.Link.Link) _ _ _ _ _ _ _ _ _
    c.turn-answer.result _ refl held.settings held.app (held.goes tells)
    (made.served other tells) (made.still tells)

pub returns-then-not-goes_on-clause-ends : goal.returns-then-not-goes_on-clause-ends
returns-then-not-goes_on-clause-ends g c tells =
    let held = c.loop.invariant in
    serve_ends (telling g.N.Link.Link.tells g.P.Spill.Spill.tells g.A.App.tells) g.A.App.script
    g.A.Run.AppRun.faults (eyes_of g.N.Link.Link) _ _ c.args.self.now.app.now c.loop.self.app.now
    _ _ _ _ (booked (eyes_of g.N.Link.Link) (g.N.Net.state c.turn-answer.new.net)
    (g.P.Spills.faults c.turn-answer.new.spills) (serving c.turn-answer.new.self))
    c.turn-answer.result _ refl held.settings (held.goes tells)
    (c.turn-answer.ensures.ends tells)

pub returns-then-not-goes_on-clause-cause : goal.returns-then-not-goes_on-clause-cause
returns-then-not-goes_on-clause-cause g c =
    serve_cause c.turn-answer.result _ _ _ _ refl c.loop.invariant.polls
    c.turn-answer.ensures.cause
