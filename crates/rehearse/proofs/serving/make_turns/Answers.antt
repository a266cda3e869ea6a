use Rattle.std.proofs.Common.{◌≡◌, Err, Ok, ap, refl, ◌∙◌}
use Rattle.poll_loop.specs.Server.{booked, serving}
use Rattle.poll_loop.specs.declared.settings.Going.TheVariants as going
use Rattle.poll_loop.specs.declared.settings.ServeFault.TheVariants as fault
use Rattle.poll_loop.proofs.Ending.{goes_none}
use Rattle.rehearse.specs.Between.{mem_eyes}
use Rattle.rehearse.specs.Rehearsed.{holds_of}
use Rattle.rehearse.proofs.Ends.{no_fault, no_limit, rehearsed, stopped}
use Rattle.rehearse.proofs.Rounds.{begins, hosts_nobody, round}
use Rattle.rehearse.proofs.UnderWay.{positive_seats}
use Rattle.rehearse.proofs.serving.make_turns.Goals as goal

pub loop-net-init : goal.loop-net-init
loop-net-init g c = record {
  goes = goes_none
      (holds_of g.A.App.tells g.A.App.script g.A.Run.AppRun.faults
      (serving c.args.server.now).settings (serving c.args.server.now).app) (λ link. link.plan)
      (serving c.args.server.now).settings.serve_limit (serving c.args.server.now).accepted
      (booked mem_eyes c.args.net.now.state c.args.spills.now.faults (serving c.args.server.now));
  hosts = hosts_nobody c.args.net.now.state (serving c.args.server.now).open' c.requires.nobody;
  stands = c.requires.stands;
  settings = refl;
  app = refl;
  plan = refl;
  between = begins c.args.net.now (serving c.args.server.now) c.requires.rehearsal
      c.requires.nobody c.requires.room c.requires.unlimited;
}

pub turn-going-requires-clause-stands : goal.turn-going-requires-clause-stands
turn-going-requires-clause-stands g c _ _ = c.loop-net.invariant.stands

pub turn-going-requires-clause-hosts : goal.turn-going-requires-clause-hosts
turn-going-requires-clause-hosts g c _ _ tells = c.loop-net.invariant.hosts

pub loop-net-preserved : goal.loop-net-preserved
loop-net-preserved g c =
    let held = c.loop-net.invariant in
    let made = c.turn-going.ensures in
    let same : c.in-Ok-On.field-0 ≡ going.On = rw c.in-Ok-On.is at c.in-Ok-On.field-0-is in
    let on : c.turn-going.result ≡ Ok going.On = c.in-Ok-On.is ∙ ap (λ x. Ok x) same in
    let next = round g.A.App.tells g.A.App.script g.A.Run.AppRun.faults c.args.net.now
    c.loop-net.net c.turn-going.new.net c.args.spills.now.faults c.loop-net.spills.faults
    c.turn-going.new.spills.faults (serving c.args.server.now) (serving c.loop-net.server)
    (serving c.turn-going.new.self) c.plans_are_even.ensures c.requires.rehearsal
    c.requires.nobody held.settings held.app held.goes held.between
    (record {
      no_idle = made.no_idle on refl refl;
      accounts = made.goes_on on refl;
      came_more = made.came_more refl;
      unstopped = made.unstopped on refl;
      knows = made.knows on refl;
      plan = made.rest.plan;
      settings = made.same.settings;
      keeps = c.look.ensures.kept;
      sound = c.look.ensures.sound;
      positive = positive_seats c.turn-going.new.self.settings.now
          c.turn-going.new.self.app.now c.turn-going.new.self.connections.seats.items
          made.stands.usable.positive made.stands.by;
    }) in
    record {
      goes = next.goes;
      hosts = made.hosts on refl;
      stands = made.stands;
      settings = made.same.settings ∙ held.settings;
      app = made.same.app ∙ held.app;
      plan = made.rest.plan ∙ held.plan;
      between = next.between;
    }

pub loop-net-smaller : goal.loop-net-smaller
loop-net-smaller g c =
    let held = c.loop-net.invariant in
    let made = c.turn-going.ensures in
    let same : c.in-Ok-On.field-0 ≡ going.On = rw c.in-Ok-On.is at c.in-Ok-On.field-0-is in
    let on : c.turn-going.result ≡ Ok going.On = c.in-Ok-On.is ∙ ap (λ x. Ok x) same in
    let next = round g.A.App.tells g.A.App.script g.A.Run.AppRun.faults c.args.net.now
    c.loop-net.net c.turn-going.new.net c.args.spills.now.faults c.loop-net.spills.faults
    c.turn-going.new.spills.faults (serving c.args.server.now) (serving c.loop-net.server)
    (serving c.turn-going.new.self) c.plans_are_even.ensures c.requires.rehearsal
    c.requires.nobody held.settings held.app held.goes held.between
    (record {
      no_idle = made.no_idle on refl refl;
      accounts = made.goes_on on refl;
      came_more = made.came_more refl;
      unstopped = made.unstopped on refl;
      knows = made.knows on refl;
      plan = made.rest.plan;
      settings = made.same.settings;
      keeps = c.look.ensures.kept;
      sound = c.look.ensures.sound;
      positive = positive_seats c.turn-going.new.self.settings.now
          c.turn-going.new.self.app.now c.turn-going.new.self.connections.seats.items
          made.stands.usable.positive made.stands.by;
    }) in
    next.less

pub returns-in-Ok-Stopped : goal.returns-in-Ok-Stopped
returns-in-Ok-Stopped g c =
    let held = c.loop-net.invariant in
    let made = c.turn-going.ensures in
    let same : c.in-Ok-Stopped.field-0 ≡ going.Stopped =
    rw c.in-Ok-Stopped.is at c.in-Ok-Stopped.field-0-is in
    let is : c.turn-going.result ≡ Ok going.Stopped =
    c.in-Ok-Stopped.is ∙ ap (λ x. Ok x) same in
    rehearsed g.A.App.tells g.A.App.script g.A.Run.AppRun.faults c.args.net.now
    c.turn-going.new.net c.args.spills.now.faults c.turn-going.new.spills.faults
    (serving c.args.server.now) (serving c.turn-going.new.self) c.requires.rehearsal
    c.requires.nobody
    (stopped g.A.App.tells g.A.App.script g.A.Run.AppRun.faults c.args.net.now
    c.loop-net.net c.turn-going.new.net c.args.spills.now.faults c.loop-net.spills.faults
    c.turn-going.new.spills.faults (serving c.args.server.now) (serving c.loop-net.server)
    (serving c.turn-going.new.self) c.turn-going.result is held.settings held.app held.goes
    (made.served (λ on. absurd (cc (on, is))) refl) (made.still refl) (made.ends refl)
    (made.rest.plan ∙ held.plan) c.look_back.ensures.kept c.look_back.ensures.links)

pub unreachable-requires : goal.unreachable-requires
unreachable-requires g c =
    let same : c.in-Ok-LimitMet.field-0 ≡ going.LimitMet =
    rw c.in-Ok-LimitMet.is at c.in-Ok-LimitMet.field-0-is in
    no_limit c.turn-going.result (serving c.loop-net.server).settings.serve_limit
    (serving c.loop-net.server).accepted c.loop-net.net.state c.turn-going.new.net.state
    (c.in-Ok-LimitMet.is ∙ ap (λ x. Ok x) same) c.loop-net.invariant.between.way.unlimited
    (c.turn-going.ensures.ends refl)

pub unreachable-requires-in-Err-Net : goal.unreachable-requires-in-Err-Net
unreachable-requires-in-Err-Net g c =
    let between = c.loop-net.invariant.between in
    let same : c.in-Err-Net.field-0 ≡ fault.Net =
    rw c.in-Err-Net.is at c.in-Err-Net.field-0-is in
    no_fault c.turn-going.result c.loop-net.net.poll_faults between.connections
    c.turn-going.new.net (c.in-Err-Net.is ∙ ap (λ x. Err x) same)
    (c.turn-going.ensures.rest.plan ∙ between.way.plan) c.look.ensures.kept c.turn-going.ensures.cause
