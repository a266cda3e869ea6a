use Rattle.std.proofs.Common.{take, refl, ap, sym, subst, ◌∙◌, arith}
use Rattle.channel.specs.Views.{telling}
use Rattle.outside.specs.Net.{NetState}
use Rattle.outside.specs.declared.retired.Retired.{Retired}
use Rattle.poll_loop.specs.Connections.{HasBroken, going_on, service_by}
use Rattle.poll_loop.specs.Entries.{EntryHolds}
use Rattle.poll_loop.specs.Server.{serving}
use Rattle.poll_loop.specs.Settings.{is_below}
use Rattle.poll_loop.specs.Lists.{Paired}
use Rattle.poll_loop.specs.Seat.{Eyes, SeatAsks, eyes_of}
use Rattle.poll_loop.proofs.Books.{entry_holds_later}
use Rattle.poll_loop.proofs.Cases.{asks_paired}
use Rattle.poll_loop.proofs.Carrying.{accept_failed, carries, hosts_came, limit_met, open_of}
use Rattle.poll_loop.proofs.Carrying.{worked}
use Rattle.poll_loop.proofs.Working.{accounts_as, who_is}
use Rattle.poll_loop.proofs.server.Server.carry.Goals as goal

pub work-requires-clause-asks : goal.work-requires-clause-asks
work-requires-clause-asks g c _ _ =
    let e : Eyes g.row.N-Link.Denot g.row.N-Link-Plan.Denot = eyes_of g.N.Link.Link in
    let t = c.in-None.ensures.takes in
    subst (Paired (SeatAsks e c.args.self.now.settings.now.window)
    (take c.args.asked c.args.self.now.wants.items)) (sym t.are)
    (asks_paired e _ _ _ t.came c.requires.asks.asks c.requires.stands.rest)

pub returns-in-Some-clause-hosts : goal.returns-in-Some-clause-hosts
returns-in-Some-clause-hosts g c tells =
    let s = c.accept_if.ensures in
    hosts_came _ _ _ _ _ _ _ _ _ _ _ _ _ s.takes (s.accounts tells) (s.same_polls tells)
    (c.requires.now tells).within (c.requires.hosts tells)

pub work-requires-clause-hosts : goal.work-requires-clause-hosts
work-requires-clause-hosts g c _ _ tells =
    let s = c.accept_if.ensures in
    hosts_came _ _ _ _ _ _ _ _ _ _ _ _ _ s.takes (s.accounts tells) (s.same_polls tells)
    (c.requires.now tells).within (c.requires.hosts tells)

pub returns-in-Some-clause-steps : goal.returns-in-Some-clause-steps
returns-in-Some-clause-steps g c tells =
    let s = c.accept_if.ensures in
    accept_failed _ (eyes_of g.N.Link.Link) _ _ _ _ _ _ _ _ _ _ _ (s.accounts tells)
    (s.same_polls tells) (c.requires.knows tells) (s.came_more tells) _

pub returns-then-below-clause-steps : goal.returns-then-below-clause-steps
returns-then-below-clause-steps g c tells =
    let s = c.accept_if.ensures in
    let w = c.work.ensures in
    worked _ (eyes_of g.N.Link.Link) _ _ _ _ _ _ _ _ _ _ _ (s.accounts tells)
    (s.same_polls tells) (c.requires.knows tells) (s.came_more tells)
    (entry_holds_later _ _ _ _) _ _ _ _ _ c.work.new.self.connections.seats.items
    (w.accounts tells) (w.net tells)
    (c.requires.unstopped tells) w.accepted (λ stopped knows more. (stopped, knows))

pub returns-else-below-clause-steps : goal.returns-else-below-clause-steps
returns-else-below-clause-steps g c tells =
    let s = c.accept_if.ensures in
    let w = c.work.ensures in
    worked _ (eyes_of g.N.Link.Link) _ _ _ _ _ _ _ _ _ _ _ (s.accounts tells)
    (s.same_polls tells) (c.requires.knows tells) (s.came_more tells)
    (entry_holds_later _ _ _ _) _ _ _ _ _ c.work.new.self.connections.seats.items
    (w.accounts tells) (w.net tells)
    (c.requires.unstopped tells) w.accepted
    (λ stopped knows more. limit_met _ _ _ _ _ c.work.new.self.connections.seats.items
    (open_of (eyes_of g.N.Link.Link)) _ _ (ap (λ t. t.now.serve_limit) w.same.settings) refl
    (sym c.if-below.ensures.below) w.stands.counted more stopped)

pub returns-then-below-clause-carries : goal.returns-then-below-clause-carries
returns-then-below-clause-carries g c _ tells link_tells =
    let e : Eyes g.row.N-Link.Denot g.row.N-Link-Plan.Denot = eyes_of g.N.Link.Link in
    let self = c.args.self.now in
    let Holds : NetState g.row.N-Link.Denot g.row.N-Link-Plan.Denot → Retired g.row.N-Link.Denot →
    Type 0 =
    EntryHolds (service_by (telling g.N.Link.Link.tells g.P.Spill.Spill.tells g.A.App.tells)
    g.A.App.script self.settings.now self.app.now) (going_on (HasBroken g.A.Run.AppRun.faults))
    g.N.Link.Link.state g.N.Link.Link.faults in
    let old : NetState g.row.N-Link.Denot g.row.N-Link-Plan.Denot = g.N.Net.state c.args.net.now in
    let mid : NetState g.row.N-Link.Denot g.row.N-Link-Plan.Denot =
    g.N.Net.state c.accept_if.new.net in
    let olds = self.connections.seats.items in
    let mids = c.accept_if.new.connections.seats.items in
    let s = c.accept_if.ensures in
    let new : NetState g.row.N-Link.Denot g.row.N-Link-Plan.Denot = g.N.Net.state c.work.new.net in
    let lasts = c.work.new.self.connections.seats.items in
    let off = c.work.ensures.works_off in
    let limit = ap (λ t. t.now.connection_limit) c.work.ensures.same.settings in
    let within = c.work.ensures.stands.within in
    carries Holds e (serving self) (serving c.work.new.self) c.args.turn
    (take c.args.asked self.wants.items) olds mids off.news lasts old mid new _ _ _ _ _ _
    link_tells refl refl c.requires.stands.rest c.requires.asks.asks s.takes off.labours off.kept
    (s.accounts tells) (s.same_polls tells) (λ come. c.in-None.ensures.answers come tells)
    c.accept_if.new.connections.accepted c.work.ensures.accepted
    (g.N.Net.nobody c.accept_if.new.net) (g.N.Net.nobody c.work.new.net) c.work.ensures.nobody
    (λ come. c.in-None.ensures.all come tells) (λ none. s.uncalled none tells)
    (accounts_as Holds e.plan mid new _ _ _ _ _ _ _ _ _ _ _ _ refl refl refl refl (who_is e mids)
    (who_is e lasts) (c.work.ensures.accounts tells)) (c.work.ensures.net tells) off.checked
    (omega (arith, within, limit)) (ap (λ t. is_below t.now.serve_limit
    c.work.new.self.connections.retired) (sym c.work.ensures.same.settings) ∙
    sym c.if-below.ensures.below)
