use Rattle.std.proofs.Common.{refl, sym, subst, ◌∙◌, arith}
use Rattle.channel.specs.declared.types.Window.{Window}
use Rattle.poll_loop.specs.Connections.{IsOpenedBy, SeatIsTimely, is_kept}
use Rattle.poll_loop.specs.Lists.{EachIs}
use Rattle.poll_loop.specs.Seat.{Eyes, SeatRests, eyes_of}
use Rattle.poll_loop.proofs.Cases.{as_many_again, filter_each, opened_again, rest_again}
use Rattle.poll_loop.proofs.Cases.{seated_again, timely_again}
use Rattle.poll_loop.proofs.Working.{accounts_as, hosted_room, hosted_timely, hosts_seats}
use Rattle.poll_loop.proofs.Working.{room_after, timely_goes_on, who_is, within_after}
use Rattle.poll_loop.proofs.server.Server.work.Goals as goal

pub retire_over-requires-clause-by : goal.retire_over-requires-clause-by
retire_over-requires-clause-by g c _ _ =
    opened_again _ _ c.args.self.now.settings.now _ _ _ _ _ _ c.requires.stands.by
    c.labour_all.ensures.labours

pub retire_over-requires-clause-room : goal.retire_over-requires-clause-room
retire_over-requires-clause-room g c _ _ tells =
    let n = as_many_again _ _ _ _ _ _ _ c.labour_all.ensures.labours in
    let r = hosted_room _ _ c.args.self.now.connections.seats.items (c.requires.hosts tells) in
    omega (arith, n, r)

pub retire_over-requires-clause-timely : goal.retire_over-requires-clause-timely
retire_over-requires-clause-timely g c _ _ tells =
    timely_again _ _ _ _ _ _ _ _ (c.requires.now tells).within
    (hosted_timely _ _ c.args.self.now.connections.seats.items (c.requires.hosts tells))
    c.labour_all.ensures.labours

pub retire_over-requires-clause-counted : goal.retire_over-requires-clause-counted
retire_over-requires-clause-counted g c _ _ =
    let n = as_many_again _ _ _ _ _ _ _ c.labour_all.ensures.labours in
    rw n c.requires.stands.counted

pub retire_over-requires-clause-shelf : goal.retire_over-requires-clause-shelf
retire_over-requires-clause-shelf g c _ _ =
    let n = as_many_again _ _ _ _ _ _ _ c.labour_all.ensures.labours in
    let r = c.requires.stands.room in
    omega (arith, n, r)

pub returns-clause-accounts : goal.returns-clause-accounts
returns-clause-accounts g c tells =
    let e : Eyes g.row.N-Link.Denot g.row.N-Link-Plan.Denot = eyes_of g.N.Link.Link in
    let same = seated_again _ e _ _ _ _ _ c.labour_all.ensures.labours in
    accounts_as _ _ _ _ _ _ _ _ _ _ _ _ _ _ _ _ c.labour_all.ensures.spills refl refl refl
    (same ∙ sym (who_is e c.args.self.now.connections.seats.items))
    (sym (who_is e c.retire_over.new.connections.seats.items))
    (c.retire_over.ensures.accounts tells)

pub returns-clause-hosts : goal.returns-clause-hosts
returns-clause-hosts g c tells =
    let e : Eyes g.row.N-Link.Denot g.row.N-Link-Plan.Denot = eyes_of g.N.Link.Link in
    let old = g.N.Net.state c.args.net.now in
    let new = g.N.Net.state c.retire_over.new.net in
    let labours = c.labour_all.ensures.labours in
    let accounts = c.retire_over.ensures.accounts tells in
    let n = as_many_again _ _ _ _ _ _ _ labours in
    let r = hosted_room _ _ c.args.self.now.connections.seats.items (c.requires.hosts tells) in
    let timely = timely_again _ _ _ _ _ _ _ _ (c.requires.now tells).within
    (hosted_timely _ _ c.args.self.now.connections.seats.items (c.requires.hosts tells)) labours
    in
    let kept = subst (EachIs (SeatIsTimely e old)) (sym c.retire_over.ensures.kept)
    (filter_each is_kept (SeatIsTimely e old) c.labour_all.new.seats.items timely) in
    hosts_seats e new c.retire_over.new.connections.seats.items
    (room_after _ e old new _ _ _ _ c.labour_all.new.seats.items
    c.retire_over.new.connections.seats.items accounts (omega (arith, n, r)))
    (timely_goes_on e old new _ accounts.time kept)

pub returns-clause-stands : goal.returns-clause-stands
returns-clause-stands g c =
    let e : Eyes g.row.N-Link.Denot g.row.N-Link-Plan.Denot = eyes_of g.N.Link.Link in
    let s = c.requires.stands in
    let settings = c.args.self.now.settings.now in
    let w : Window = settings.window in
    let labours = c.labour_all.ensures.labours in
    let news = c.labour_all.new.seats.items in
    record {
      usable = s.usable;
      rest = subst (EachIs (SeatRests e w)) (sym c.retire_over.ensures.kept)
          (rest_again _ _ _ _ _ _ _ s.rest labours);
      by = subst (EachIs (IsOpenedBy settings c.args.self.now.app.now))
          (sym c.retire_over.ensures.kept)
          (filter_each is_kept (IsOpenedBy settings c.args.self.now.app.now) news
          (opened_again _ _ settings _ _ _ _ _ _ s.by labours));
      room = c.retire_over.ensures.shelf;
      broke = c.retire_over.ensures.broke;
      recv = c.labour_all.ensures.rooms ∙ s.recv;
      within = within_after is_kept settings.connection_limit _ news _ c.retire_over.ensures.kept
          (as_many_again _ _ _ _ _ _ _ labours) s.within;
      counted = c.retire_over.ensures.counted;
    }
