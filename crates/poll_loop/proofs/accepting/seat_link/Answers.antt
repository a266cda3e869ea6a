use Rattle.std.proofs.Common.{refl, rules}
use Rattle.poll_loop.specs.Seat.{eyes_of}
use Rattle.poll_loop.specs.declared.seat.Mark.TheVariants as mark
use Rattle.poll_loop.proofs.Coming.{seats_one}
use Rattle.poll_loop.proofs.accepting.seat_link.Goals as goal

pub returns-clause-seated : goal.returns-clause-seated
returns-clause-seated g c =
    let opening = c.args.opening.now in
    seats_one (eyes_of g.L.Link) opening.settings.now opening.app.now opening.moment c.args.link
    c.args.peer
    c.args.connections.now.seats.items c.push.new.self.items
    (record { lane = c.in_ok-lane.lane; want = c.want-want.result; mark = mark.Rests; app = _ })
    (search rules) (search rules) (search rules) (search rules) (search rules) refl
    c.want-want.ensures.asks c.want-want.ensures.stirs
