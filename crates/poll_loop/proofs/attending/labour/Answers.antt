use Rattle.poll_loop.specs.Seat.{Eyes, eyes_of}
use Rattle.poll_loop.proofs.Leaving.{labours_due, labours_else, outs_by_check, outs_by_turn}
use Rattle.poll_loop.proofs.attending.labour.Goals as goal

pub check_all-requires-clause-out : goal.check_all-requires-clause-out
check_all-requires-clause-out g c κs within =
    let e : Eyes g.row.L.Denot g.row.L-Plan.Denot = eyes_of g.L.Link in
    outs_by_turn e c.args.round.now c.args.round.window c.args.wants.now c.args.seats.now
    c.attend_all.new.seats c.requires.asks c.requires.rest c.attend_all.ensures.turns

pub returns-then-round-clause-labours : goal.returns-then-round-clause-labours
returns-then-round-clause-labours g c =
    let e : Eyes g.row.L.Denot g.row.L-Plan.Denot = eyes_of g.L.Link in
    labours_due c.args.round.due e c.args.round.now c.args.round.window c.args.wants.now
    c.args.seats.now c.attend_all.new.seats c.check_all.new.seats
    c.if-round.true c.attend_all.ensures.turns c.check_all.ensures.checks

pub returns-then-round-clause-out : goal.returns-then-round-clause-out
returns-then-round-clause-out g c =
    let e : Eyes g.row.L.Denot g.row.L-Plan.Denot = eyes_of g.L.Link in
    outs_by_check e c.args.round.now c.args.round.window c.attend_all.new.seats
    c.check_all.new.seats
    (outs_by_turn e c.args.round.now c.args.round.window c.args.wants.now c.args.seats.now
    c.attend_all.new.seats c.requires.asks c.requires.rest c.attend_all.ensures.turns)
    c.check_all.ensures.checks

pub returns-else-round-clause-labours : goal.returns-else-round-clause-labours
returns-else-round-clause-labours g c =
    let e : Eyes g.row.L.Denot g.row.L-Plan.Denot = eyes_of g.L.Link in
    labours_else c.args.round.due e c.args.round.now c.args.round.window c.args.wants.now
    c.args.seats.now c.attend_all.new.seats
    c.if-round.false c.attend_all.ensures.turns

pub returns-else-round-clause-out : goal.returns-else-round-clause-out
returns-else-round-clause-out g c =
    let e : Eyes g.row.L.Denot g.row.L-Plan.Denot = eyes_of g.L.Link in
    outs_by_turn e c.args.round.now c.args.round.window c.args.wants.now c.args.seats.now
    c.attend_all.new.seats c.requires.asks c.requires.rest c.attend_all.ensures.turns
