use Rattle.poll_loop.proofs.Leaving.{called_by}
use Rattle.poll_loop.proofs.seat.Seat.attend.Goals as goal

pub converse-self-requires-clause-called : goal.converse-self-requires-clause-called
converse-self-requires-clause-called g c _ _ =
    let self = c.args.self.now in
    called_by self.lane.fixed.window c.args.ready self.mark self.lane.shown c.is_called.result
    c.requires.holds.marked c.is_called.ensures.rested c.if-not-is_called.false
