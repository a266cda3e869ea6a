use Rattle.std.proofs.Common.{◌≡◌, ℕ, List, length}
use Rattle.poll_loop.specs.Lists.{UpTo}
use Rattle.poll_loop.specs.Seat.{SeatTurns, eyes_of}
use Rattle.poll_loop.proofs.attending.attend_all.Given as goal

-- each seat before this one had its part, and the room and the spills are as they were
pub record AttendedTo {W X : Type 0} (R : W → X → X → Type 0) (i : ℕ) (ws : List W) (os ns : List X)
    (room room' : List ℕ) (faults faults' : ℕ) : Type 0 where
  pub turns : UpTo R i ws os ns
  pub rooms : length room' ≡ length room
  pub spills : faults' ≡ faults

abbrev pub invariant-loop-i : goal.invariant-loop-i
invariant-loop-i g l =
    AttendedTo (SeatTurns (eyes_of g.L.Link) l.round.now l.round.window) l.i
    l.wants l.fn.seats l.seats l.fn.rooms.recv.items l.rooms.recv.items
    (g.P.Spills.faults l.fn.spills) (g.P.Spills.faults l.spills)
