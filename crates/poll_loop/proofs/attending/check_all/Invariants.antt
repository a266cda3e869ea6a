use Rattle.std.proofs.Common.{◌≡◌, ℕ, List, length}
use Rattle.poll_loop.specs.Lists.{UpTo}
use Rattle.poll_loop.specs.Seat.{SeatChecks, eyes_of}
use Rattle.poll_loop.proofs.attending.check_all.Given as goal

-- each seat before this one was checked, and the room is as it was
pub record CheckedTo {X : Type 0} (R : X → X → X → Type 0) (i : ℕ) (os ns : List X)
    (room room' : List ℕ) : Type 0 where
  pub checks : UpTo R i os os ns
  pub rooms : length room' ≡ length room

abbrev pub invariant-loop-i : goal.invariant-loop-i
invariant-loop-i g l =
    CheckedTo (λ _. SeatChecks (eyes_of g.L.Link) l.round.now l.round.window) l.i
    l.fn.seats l.seats l.fn.rooms.recv.items l.rooms.recv.items
