use Rattle.std.proofs.Common.{◌≡◌, ◌≤◌, ◌<◌, ℕ, None}
use Rattle.channel.specs.Views.{Moves, Seen, Steps}
use Rattle.poll_loop.proofs.seat.stride.Given as goal

-- what so many steps leave
pub record Strode {L A : Type 0} (n : ℕ) (old new : Seen L A) : Type 0 where
  pub link : new.link ≡ old.link
  pub peer : new.peer ≡ old.peer
  pub fixed : new.fixed ≡ old.fixed
  pub moves : Moves old.shown new.shown
  pub unput : new.shown.put ≡ old.shown.put
  pub longer : old.shown.output ≤ new.shown.output
  pub alive : new.shown.dead ≡ None
  pub none : n ≡ 0 → new.shown ≡ old.shown
  pub some : 0 < n → Steps old.shown new.shown

abbrev pub invariant-loop : goal.invariant-loop
invariant-loop g l = Strode l.counter l.fn.lane l.lane
