use Rattle.poll_loop.specs.Seat.{eyes_of}
use Rattle.rehearse.proofs.Turns as turns
use Rattle.rehearse.proofs.laws.turns_fall.Goals as goal

pub returns : goal.returns
returns g c = λ net before now old new.
    turns.turns_fall (eyes_of g.N.Link.Link) before now (g.N.Net.nobody net) old new
