use Rattle.channel.proofs.Calling.{read_calls}
use Rattle.channel.proofs.Seen.{same_then}
use Rattle.channel.proofs.near.Near.read.Goals as goal

pub returns-clause-turns : goal.returns-clause-turns
returns-clause-turns g c = record {
  side = c.conclude.ensures.turns _ _ c.receive_some-moved.ensures.turns.side;
  same = same_then _ _ _ _ c.receive_some-moved.ensures.turns.same c.conclude.ensures.same;
}

pub returns-clause-calls : goal.returns-clause-calls
returns-clause-calls g c = λ l r left.
    read_calls _ _ _ _ _ _ _ _ (c.receive_some-moved.ensures.hears l r left)
    (c.conclude.ensures.concludes l r left) c.conclude.ensures.over
