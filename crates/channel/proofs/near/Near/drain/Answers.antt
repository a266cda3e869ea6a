use Rattle.channel.proofs.Calling.{drain_calls}
use Rattle.channel.proofs.Seen.{same_then}
use Rattle.channel.proofs.near.Near.drain.Goals as goal

pub returns-clause-turns : goal.returns-clause-turns
returns-clause-turns g c = record {
  side = c.conclude.ensures.turns _ _ c.send_some-moved.ensures.turns.side;
  same = same_then _ _ _ _ c.send_some-moved.ensures.turns.same c.conclude.ensures.same;
}

pub returns-clause-calls : goal.returns-clause-calls
returns-clause-calls g c = λ l r left.
    drain_calls _ _ _ _ _ _ (c.send_some-moved.ensures.says l r left) _
    (c.conclude.ensures.concludes l r left) _ c.conclude.ensures.over
