use Rattle.channel.proofs.lane.Lane.close.Goals as goal

pub returns-clause-ends : goal.returns-clause-ends
returns-clause-ends g c = rw (← c.self.view_is, ← c.into_inner.ensures) c.close.ensures.ends

pub returns-clause-asked : goal.returns-clause-asked
returns-clause-asked g c = rw (← c.self.view_is, ← c.into_inner.ensures) c.close.ensures.asked
