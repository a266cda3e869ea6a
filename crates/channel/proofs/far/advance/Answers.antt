use Rattle.channel.proofs.far.advance.Goals as goal

pub returns-in-Scripted-clause-turns : goal.returns-in-Scripted-clause-turns
returns-in-Scripted-clause-turns g c = rw c.in-Scripted.is (c.go_on.ensures.turns.turns _ _ _)

pub returns-in-Last-clause-turns : goal.returns-in-Last-clause-turns
returns-in-Last-clause-turns g c = rw c.in-Last.is (c.go_on-in-Last.ensures.turns.turns _ _ _)
