use Rattle.std.proofs.Common.{rules}
use Rattle.channel.specs.State.{state_of}
use Rattle.channel.proofs.RightTurns.{right_begins, right_begins_none}
use Rattle.channel.proofs.far.begin_next.Goals as goal

pub returns-in-Ok-clause-turns : goal.returns-in-Ok-clause-turns
returns-in-Ok-clause-turns g c = right_begins _ _ _ _ _ _ _ c.in-Some.unit _ c.requires.alive
    c.requires.idle (search rules) (search rules) (search rules)
    (search rules) _ c.note-began.ensures

pub returns-in-Err-clause-turns : goal.returns-in-Err-clause-turns
returns-in-Err-clause-turns g c = right_begins_none _ _ _ _ _ _
    (state_of c.begin.new.self) _ c.in-Some.unit _ c.requires.alive c.requires.idle (search rules)
    (search rules) (search rules)
