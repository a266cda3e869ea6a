use Rattle.rehearse.specs.Looked.{IsSound}
use Rattle.poll_loop.specs.Server.{serving}
use Rattle.rehearse.proofs.Lists.{FirstAre}
use Rattle.rehearse.proofs.looking.look.Given as goal

-- those that were asked
abbrev pub invariant-loop-place : goal.invariant-loop-place
invariant-loop-place g l = FirstAre IsSound l.place (serving l.server).open'
