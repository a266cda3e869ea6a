use Rattle.outside.specs.MemLink.{KeepsToPlan}
use Rattle.rehearse.proofs.Lists.{FirstAre}
use Rattle.rehearse.proofs.looking.look_back.Given as goal

-- those that were asked
abbrev pub invariant-loop-entry : goal.invariant-loop-entry
invariant-loop-entry l = FirstAre (λ entry. KeepsToPlan entry.link) l.entry-index l.entry-items
