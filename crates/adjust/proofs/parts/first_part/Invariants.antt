-- The parts of what is left are those of the whole text.
use Rattle.std.proofs.Common.{◌≡◌, length}
use Rattle.adjust.specs.Lists.{parts}
use Rattle.adjust.proofs.parts.first_part.Given as goal

abbrev pub invariant-loop-rest : goal.invariant-loop-rest
invariant-loop-rest l = parts l.commas l.text ≡ parts l.commas l.rest

abbrev pub decreases-loop-rest : goal.decreases-loop-rest
decreases-loop-rest l = length l.rest
