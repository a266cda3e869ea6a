-- The parts that are left decide.
use Rattle.std.proofs.Common.{◌≡◌}
use Rattle.adjust.specs.Lists.{is_among}
use Rattle.adjust.proofs.kinds.is_among.Given as goal

abbrev pub invariant-loop-part : goal.invariant-loop-part
invariant-loop-part l = is_among l.initial.part-iterator l.name ≡ is_among l.part-iterator l.name
