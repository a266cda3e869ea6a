-- The parts that are left decide.
use Rattle.std.proofs.Common.{◌≡◌}
use Rattle.std.specs.List.{list_all}
use Rattle.adjust.specs.Lists.{is_kind}
use Rattle.adjust.proofs.kinds.all_are_kinds.Given as goal

abbrev pub invariant-loop-part : goal.invariant-loop-part
invariant-loop-part l = list_all is_kind l.initial.part-iterator ≡ list_all is_kind l.part-iterator
