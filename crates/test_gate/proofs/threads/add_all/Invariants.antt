use Rattle.std.proofs.Common.{◌≡◌, false, ◌++◌}
use Rattle.std.specs.List.{range_with_len}
use Rattle.test_gate.specs.Numbers.{added}
use Rattle.test_gate.proofs.threads.add_all.Given as goal

abbrev pub invariant-loop-number : goal.invariant-loop-number
invariant-loop-number g l = record {
  has : l.left.has ≡ false;
  added : added l.left.own ≡ added l.initial.left.own ++ range_with_len 0 l.number;
}
