use Rattle.std.proofs.Common.{◌≡◌, false}
use Rattle.test_gate.specs.Numbers.{added}
use Rattle.test_gate.proofs.threads.add_surely.Given as goal

abbrev pub invariant-loop : goal.invariant-loop
invariant-loop g l = record {
  can : (goal.iterator-loop g).can_next l.iterator';
  ends : (goal.iterator-loop g).is_finite l.iterator';
  has : l.left.has ≡ false;
  added : added l.left.own ≡ added l.initial.left.own;
}
