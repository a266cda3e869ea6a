use Rattle.std.proofs.Common.{◌≡◌, false, ◌+◌, ◌++◌, length}
use Rattle.test_gate.specs.Numbers.{taken}
use Rattle.test_gate.proofs.threads.take_often.Given as goal

abbrev pub invariant-loop-turn : goal.invariant-loop-turn
invariant-loop-turn g l = record {
  has : l.right.has ≡ false;
  taken : taken l.right.own ≡ taken l.initial.right.own ++ l.all.items;
  turns : length l.right.own ≡ length l.initial.right.own + l.turn;
}
