use Rattle.std.proofs.Common.{◌++◌, Bool, IsTrue, List, ℕ}
use Rattle.task_core.specs.Steps.{is_under_way}
use Rattle.task_core.proofs.Chains.{Writes}
use Rattle.task_core.proofs.script_tests.written.Given as goal

-- what the task writes for the steps that are left makes the whole
abbrev pub invariant-loop-step : goal.invariant-loop-step
invariant-loop-step l = record {
  can : (goal.iterator-loop-step).can_next l.step-iterator;
  ends : (goal.iterator-loop-step).is_finite l.step-iterator;
  going : IsTrue (is_under_way l.task);
  rest : (left : List ℕ) (closes : Bool) → Writes l.task l.step-iterator.rest.items left closes →
      Writes l.fn.task l.fn.steps.items (l.text.items ++ left) closes;
}
