use Rattle.std.proofs.Common.{IsTrue}
use Rattle.task_core.specs.Steps.{is_under_way}
use Rattle.bench_answers.proofs.answers.send.Given as goal

abbrev pub invariant-loop : goal.invariant-loop
invariant-loop l = IsTrue (is_under_way l.task)
