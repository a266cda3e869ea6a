use Rattle.std.proofs.Common.{◌≡◌, Option, Some, sym, subst}
use Rattle.std.specs.Prelude.{IfOk}
use Rattle.task_core.specs.Steps.{Goes}
use Rattle.task_core.specs.declared.task.State.TheVariants.{Opening}
use Rattle.wsgi.specs.declared.step.Step.{Step}
use Rattle.wsgi.specs.declared.step.Step.TheVariants.{Fail}
use Rattle.task_core.proofs.Going.{failed_goes}
use Rattle.task_core.proofs.Openings.{fail_answer}
use Rattle.task_core.proofs.opening.open.Goals as goal

pub returns-in-Some-Fail : goal.returns-in-Some-Fail
returns-in-Some-Fail c =
    let a = c.args in
    let is : a.step ≡ Some Fail = cc in
    subst (λ (s : Option Step). IfOk c.fail.result (Goes a.request.now (Opening a.given) s))
    (sym is)
    (failed_goes a.request.now a.given Fail c.fail.result (fail_answer a.request.now a.given)
    c.fail.ensures)
