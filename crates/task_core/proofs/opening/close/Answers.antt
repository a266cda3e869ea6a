use Rattle.std.proofs.Common.{[], ◌++◌, ◌∙◌, ap}
use Rattle.task_core.specs.Answer.{answer}
use Rattle.task_core.specs.Remaining.{start_steps}
use Rattle.task_core.proofs.Going.{failed_end}
use Rattle.task_core.proofs.Openings.{end_alone}
use Rattle.task_core.proofs.opening.close.Goals as goal

pub returns-in-None : goal.returns-in-None
returns-in-None c =
    let a = c.args in
    failed_end a.request.now a.given c.fail.result
    (ap (λ g. answer a.request.now (start_steps g ++ [])) c.in-None.is ∙ end_alone a.request.now)
    c.fail.ensures
