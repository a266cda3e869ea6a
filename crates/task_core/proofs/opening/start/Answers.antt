use Rattle.std.proofs.Common.{◌∷◌, ◌++◌, ◌∙◌, ap, sym, Some}
use Rattle.task_core.specs.Answer.{answer}
use Rattle.task_core.specs.Remaining.{start_steps}
use Rattle.wsgi.specs.declared.step.Step.TheVariants.{Start}
use Rattle.task_core.proofs.Going.{failed_goes, waiting_goes}
use Rattle.task_core.proofs.Openings.{bad_start, good_start, second_start}
use Rattle.task_core.proofs.opening.start.Goals as goal

pub returns-then-is_second : goal.returns-then-is_second
returns-then-is_second c =
    let a = c.args in
    failed_goes a.request.now a.given (Start a.status a.fields a.replace) c.fail.result
    (λ rest. second_start a.request.now a.given a.status a.fields a.replace rest
    (sym c.is_second.ensures ∙ c.if-is_second.true))
    c.fail.ensures

pub returns-in-Some : goal.returns-in-Some
returns-in-Some c =
    let a = c.args in
    let next = c.in-Some.given in
    waiting_goes a.request.now a.given (Some next) (Start a.status a.fields a.replace) c.wait.result
    (λ rest. ap (λ status. answer a.request.now (start_steps a.given ++ Start status a.fields
    a.replace ∷ rest)) (sym c.in-Some.ensures.0)
    ∙ (ap (λ fields. answer a.request.now (start_steps a.given ++ Start next.status fields a.replace
    ∷ rest)) (sym c.in-Some.ensures.1)
    ∙ good_start a.request.now a.given next a.replace rest
    (sym c.is_second.ensures ∙ c.if-is_second.false)))
    c.wait.ensures.0 c.wait.ensures.1

pub returns : goal.returns
returns c =
    let a = c.args in
    failed_goes a.request.now a.given (Start a.status a.fields a.replace) c.fail-in-None.result
    (λ rest. bad_start a.request.now a.given a.status a.fields a.replace rest c.in-None.ensures)
    c.fail-in-None.ensures
