use Rattle.std.proofs.Common.{◌∷◌, ◌++◌, ◌∙◌, ap, sym}
use Rattle.task_core.specs.Answer.{answer}
use Rattle.task_core.specs.Remaining.{start_steps}
use Rattle.task_core.specs.Steps.{byte_string}
use Rattle.task_core.proofs.Going.{failed_goes, waiting_goes}
use Rattle.task_core.proofs.Openings.{empty_string, string_alone}
use Rattle.task_core.proofs.Testing.{empty_is, some_bytes}
use Rattle.task_core.proofs.opening.fill.Goals as goal

pub returns-then-is_empty : goal.returns-then-is_empty
returns-then-is_empty c =
    let a = c.args in
    let none = empty_is a.bytes (sym c.is_empty.ensures ∙ c.if-is_empty.true) in
    waiting_goes a.request.now a.given a.given (byte_string a.whole a.bytes) c.wait.result
    (λ rest. ap (λ bs. answer a.request.now (start_steps a.given ++ byte_string a.whole bs ∷ rest))
    none
    ∙ empty_string a.request.now a.given a.whole rest)
    c.wait.ensures.0 c.wait.ensures.1

pub returns-in-None : goal.returns-in-None
returns-in-None c =
    let a = c.args in
    let some = some_bytes a.bytes (sym c.is_empty.ensures ∙ c.if-is_empty.false) in
    failed_goes a.request.now a.given (byte_string a.whole a.bytes) c.fail.result
    (λ rest. ap (λ g. answer a.request.now (start_steps g ++ byte_string a.whole a.bytes ∷ rest))
    c.in-None.is
    ∙ string_alone a.request.now a.whole a.bytes rest some)
    c.fail.ensures
