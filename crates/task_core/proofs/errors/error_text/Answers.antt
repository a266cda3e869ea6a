use Rattle.std.proofs.Common.{◌∙◌, ap}
use Rattle.std.specs.Prelude.{[], if◌then◌else◌}
use Rattle.task_core.proofs.ErrorTexts.{error_text-parts}
use Rattle.task_core.proofs.errors.error_text.Goals as goal

pub returns : goal.returns
returns c =
    let answer = c.args.answer.now in
    let sent = c.content.ensures ∙ ap (λ body. if answer.bodyless then [] else body)
    c.as_slice.ensures.value in
    error_text-parts answer.cause answer.version answer.bodyless c.args.ident.now answer.moment
    c.code-code.result
    c.len.result c.reason_of-reason.result.now c.in_ok-body.body.items c.content.result.now
    c.in_ok-text.text.items
    c.push_status.new.text.items c.push_fields.new.text.items c.extend_from_slice.new.self.items
    c.code-code.ensures c.reason_of-reason.ensures c.in_ok-body.ensures
    (c.len.ensures ∙ c.in_ok-body.body.ok.0) sent c.in_ok-text.ensures.items
    c.in_ok-push_status.ensures c.in_ok-push_fields.ensures c.in_ok-extend_from_slice.ensures.items
