use Rattle.std.proofs.Common.{ap, ◌++◌, ◌∙◌}
use Rattle.task_core.specs.Answer.{layout_by, response_head}
use Rattle.task_core.specs.Starts.{declared_length}
use Rattle.task_core.proofs.Going.{finished_goes}
use Rattle.task_core.proofs.opening.finish.Goals as goal

pub returns : goal.returns
returns c =
    let request = c.args.request.now in
    let given = c.args.given in
    let layout = c.new-layout.ensures
    ∙ (ap (λ status. layout_by request status given.declared c.length_at_end-told.result)
    c.as_slice.ensures
    ∙ (ap (λ declared. layout_by request given.status declared c.length_at_end-told.result)
    given.known
    ∙ ap (λ t. layout_by request given.status (declared_length given.fields) t)
    c.length_at_end-told.ensures)) in
    let text = c.in_ok-extend_from_slice.ensures.items
    ∙ (ap (λ head. head ++ c.ending.result.now) c.in_ok-text.ensures
    ∙ ap (λ end. response_head request (given.status, given.fields) c.new-layout.result ++ end)
    c.ending.ensures) in
    finished_goes request given c.extend_from_slice.new.self.items c.closes.result
    c.new-layout.result c.last.result
    layout c.last.ensures text c.closes.ensures
