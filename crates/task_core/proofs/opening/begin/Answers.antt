use Rattle.std.proofs.Common.{◌≡◌, Bool, List, ℕ, true, false, length, Some, None, refl, ap, ◌++◌}
use Rattle.std.proofs.Common.{◌∙◌}
use Rattle.std.specs.Prelude.{if◌then◌else◌}
use Rattle.task_core.specs.Answer.{layout_by, length_told}
use Rattle.task_core.specs.Sending.{passed}
use Rattle.task_core.specs.Starts.{declared_length}
use Rattle.task_core.specs.Steps.{byte_string}
use Rattle.task_core.proofs.Going.{begun_goes}
use Rattle.task_core.proofs.opening.begin.Goals as goal

told_is : (head_only whole : Bool) (bytes : List ℕ) →
    (if whole then Some (length bytes) else None) ≡ length_told head_only
    (Some (byte_string whole bytes))
told_is head_only true bytes = refl
told_is head_only false bytes = refl

pub returns : goal.returns
returns c =
    let request = c.args.request.now in
    let given = c.args.given in
    let bytes = c.args.bytes.items in
    let told = c.length_told-told.ensures
    ∙ (ap (λ n. if c.args.whole then Some n else None) (c.len.ensures ∙ c.args.bytes.ok.0)
    ∙ told_is request.is_head c.args.whole bytes) in
    let layout = c.new-layout.ensures
    ∙ (ap (λ status. layout_by request status given.declared c.length_told-told.result)
    c.as_slice.ensures
    ∙ (ap (λ declared. layout_by request given.status declared c.length_told-told.result)
    given.known
    ∙ ap (λ t. layout_by request given.status (declared_length given.fields) t) told)) in
    let text = c.in_ok-layout.ensures.sent
    ∙ ap (λ head. head ++ passed c.new-layout.result bytes) c.in_ok-head.ensures in
    begun_goes request given c.args.whole bytes c.pass.new.head.items c.pass.new.bytes.items
    c.new-layout.result
    c.in_ok-layout.layout c.of.result c.requires layout c.of.ensures text
    c.in_ok-layout.ensures.left
