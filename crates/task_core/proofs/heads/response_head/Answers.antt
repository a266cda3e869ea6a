use Rattle.std.proofs.Common.{ap, map, ◌++◌, ◌∙◌}
use Rattle.std.specs.Option.{option_to_list}
use Rattle.task_core.specs.Answer.{origin_field, own_date_fields}
use Rattle.task_core.specs.Fields.{field_of, fields_of}
use Rattle.task_core.specs.ResponseHead.{head_text, trimmed_field}
use Rattle.task_core.proofs.HeadLines.{head_lines}
use Rattle.task_core.proofs.heads.response_head.Goals as goal

pub returns : goal.returns
returns c =
    let request = c.args.request.now in
    let given = c.args.given in
    let origin = c.origin_line-origin.ensures
    ∙ (ap (λ ident. origin_field ident c.as_slice.result.now) c.as_slice-2.ensures
    ∙ ap (λ fields. origin_field request.ident fields) c.as_slice.ensures) in
    let date = c.date_line.ensures
    ∙ (c.own_date-date.ensures ∙ ap (λ fields. own_date_fields request.moment fields)
    c.as_slice-3.ensures) in
    head_lines request given.status given.fields c.args.layout c.in_ok-fields.fields.items
    (fields_of (option_to_list c.framing_line.result)) (fields_of
    (option_to_list c.connection_line.result))
    (fields_of (option_to_list c.date_line.result)) (fields_of c.in_ok-lines.lines.items)
    (fields_of c.push_given.new.lines.items) (fields_of c.push_line.new.lines.items)
    (fields_of c.push_line-2.new.lines.items) (fields_of c.push_line-3.new.lines.items)
    (fields_of c.push_line-4.new.lines.items) (fields_of c.sort.new.lines.items)
    (field_of c.origin_line-origin.result) c.in_ok-text.text.items
    c.in_ok-fields.ensures c.framing_line.ensures c.connection_line.ensures origin date
    (ap fields_of c.in_ok-lines.ensures.items)
    (c.in_ok-push_given.ensures
    ∙ ap (λ fields. fields_of c.in_ok-lines.lines.items ++ map trimmed_field fields)
    c.as_slice-4.ensures.value) c.in_ok-push_line.ensures
    c.in_ok-push_line-2.ensures c.in_ok-push_line-3.ensures c.in_ok-push_line-4.ensures
    c.in_ok-sort.ensures
    (c.in_ok-text.ensures
    ∙ (ap (λ status. head_text request.version status (fields_of c.as_slice-6.result.now))
    c.as_slice-5.ensures
    ∙ ap (λ lines. head_text request.version given.status (fields_of lines))
    c.as_slice-6.ensures.value))
