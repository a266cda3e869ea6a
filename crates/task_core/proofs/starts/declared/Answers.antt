use Rattle.std.proofs.Common.{◌∙◌, sym, drop, suc, arith}
use Rattle.task_core.proofs.Lengths.{bad_length, none_left, read_whole, refused_here}
use Rattle.task_core.proofs.Lengths.{second_declared}
use Rattle.task_core.proofs.starts.declared.Goals as goal

pub returns : goal.returns
returns c =
    sym (none_left c.loop-field.declared c.args.fields.now c.loop-field.field-index (omega arith))
    ∙ (c.loop-field.invariant ∙ read_whole c.args.fields.now)

pub returns-then-is_some : goal.returns-then-is_some
returns-then-is_some c =
    refused_here c.loop-field.declared c.args.fields.now c.loop-field.field-index
    c.field-item.result
    c.loop-field-test.true c.field-item.is c.loop-field.invariant
    (second_declared c.loop-field.declared c.field-item.result
    (drop (suc c.loop-field.field-index) c.args.fields.now)
    (sym c.is_some.ensures ∙ c.if-is_some.true) (sym c.is_named.ensures ∙ c.if-is_named.true))

pub returns-in_err-length_of : goal.returns-in_err-length_of
returns-in_err-length_of c =
    c.from_residual.ensures
    ∙ refused_here c.loop-field.declared c.args.fields.now c.loop-field.field-index
    c.field-item.result
    c.loop-field-test.true c.field-item.is c.loop-field.invariant
    (bad_length c.loop-field.declared c.field-item.result
    (drop (suc c.loop-field.field-index) c.args.fields.now)
    (sym c.length_of.ensures ∙ c.in_err-length_of.was) (sym c.is_named.ensures ∙
    c.if-is_named.true))
