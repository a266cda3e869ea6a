-- Each argument is one more rule.
use Rattle.std.proofs.Common.{◌∙◌, ap, ap₂, arith}
use Rattle.std.proofs.lemmas.Result.{IfOk-weaker}
use Rattle.clap.specs.Words.{with_rule}
use Rattle.adjust.specs.CommandLine.{command_with}
use Rattle.adjust.proofs.OneCommand.{one_more, whole_line}
use Rattle.adjust.proofs.definition.definition.Goals as goal

pub loop-row-preserved : goal.loop-row-preserved
loop-row-preserved c =
    c.in_ok-command.ensures.shape c.option_arg.ensures.local
    ∙ ap₂ with_rule c.loop-row.invariant c.option_arg.ensures.rule
    ∙ ap command_with (one_more c.rows-row-items.result.now c.loop-row.row-index _
    c.loop-row-test.true)

pub returns : goal.returns
returns c =
    let first = c.in_ok-arg.ensures.shape c.operand.ensures.local ∙
    ap₂ with_rule c.loop-row.invariant c.operand.ensures.rule in
    IfOk-weaker c.arg-3.result _ _ (λ command added. added.shape c.operand-2.ensures.local
    ∙ ap₂ with_rule first c.operand-2.ensures.rule
    ∙ whole_line c.rows-row-items.result.now c.loop-row.row-index
    (omega (arith, c.loop-row-test.false, c.loop-row.auto.row-index-end))
    c.rows-row-items.ensures) c.arg-3.ensures
