use Rattle.std.proofs.Common.{◌∙◌}
use Rattle.adjust.specs.Options.{row_of}
use Rattle.adjust.specs.Texts.{check_line}
use Rattle.adjust.proofs.Joined.{joined_more}
use Rattle.adjust.proofs.shown.push_lines.Goals as goal

pub loop-row-preserved : goal.loop-row-preserved
loop-row-preserved c =
    c.in_ok-push_line.ensures ∙ joined_more (λ row. check_line c.args.of.now (row_of row))
    c.args.text.now.items c.loop-row.text.items c.args.rows.now c.loop-row.row-index _
    c.loop-row-test.true c.loop-row.invariant
