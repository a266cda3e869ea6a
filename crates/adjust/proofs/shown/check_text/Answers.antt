use Rattle.std.proofs.Common.{◌∙◌, []}
use Rattle.adjust.specs.Texts.{check_line, check_text_of}
use Rattle.adjust.proofs.Joined.{table_text}
use Rattle.adjust.proofs.shown.check_text.Goals as goal

pub returns : goal.returns
unfolding check_text_of
returns c =
    c.from_vec.ensures ∙ (c.in_ok-push_lines.ensures ∙ table_text
    (check_line c.args.adjustments.now) c.rows.result.now c.new-text.result.items []
    c.rows.ensures c.new-text.ensures.items)
