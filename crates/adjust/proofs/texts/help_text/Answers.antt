use Rattle.std.proofs.Common.{◌∙◌}
use Rattle.adjust.specs.Texts.{help_line, help_text_of}
use Rattle.adjust.proofs.Joined.{table_text}
use Rattle.adjust.proofs.texts.help_text.Goals as goal

pub returns : goal.returns
unfolding help_text_of
returns c =
    c.from_vec.ensures ∙ (c.in_ok-push_help_lines.ensures ∙
    table_text help_line c.rows.result.now c.in_ok-text.text.items _ c.rows.ensures
    c.in_ok-text.ensures.items)
