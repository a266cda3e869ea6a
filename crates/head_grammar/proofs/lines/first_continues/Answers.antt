-- The first byte tells it.
use Rattle.std.proofs.Common.{sym, ap, ◌∙◌}
use Rattle.std.specs.Prelude.{not}
use Rattle.head_grammar.proofs.LineStarts.{continues_none, continues_some}
use Rattle.head_grammar.proofs.lines.first_continues.Goals as goal

pub returns-then-not-is_empty : goal.returns-then-not-is_empty
returns-then-not-is_empty c =
    c.is_white_space.ensures ∙ sym (continues_some c.args.text.now (sym c.is_empty.ensures
    ∙ c.if-not-is_empty.true))

pub returns-else-not-is_empty : goal.returns-else-not-is_empty
returns-else-not-is_empty c =
    ap not c.if-not-is_empty.false ∙ sym (continues_none c.args.text.now (sym c.is_empty.ensures
    ∙ c.if-not-is_empty.false))
