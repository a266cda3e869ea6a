-- A line alone, or with those that continue it.
use Rattle.std.proofs.Common.{sym, ◌∙◌, refl}
use Rattle.head_grammar.specs.FieldLines.{field_line, unfolded}
use Rattle.head_grammar.proofs.Unfolding.{said_alone, said_whole}
use Rattle.head_grammar.proofs.whole_line.whole_line.Goals as goal

pub returns-clause-said : goal.returns-clause-said
returns-clause-said c =
    said_alone c.args.line.now c.args.lines.now (field_line c.args.line.now)
    (sym c.next_continues.ensures ∙ c.if-next_continues.false) refl

pub returns-then-next_continues-clause-said : goal.returns-then-next_continues-clause-said
returns-then-next_continues-clause-said c =
    said_whole c.args.line.now c.args.lines.now c.in_ok-joined.field-0.items
    (unfolded c.joined.new.lines) (field_line c.in_ok-joined.field-0.items)
    c.in_ok-joined.ensures.whole refl
