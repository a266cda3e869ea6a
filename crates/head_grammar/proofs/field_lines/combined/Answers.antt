-- Fields of which no two have equal names are combined as they stand.
use Rattle.std.proofs.Common.{sym, ap, ◌∙◌}
use Rattle.head_grammar.specs.FieldLines.{names_differ}
use Rattle.head_grammar.proofs.OneByOne.{combined_same}
use Rattle.head_grammar.proofs.field_lines.combined.Goals as goal

pub returns-then-branch : goal.returns-then-branch
returns-then-branch c =
    sym (combined_same c.args.fields (ap names_differ (sym c.fields-lent.ensures)
    ∙ (sym c.in_ok-names_differ.ensures ∙ c.if-branch.true)))
