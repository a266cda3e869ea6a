-- The first pair with a name is the field with it.
use Rattle.std.proofs.Common.{ap, ◌∙◌}
use Rattle.head_grammar.specs.FieldLines.{field_value}
use Rattle.head_grammar.proofs.FieldPairs.{value_found}
use Rattle.head_grammar.proofs.fields.Fields.value_of.Goals as goal

pub returns : goal.returns
returns c = c.first.ensures ∙ (value_found c.args.name.now c.self.inside.pairs
    ∙ ap (field_value c.args.name.now) c.self.view_is)
