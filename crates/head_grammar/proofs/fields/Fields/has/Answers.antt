-- Where a pair has the name, a field has it.
use Rattle.std.proofs.Common.{ap, ◌∙◌}
use Rattle.std.specs.Option.{is_some}
use Rattle.std.specs.List.{list_any}
use Rattle.head_grammar.specs.FieldLines.{has_name}
use Rattle.head_grammar.proofs.FieldPairs.{copied_some, name_found}
use Rattle.head_grammar.proofs.fields.Fields.has.Goals as goal

pub returns : goal.returns
returns c = c.is_some.ensures ∙ (copied_some c.first.result ∙ (ap is_some c.first.ensures
    ∙ (name_found c.args.name.now c.self.inside.pairs
    ∙ ap (list_any (has_name c.args.name.now)) c.self.view_is)))
