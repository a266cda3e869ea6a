-- Lower case changes no underscore.
use Rattle.std.proofs.Common.{sym, ap, ◌∙◌}
use Rattle.std.specs.Prelude.{not, ◌==◌}
use Rattle.std.specs.List.{list_any}
use Rattle.head_grammar.specs.declared.types.Field.{Field}
use Rattle.head_grammar.proofs.LowerCase.{no_other}
use Rattle.head_grammar.proofs.field_lines.is_kept.Goals as goal

pub returns : goal.returns
returns c =
    ap not (c.contains.ensures.value ∙ (sym (no_other c.field.inside.name.now)
    ∙ ap (λ (f : Field). list_any (λ b. b == 95) f.name) c.field.view_is))
