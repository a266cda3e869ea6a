use Rattle.std.proofs.Common.{◌∙◌, ap, sym}
use Rattle.std.specs.List.{list_any}
use Rattle.adjust.specs.Lists.{is_name, kind_row}
use Rattle.adjust.proofs.KindLemmas.{any_map}
use Rattle.adjust.proofs.kinds.is_kind.Goals as goal

pub returns : goal.returns
returns c =
    c.names_any.ensures
    ∙ sym (any_map (λ row. is_name c.args.part.now row.0) kind_row c.kind_rows.result.now)
    ∙ ap (list_any (λ row. is_name c.args.part.now row.0)) c.kind_rows.ensures
