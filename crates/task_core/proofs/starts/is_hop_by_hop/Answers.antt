use Rattle.std.proofs.Common.{◌∙◌, ap}
use Rattle.std.specs.Prelude.{is_some}
use Rattle.byte_tables.specs.Cases.{rows_of}
use Rattle.task_core.proofs.Tables.{hop_found}
use Rattle.task_core.proofs.starts.is_hop_by_hop.Goals as goal

pub returns : goal.returns
returns c =
    c.is_some.ensures ∙ (ap (λ o. is_some o) c.find_folded.ensures.first
    ∙ hop_found c.args.name.now (rows_of c.args.table.now) c.requires)
