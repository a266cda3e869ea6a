use Rattle.std.proofs.Common.{◌∙◌, Some, None}
use Rattle.adjust.proofs.Rows.{default_by}
use Rattle.adjust.proofs.given.default_of.Goals as goal

pub returns-in-Some : goal.returns-in-Some
returns-in-Some c =
    c.as_bytes.ensures.value ∙ default_by c.args.name.now c.rows.result.now (Some c.in-Some.row.now)
    c.rows.ensures c.in-Some.ensures

pub returns-in-None : goal.returns-in-None
returns-in-None c = default_by c.args.name.now c.rows.result.now None c.rows.ensures
    c.in-None.ensures
