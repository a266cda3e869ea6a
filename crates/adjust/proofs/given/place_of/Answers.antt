use Rattle.std.proofs.Common.{◌∙◌, ap}
use Rattle.std.specs.Prelude.{unwrap_or}
use Rattle.adjust.proofs.Rows.{place_by}
use Rattle.adjust.proofs.given.place_of.Goals as goal

pub returns : goal.returns
returns c =
    c.unwrap_or.ensures ∙ (ap (λ r. unwrap_or r 0) c.place_among.ensures ∙
    place_by c.args.name.now c.rows.result.now c.rows.ensures)
