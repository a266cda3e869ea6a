use Rattle.std.proofs.Common.{◌∙◌, refl}
use Rattle.imf_fixdate.proofs.Moments.{date_text-is}
use Rattle.imf_fixdate.proofs.date_text.Goals as goal

pub returns-in-Ok-clause-text : goal.returns-in-Ok-clause-text
returns-in-Ok-clause-text c =
    c.to_bytes.ensures ∙ date_text-is c.in-Ok.date c.args.moment
    c.in-Ok.ensures.value (c.in-Ok.ensures.succeeds.0 refl)
