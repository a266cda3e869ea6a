-- The slashes end at the first other byte.
use Rattle.std.proofs.Common.{◌∙◌, ap, length}
use Rattle.std.specs.Prelude.{unwrap_or}
use Rattle.adjust.specs.Values.{is_slash}
use Rattle.byte_tables.proofs.ListEnds.{first_other}
use Rattle.adjust.proofs.values.slashes_in_front.Goals as goal

pub returns-clause-count : goal.returns-clause-count
returns-clause-count c =
    c.unwrap_or.ensures ∙ (ap (λ r. unwrap_or r (length c.args.text.now))
    c.other_than_slash.ensures.place ∙ first_other is_slash c.args.text.now)
