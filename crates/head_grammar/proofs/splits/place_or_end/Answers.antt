-- The place of the first, or the end.
use Rattle.std.proofs.Common.{◌∙◌, ap, length}
use Rattle.std.specs.Prelude.{◌==◌, unwrap_or}
use Rattle.head_grammar.proofs.Firsts.{first_or_end}
use Rattle.head_grammar.proofs.splits.place_or_end.Goals as goal

pub returns-clause-place : goal.returns-clause-place
returns-clause-place c =
    c.unwrap_or.ensures ∙ (ap (λ r. unwrap_or r (length c.args.bytes.now)) c.place_of.ensures.first
    ∙ first_or_end (λ b. b == c.args.sought) c.args.bytes.now)
