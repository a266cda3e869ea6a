use Rattle.std.proofs.Common.{rules}
use Rattle.channel.proofs.Seen.{asked_so}
use Rattle.channel.proofs.near.Near.send_some.Goals as goal

pub returns-then-is_empty-clause-says : goal.returns-then-is_empty-clause-says
returns-then-is_empty-clause-says g c = λ l r left. record {
  asked = asked_so _ _ _ c.send_stored.ensures.asked (search rules) (search rules);
  says = c.send_stored.ensures.says l r left;
}

pub returns-clause-says : goal.returns-clause-says
returns-clause-says g c = λ l r left. record {
  asked = asked_so _ _ _ c.send_lent.ensures.asked (search rules) (search rules);
  says = c.send_lent.ensures.says l r left;
}
