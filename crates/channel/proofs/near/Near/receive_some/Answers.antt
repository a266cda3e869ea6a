use Rattle.std.proofs.Common.{rules}
use Rattle.channel.proofs.Seen.{asked_so}
use Rattle.channel.proofs.near.Near.receive_some.Goals as goal

pub returns-clause-hears : goal.returns-clause-hears
returns-clause-hears g c = λ l r left. record {
  asked = asked_so _ _ _ c.receive.ensures.asked (search rules) (search rules);
  hears = c.receive.ensures.hears l r left;
}
