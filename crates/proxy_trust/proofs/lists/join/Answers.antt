-- All parts but the first one stand behind a comma.
use Rattle.std.proofs.Common.{rules, ◌∙◌}
use Rattle.proxy_trust.proofs.Parts.{joined_is}
use Rattle.proxy_trust.proofs.lists.join.Goals as goal

pub returns : goal.returns
returns c = c.from_vec-2.ensures ∙
    joined_is c.args.parts.now c.in-Some.rest.now c.in-Some.first.now c.loop-part.text.items
    c.extend_from_slice.new.self.items c.loop-part.part-index
    (search rules) (search rules) c.loop-part.invariant c.loop-part-test.false
