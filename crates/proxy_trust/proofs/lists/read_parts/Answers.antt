-- At the end all parts were yielded.
use Rattle.std.proofs.Common.{rules, tests, map, ap, ◌∙◌, ◌==◌}
use Rattle.std.proofs.lemmas.Iterator.Consumers.{YieldsList-at, YieldsList-end}
use Rattle.std.proofs.lemmas.Iterator.Splits.{YieldsList-from_slice_split}
use Rattle.head_grammar.specs.Classes.{trimmed}
use Rattle.proxy_trust.proofs.lists.read_parts.Goals as goal

pub returns : goal.returns
returns c =
    let split = c.split-part-items.ensures in
    let end = YieldsList-end
    (YieldsList-at c.into_iter-part-iterator.ensures.into_iter_gives
    (YieldsList-from_slice_split _ (λ b. b == 44) c.args.value.now split.rest split.done
    split.closure (λ x r q k. search (rules, tests))))
    c.loop-part.yielded _ c.loop-part.yielded_by _ _ c.in-None.is c.next.ensures.steps in
    c.loop-part.invariant ∙ ap (map trimmed) end.0
