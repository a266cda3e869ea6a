-- A pair more is cut off behind those before.
use Rattle.std.proofs.Common.{◌++◌, ◌∷◌, [], ap, ◌∙◌}
use Rattle.pair_list.proofs.MorePairs.{added}
use Rattle.pair_list.proofs.list.PairList.add.Goals as goal

pub invariant_of-self-2 : goal.invariant_of-self-2
invariant_of-self-2 c = (added c.args.name.now c.args.value.now
    c.self.invariant c.reserve-2.ensures.items c.put.ensures.items
    c.put-2.ensures.items c.reserve.ensures.items c.push_reserved.ensures.items).0

pub returns : goal.returns
returns c = (added c.args.name.now c.args.value.now
    c.self.invariant c.reserve-2.ensures.items c.put.ensures.items
    c.put-2.ensures.items c.reserve.ensures.items c.push_reserved.ensures.items).1
    ∙ ap (λ z. z ++ (c.args.name.now, c.args.value.now) ∷ []) c.self.view_is
