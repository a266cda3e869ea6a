use Rattle.std.proofs.Common.{◌∙◌, ◌∷◌}
use Rattle.outside.specs.Kinds.{kind_name}
use Rattle.adjust.proofs.Joined.{joined_more}
use Rattle.adjust.proofs.shown.push_other_kinds.Goals as goal

pub loop-kind-preserved : goal.loop-kind-preserved
loop-kind-preserved c =
    c.in_ok-push_kind_behind.ensures ∙ joined_more (λ y. 44 ∷ kind_name y) c.args.text.now.items
    c.loop-kind.text.items c.args.kinds.now c.loop-kind.kind-index _ c.loop-kind-test.true
    c.loop-kind.invariant
