-- The items so far are joined.
use Rattle.std.proofs.Common.{◌≡◌, ◌++◌, ◌∷◌, take}
use Rattle.outside.specs.Kinds.{kind_name}
use Rattle.adjust.proofs.Joined.{joined}
use Rattle.adjust.proofs.shown.push_other_kinds.Given as goal

abbrev pub invariant-loop-kind : goal.invariant-loop-kind
invariant-loop-kind l = l.text.items ≡ l.fn.text.items ++ joined (λ y. 44 ∷ kind_name y)
    (take l.kind-index l.kinds)
