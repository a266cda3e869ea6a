-- The first part, and those so far.
use Rattle.std.proofs.Common.{◌≡◌, ◌++◌, take, Bor, List, ℕ}
use Rattle.std.specs.Prelude.{codes, flat_map}
use Rattle.proxy_trust.proofs.lists.join.Given as goal

abbrev pub invariant-loop-part : goal.invariant-loop-part
invariant-loop-part l =
    l.text.items ≡ l.initial.text.items ++ flat_map (λ (part : Bor (List ℕ)).
    codes ", " ++ part.now) (take l.part-index l.rest)
