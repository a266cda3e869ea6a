-- The items so far are joined.
use Rattle.std.proofs.Common.{◌≡◌, ◌++◌, ◌∷◌, take}
use Rattle.adjust.specs.Texts.{listen_text}
use Rattle.adjust.proofs.Joined.{joined}
use Rattle.adjust.proofs.shown.push_other_listens.Given as goal

abbrev pub invariant-loop-entry : goal.invariant-loop-entry
invariant-loop-entry l = l.text.items ≡ l.fn.text.items ++ joined (λ y. 32 ∷ listen_text y)
    (take l.entry-index l.entries)
