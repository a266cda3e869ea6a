use Rattle.std.proofs.Common.{◌∙◌, ◌++◌, ◌∷◌, ap}
use Rattle.adjust.specs.Texts.{listen_text}
use Rattle.adjust.proofs.Joined.{joined_more}
use Rattle.adjust.proofs.shown.push_other_listens.Goals as goal

pub loop-entry-preserved : goal.loop-entry-preserved
loop-entry-preserved c =
    c.in_ok-push_listen_behind.ensures
    ∙ (ap (λ y. c.loop-entry.text.items ++ (32 ∷ listen_text y)) c.entry-item.is
    ∙ joined_more (λ y. 32 ∷ listen_text y) c.args.text.now.items c.loop-entry.text.items
    c.args.entries.now c.loop-entry.entry-index c.entry-item.result c.loop-entry-test.true
    c.loop-entry.invariant)
