-- The texts so far stand in front of those that are left.
use Rattle.std.proofs.Common.{◌≡◌, drop}
use Rattle.toml.specs.View.{items_view}
use Rattle.apps.specs.Rows.{each, text}
use Rattle.apps.proofs.Lists.{behind}
use Rattle.apps.proofs.values.each_text.Given as goal

abbrev pub invariant-loop-value : goal.invariant-loop-value
invariant-loop-value l =
    each text (items_view l.list.items) ≡ behind l.texts.items
    (each text (items_view (drop l.value-index l.list.items)))
