-- The fields so far stand in front of those that are left.
use Rattle.std.proofs.Common.{◌≡◌, drop}
use Rattle.toml.specs.View.{items_view}
use Rattle.apps.specs.Rows.{each, field}
use Rattle.apps.proofs.Lists.{behind}
use Rattle.apps.proofs.values.each_field.Given as goal

abbrev pub invariant-loop-value : goal.invariant-loop-value
invariant-loop-value l =
    each field (items_view l.list.items) ≡ behind l.fields.items
    (each field (items_view (drop l.value-index l.list.items)))
