-- The tables so far stand in front of those that are left.
use Rattle.std.proofs.Common.{◌≡◌, map}
use Rattle.toml.specs.View.{items_view, table_view}
use Rattle.apps.specs.Rows.{each, table_in}
use Rattle.apps.proofs.Lists.{behind}
use Rattle.apps.proofs.document.each_table.Given as goal

abbrev pub invariant-loop-value : goal.invariant-loop-value
invariant-loop-value l = record {
  can : (goal.iterator-loop-value).can_next l.value-iterator;
  finite : (goal.iterator-loop-value).is_finite l.value-iterator;
  rest : each table_in (items_view l.fn.list.items) ≡ behind (map table_view l.all.items)
      (each table_in (items_view l.value-iterator.rest.items));
}
