-- The rows so far stand in front of those that are left.
use Rattle.std.proofs.Common.{◌≡◌, map, drop, length}
use Rattle.toml.specs.View.{table_view}
use Rattle.apps.specs.Table.{rows_from}
use Rattle.apps.proofs.Lists.{rows_behind}
use Rattle.apps.proofs.reading.each_row.Given as goal

abbrev pub invariant-loop-table : goal.invariant-loop-table
invariant-loop-table l =
    rows_from 0 (map table_view l.tables.items) ≡ rows_behind l.rows.items
    (rows_from (length l.rows.items) (map table_view (drop l.table-index l.tables.items)))
