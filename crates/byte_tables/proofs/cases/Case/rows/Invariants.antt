-- The rows so far say what their names and values do.
use Rattle.std.proofs.Common.{◌≡◌, length, map, take}
use Rattle.byte_tables.specs.Cases.{row_of}
use Rattle.byte_tables.proofs.cases.Case.rows.Given as goal

abbrev pub invariant-loop-place : goal.invariant-loop-place
invariant-loop-place g l =
    (length l.table ≡ g.row.N)
    × (map row_of (take l.place l.table) ≡ map (λ row. (row.0.now, row.1)) (take l.place l.rows))
