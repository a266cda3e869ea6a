use Rattle.std.proofs.Common.{rules, ◌≡◌, ◌∙◌, ◌+◌, ◌++◌, [], ◌∷◌, map, drop, length, Some, ap, sym}
use Rattle.std.proofs.lemmas.List.{drop_more}
use Rattle.toml.specs.View.{table_view}
use Rattle.apps.specs.Rows.{row_of}
use Rattle.apps.specs.Table.{rows_from}
use Rattle.apps.proofs.Lists.{rows_behind, rows_behind_read}
use Rattle.apps.proofs.reading.each_row.Goals as goal

pub loop-table-preserved : goal.loop-table-preserved
loop-table-preserved c =
    let tables = c.args.tables.now.items in
    let front = c.loop-table.rows.items in
    let i = c.loop-table.table-index in
    let left = map table_view (drop (i + 1) tables) in
    let here : map table_view (drop i tables) ≡ table_view c.table-item.result ∷ left =
    search (rules, drop_more) in
    let one : row_of (table_view c.table-item.result) ≡ Some c.in-Some.row = search rules in
    let grown : c.push.new.self.items ≡ front ++ c.in-Some.row ∷ [] = search rules in
    c.loop-table.invariant ∙ ap (λ ms. rows_behind front (rows_from (length front) ms)) here
    ∙ rows_behind_read front (table_view c.table-item.result) left c.in-Some.row one
    ∙ ap (λ rows. rows_behind rows (rows_from (length rows) left)) (sym grown)
