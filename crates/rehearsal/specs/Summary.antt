-- The text that tells the sums, a line for each.
use Rattle.std.specs.Prelude.{ℕ, List, ◌++◌, codes, decimal}
use Rattle.rehearsal.specs.declared.sums.Sums.{Sums}

abbrev pub line_of : List ℕ → ℕ → List ℕ
line_of label number = label ++ (decimal number ++ codes "\n")

unfoldable pub summary_text : Sums → List ℕ
summary_text sums =
    line_of (codes "connections ") sums.connections ++ (line_of (codes "requests ") sums.requests ++
    (
    line_of (codes "bytes in ") sums.bytes_in ++ (line_of (codes "bytes out ") sums.bytes_out ++ (
    line_of (codes "sum ") sums.sent_sum ++ line_of (codes "done ") sums.done))))
