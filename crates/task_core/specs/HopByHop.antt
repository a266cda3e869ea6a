-- Internal: the table of the names that are hop-by-hop.
use Rattle.std.specs.Prelude.{ℕ, List, map}
use Rattle.task_core.specs.Starts.{hop_by_hop}

abbrev pub hop_rows : List (List ℕ × ℕ)
hop_rows = map (λ name. (name, 0)) hop_by_hop
