use Rattle.std.proofs.Common.{◌≡◌, take, true}
use Rattle.std.specs.List.{list_all}
use Rattle.byte_tables.specs.Cases.{rows_of}
use Rattle.task_core.specs.HopByHop.{hop_rows}
use Rattle.task_core.specs.Starts.{is_allowed}
use Rattle.task_core.proofs.starts.are_allowed.Given as goal

abbrev pub invariant-loop-field : goal.invariant-loop-field
invariant-loop-field l = record {
  rows : rows_of l.table ≡ hop_rows;
  so_far : list_all is_allowed (take l.field-index l.fields) ≡ true;
}
