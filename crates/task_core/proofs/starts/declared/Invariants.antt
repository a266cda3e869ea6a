-- The fields from here on make of the length so far what all fields make of none.
use Rattle.std.proofs.Common.{◌≡◌, None, drop}
use Rattle.task_core.proofs.Lengths.{read_on}
use Rattle.task_core.proofs.starts.declared.Given as goal

abbrev pub invariant-loop-field : goal.invariant-loop-field
invariant-loop-field l = read_on l.declared (drop l.field-index l.fields) ≡ read_on None l.fields
