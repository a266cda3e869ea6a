use Rattle.std.proofs.Common.{◌≡◌, ◌++◌, drop, map}
use Rattle.task_core.specs.Fields.{fields_of}
use Rattle.task_core.specs.ResponseHead.{trimmed_field}
use Rattle.task_core.proofs.heads.push_given.Given as goal

abbrev pub invariant-loop-field : goal.invariant-loop-field
invariant-loop-field l = fields_of l.lines.items ++ map trimmed_field (drop l.field-index l.fields)
    ≡ fields_of l.fn.lines.items ++ map trimmed_field l.fields
