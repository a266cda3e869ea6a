use Rattle.std.proofs.Common.{◌≡◌, ◌++◌, drop}
use Rattle.std.specs.List.{flat_map}
use Rattle.task_core.specs.Fields.{fields_of}
use Rattle.task_core.specs.ResponseHead.{field_line}
use Rattle.task_core.proofs.heads.push_lines.Given as goal

abbrev pub invariant-loop-line : goal.invariant-loop-line
invariant-loop-line l = l.text.items ++ flat_map field_line (fields_of (drop l.line-index l.lines))
    ≡ l.fn.text.items ++ flat_map field_line (fields_of l.lines)
