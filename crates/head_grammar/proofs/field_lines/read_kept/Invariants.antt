-- The fields that were kept so far stand in front of those of the lines that are left.
use Rattle.std.proofs.Common.{◌≡◌}
use Rattle.head_grammar.specs.FieldLines.{field_lines, kept_fields, unfolded}
use Rattle.head_grammar.proofs.KeptFields.{behind}
use Rattle.head_grammar.proofs.field_lines.read_kept.Given as goal

abbrev pub invariant-loop-line : goal.invariant-loop-line
invariant-loop-line l = record {
  can : (goal.iterator-loop-line).can_next l.lines;
  ends : (goal.iterator-loop-line).is_finite l.lines;
  same : kept_fields l.fn.lines ≡ behind l.fields (field_lines (unfolded l.lines));
}
