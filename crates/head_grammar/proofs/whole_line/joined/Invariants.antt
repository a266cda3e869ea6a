-- What is joined so far stands before the lines that are left as the line did.
use Rattle.std.proofs.Common.{◌≡◌, ◌≤◌, length}
use Rattle.head_grammar.specs.FieldLines.{first_continues, onto_lines, unfolded}
use Rattle.head_grammar.proofs.whole_line.joined.Given as goal

abbrev pub invariant-loop-next : goal.invariant-loop-next
invariant-loop-next l = record {
  same : onto_lines (first_continues l.fn.lines) l.line (unfolded l.fn.lines)
      ≡ onto_lines (first_continues l.lines) l.whole.items (unfolded l.lines);
  shorter : length l.lines ≤ length l.fn.lines;
}

abbrev pub decreases-loop-next : goal.decreases-loop-next
decreases-loop-next l = length l.lines
