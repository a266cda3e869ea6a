-- The lines that were skipped are empty.
use Rattle.std.proofs.Common.{◌≡◌}
use Rattle.head_grammar.specs.Lines.{skip_empty}
use Rattle.head_grammar.proofs.lines.Lines.skip_empty.Given as goal

abbrev pub invariant-loop-line : goal.invariant-loop-line
invariant-loop-line l = record {
  can : (goal.iterator-loop-line).can_next l.self;
  ends : (goal.iterator-loop-line).is_finite l.self;
  same : skip_empty l.fn.self ≡ skip_empty l.self;
}
