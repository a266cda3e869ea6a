-- The slashes so far are skipped.
use Rattle.std.proofs.Common.{◌≡◌}
use Rattle.percent_encoding.specs.Iter.{decoded_bytes}
use Rattle.head_grammar.specs.Targets.{without_slashes}
use Rattle.head_grammar.proofs.targets.without_slashes.Given as goal

abbrev pub invariant-loop-rest : goal.invariant-loop-rest
invariant-loop-rest l = record {
  can : (goal.iterator-loop-rest).can_next l.ahead;
  ends : (goal.iterator-loop-rest).is_finite l.ahead;
  same : decoded_bytes l.ahead ≡ decoded_bytes l.rest;
  skipped : without_slashes (decoded_bytes l.fn.decoded) ≡ without_slashes (decoded_bytes l.rest);
}
