-- A whole head has at least the four bytes that end it.
use Rattle.std.proofs.Common.{rules, length, arith}
use Rattle.head_grammar.specs.Verdict.{verdict}
use Rattle.head_grammar.proofs.EndLaws.{head_end-four}
use Rattle.head_grammar.proofs.verdict.read_head.Goals as goal

pub slice_bounds-new-count : goal.slice_bounds-new-count
slice_bounds-new-count c = let four = head_end-four c.args.bytes.now
    (length c.args.bytes.now) c.requires in omega arith

pub returns-clause-verdict : goal.returns-clause-verdict
unfolding verdict
returns-clause-verdict c = search rules
