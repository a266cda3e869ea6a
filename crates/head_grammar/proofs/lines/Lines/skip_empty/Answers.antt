-- The line that is found is not skipped.
use Rattle.std.proofs.Common.{rules, ◌∙◌}
use Rattle.head_grammar.proofs.LineSearch.{skip_none}
use Rattle.head_grammar.proofs.lines.Lines.skip_empty.Goals as goal

pub returns-then-not-is_empty-clause-some : goal.returns-then-not-is_empty-clause-some
returns-then-not-is_empty-clause-some c =
    c.loop-line.invariant.same ∙ skip_none c.loop-line.self c.in-Some.line.now c.next.new.self
    (search rules) (search rules)
