-- The text and the lines of the addresses that are left are all lines.
use Rattle.std.proofs.Common.{◌≡◌, ◌++◌, drop}
use Rattle.waitress_serve.specs.Status.{serving_lines}
use Rattle.waitress_serve.proofs.printing.lines_of.Given as goal

abbrev pub invariant-loop-one : goal.invariant-loop-one
invariant-loop-one l = l.text.items ++ serving_lines (drop l.one-index l.listen) ≡ serving_lines
    l.listen
