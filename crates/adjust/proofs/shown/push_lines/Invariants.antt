-- The items so far are joined.
use Rattle.std.proofs.Common.{◌≡◌, ◌++◌, take}
use Rattle.adjust.specs.Options.{row_of}
use Rattle.adjust.specs.Texts.{check_line}
use Rattle.adjust.proofs.Joined.{joined}
use Rattle.adjust.proofs.shown.push_lines.Given as goal

abbrev pub invariant-loop-row : goal.invariant-loop-row
invariant-loop-row l = l.text.items ≡ l.fn.text.items ++ joined
    (λ row. check_line l.of (row_of row)) (take l.row-index l.rows)
