-- The kinds of the rows so far.
use Rattle.std.proofs.Common.{◌≡◌, map, take}
use Rattle.adjust.proofs.KindLemmas.{kinds_among}
use Rattle.adjust.specs.Lists.{kind_row}
use Rattle.adjust.proofs.kinds.read_kinds.Given as goal

abbrev pub invariant-loop-row : goal.invariant-loop-row
invariant-loop-row l = l.kinds.items ≡ kinds_among l.text
    (map kind_row (take l.row-index l.row-items))
