-- The fields so far are copied.
use Rattle.std.proofs.Common.{◌≡◌, take}
use Rattle.apps.proofs.row.copies.Given as goal

abbrev pub invariant-loop-given : goal.invariant-loop-given
invariant-loop-given l = l.copies.items ≡ take l.given-index l.fields
