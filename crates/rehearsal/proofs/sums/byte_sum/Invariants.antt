use Rattle.std.proofs.Common.{◌≡◌, take}
use Rattle.std.specs.List.{sum}
use Rattle.rehearsal.specs.Sums.{capped}
use Rattle.rehearsal.proofs.sums.byte_sum.Given as goal

abbrev pub invariant-loop-byte : goal.invariant-loop-byte
invariant-loop-byte l = l.total ≡ capped (sum (take l.byte-index l.bytes))
