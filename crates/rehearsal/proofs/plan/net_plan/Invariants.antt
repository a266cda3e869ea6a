use Rattle.std.proofs.Common.{◌≡◌, map}
use Rattle.std.specs.List.{range_with_len}
use Rattle.rehearsal.specs.Plans.{comer_of}
use Rattle.rehearsal.proofs.plan.net_plan.Given as goal

abbrev pub invariant-loop-connection : goal.invariant-loop-connection
invariant-loop-connection l = l.comers.items ≡ map comer_of (range_with_len 0 l.connection)
