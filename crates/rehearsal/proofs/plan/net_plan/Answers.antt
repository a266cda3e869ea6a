use Rattle.std.proofs.Common.{[]}
use Rattle.rehearsal.specs.Plans.{comer_of}
use Rattle.rehearsal.proofs.Ranges.{put_more}
use Rattle.rehearsal.proofs.plan.net_plan.Goals as goal

pub loop-connection-preserved : goal.loop-connection-preserved
loop-connection-preserved c =
    put_more comer_of c.loop-connection.connection _ [] _ _
    c.in_ok-comer_of.ensures c.in_ok-push.ensures.items c.loop-connection.invariant
