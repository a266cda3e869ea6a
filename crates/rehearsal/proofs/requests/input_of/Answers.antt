use Rattle.rehearsal.specs.Requests.{request_of}
use Rattle.rehearsal.proofs.Ranges.{joined_more}
use Rattle.rehearsal.proofs.requests.input_of.Goals as goal

pub loop-number-preserved : goal.loop-number-preserved
loop-number-preserved c =
    joined_more (request_of c.args.connection) c.loop-number.number _ _
    c.in_ok-push_request.ensures c.loop-number.invariant
