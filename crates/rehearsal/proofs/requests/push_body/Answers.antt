use Rattle.rehearsal.specs.Requests.{body_byte}
use Rattle.rehearsal.proofs.Ranges.{put_more}
use Rattle.rehearsal.proofs.requests.push_body.Goals as goal

pub loop-place-preserved : goal.loop-place-preserved
loop-place-preserved c =
    put_more (body_byte c.args.connection c.args.number) c.loop-place.place _ _ _ _
    c.body_byte.ensures c.in_ok-push.ensures.items c.loop-place.invariant
