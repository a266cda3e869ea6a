use Rattle.std.proofs.Common.{arith}
use Rattle.poll_loop.specs.Server.{serving}
use Rattle.rehearse.specs.Looked.{IsSound}
use Rattle.rehearse.proofs.Lists.{first_all, first_more, first_none, read_is, read_none}
use Rattle.rehearse.proofs.looking.look.Goals.{in-Some, in-None}
use Rattle.rehearse.proofs.looking.look.Goals as goal

pub loop-place-init : goal.loop-place-init
loop-place-init g c = first_none IsSound (serving c.args.server.now).open'

pub returns-clause-sound : goal.returns-clause-sound
returns-clause-sound g c = first_all IsSound (serving c.args.server.now).open' _
    (omega arith) c.loop-place.invariant

pub loop-place-preserved : goal.loop-place-preserved
loop-place-preserved g c = first_more IsSound (serving c.args.server.now).open' c.loop-place.place
    c.loop-place.invariant (λ x is. elim c.match-lane.branch [
      | in-Some w ↦ read_is IsSound _ c.lane.result _ w.in-Some.lane x c.lane.ensures w.in-Some.is
          is w.ask.ensures
      | in-None w ↦ absurd (read_none _ c.lane.result _ x c.lane.ensures w.in-None.is is)
    ])
