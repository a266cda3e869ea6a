use Rattle.std.proofs.Common.{arith, ◌≡◌, ◌-◌, sym, subst, length, drop}
use Rattle.std.proofs.lemmas.List.{length-take, length-drop}
use Rattle.request_stream.proofs.RoomLemmas.{holds_trans}
use Rattle.request_stream.proofs.Shutting.{shuts_trans}
use Rattle.request_stream.specs.Asks.{asks}
use Rattle.std.proofs.Common.{map}
use Rattle.request_stream.proofs.RunLemmas.{reads_more}
use Rattle.request_stream.proofs.runs.run.Goals as goal

pub loop-at-preserved : goal.loop-at-preserved
loop-at-preserved g c =
    let taken = c.in_ok-step.ensures.taken in
    let within = c.loop-at.invariant.within in
    record {
      within =
          let high = taken.1 in
          let t = length-take (length c.args.piece.now - c.loop-at.at)
          (drop c.loop-at.at c.args.piece.now) in
          let d = length-drop c.loop-at.at c.args.piece.now in omega arith;
      sound = c.in_ok-step.ensures.sound;
      holds = holds_trans _ c.loop-at.state _ c.loop-at.at c.in_ok-step.step.taken _
          c.loop-at.given.items _ c.loop-at.invariant.holds c.in_ok-step.ensures.holds;
      small = λ before. c.in_ok-step.ensures.within (c.loop-at.invariant.small before);
      shuts = shuts_trans _ c.loop-at.state _ _ (map asks c.loop-at.given.items) _
          c.loop-at.invariant.shuts c.in_ok-step.ensures.shuts;
      reads = reads_more _ _ _ c.loop-at.state _ _ c.loop-at.at c.in_ok-step.step.taken _ _ _ _
          c.requires.positive.head c.loop-at.invariant.within c.loop-at.invariant.reads
          c.in_ok-step.ensures.reads;
      spills = subst (λ n. n ≡ g.P.Spills.faults c.args.spills.now)
          (sym c.in_ok-step.ensures.spills) c.loop-at.invariant.spills;
    }
