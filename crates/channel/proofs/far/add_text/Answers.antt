use Rattle.std.proofs.Common.{rules, Some, None}
use Rattle.channel.specs.State.{state_of}
use Rattle.channel.specs.Turning.{Writes}
use Rattle.channel.proofs.RightTurns.{writes_last_by, writes_on_by}
use Rattle.channel.proofs.far.add_text.Goals as goal

pub returns-in-Ok-clause-turns : goal.returns-in-Ok-clause-turns
returns-in-Ok-clause-turns g c =
    let w : Writes g.S.Spill.tells c.in-Waits.waiting.text None (state_of c.args.state.now)
    (state_of c.write.new.state) c.in-Ok.entry = search rules in
    record {
      turns = λ site script peer. writes_on_by _ _ site script peer
          (state_of c.args.state.now) (state_of c.write.new.state) w.adds.before w.adds.after
          c.in-Waits.waiting.text c.requires.alive c.requires.busy w.adds.had w.adds.bytes
          c.requires.below _ c.in-Waits.waiting _ c.in-Waits.is
          (search rules) c.in-Waits.waiting.some w.adds.now w.told;
    }

pub returns-in-Waits-clause-turns : goal.returns-in-Waits-clause-turns
returns-in-Waits-clause-turns g c = record {
  turns =
      λ site script peer. c.in-Err.ensures.broke.turns site script peer _ _;
}

pub returns-in-Ok-write-clause-turns : goal.returns-in-Ok-write-clause-turns
returns-in-Ok-write-clause-turns g c =
    let w : Writes g.S.Spill.tells c.in-Last.text (Some c.in-Last.closes)
    (state_of c.args.state.now) (state_of c.write-in-Last.new.state) c.in-Ok-write.entry =
    search rules in
    record {
      turns = λ site script peer. writes_last_by _ _ site script peer
          (state_of c.args.state.now) (state_of c.write-in-Last.new.state) w.adds.before
          w.adds.after
          c.in-Last.text c.requires.alive c.requires.busy w.adds.had w.adds.bytes c.requires.below _
          c.in-Last.closes c.in-Last.text _ c.in-Last.is (search rules) w.adds.now w.told;
    }

pub returns-in-Last-clause-turns : goal.returns-in-Last-clause-turns
returns-in-Last-clause-turns g c = record {
  turns =
      λ site script peer. c.in-Err-write.ensures.broke.turns site script peer _ _;
}
