use Rattle.channel.specs.State.{state_of}
use Rattle.channel.proofs.GoingOn.{settled_behind, steps_by_text}
use Rattle.channel.proofs.RightTurns.{turns_from}
use Rattle.channel.proofs.far.go_on.Goals as goal

pub returns-in-Ok-clause-turns : goal.returns-in-Ok-clause-turns
returns-in-Ok-clause-turns g c =
    record {
      turns = λ site script peer. turns_from _ _ site script peer _ _ _ _ _ _
          c.in-Ok.ensures.step.busy (λ t. c.in-Ok.ensures.step.gives
          ((g.met.A.App g.world.𝓛 g.world.𝓜 g.world.𝓡 (
            (λ s x. x),
            (λ x. x),
            (λ x. x),
            λ x. x,
          )).run_tells t))
          c.in-Ok.ensures.step.shuts (c.add_text.ensures.turns.turns site script peer);
    }

pub returns-in-Ok-clause-steps : goal.returns-in-Ok-clause-steps
returns-in-Ok-clause-steps g c =
    steps_by_text _ g.A.Run.AppRun.left (state_of c.args.state.now)
    (state_of c.add_text.new.state) _ c.requires.busy _ c.args.writing c.in-Ok.writing _
    c.requires.settled c.requires.under_way c.in-Ok.ensures.step.takes c.add_text.ensures.adds
    c.add_text.ensures.writing

pub returns-in-Ok-clause-settled : goal.returns-in-Ok-clause-settled
returns-in-Ok-clause-settled g c = settled_behind c.in-Ok.writing _ c.add_text.ensures.writing

pub returns-in-Err-clause-turns : goal.returns-in-Err-clause-turns
returns-in-Err-clause-turns g c = record {
  turns =
      λ site script peer. c.stop_by.ensures.breaks.turns site script peer _ _;
}
