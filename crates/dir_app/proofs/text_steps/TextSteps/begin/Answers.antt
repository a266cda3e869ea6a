-- A text has two steps, of which the first one is given.
use Rattle.std.proofs.Common.{sym, ◌∙◌}
use Rattle.dir_app.proofs.TextLemmas.{first_taken, one_left, some_steps}
use Rattle.dir_app.proofs.text_steps.TextSteps.begin.Goals as goal

pub returns-clause-steps : goal.returns-clause-steps
returns-clause-steps c = first_taken c.args.text c.in-Some.step
    (sym c.in-Some.is ∙ c.in_ok-step.ensures.step)

pub returns-clause-left : goal.returns-clause-left
returns-clause-left c = one_left c.args.text

pub unreachable-requires : goal.unreachable-requires
unreachable-requires c = some_steps c.args.text (sym c.in-None.is ∙ c.in_ok-step.ensures.step)
