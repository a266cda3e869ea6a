use Rattle.std.proofs.Common.{rules, refl}
use Rattle.task_core.specs.Steps.{remaining}
use Rattle.channel.proofs.AnswerLemmas.{ends_shut}
use Rattle.channel.proofs.answering.step_script.Goals as goal

pub returns-in-Some-clause-step : goal.returns-in-Some-clause-step
returns-in-Some-clause-step g c = record {
  busy = refl;
  gives = search rules;
  takes = tt;
  shuts = λ shuts _. ends_shut (remaining c.args.script.task)
      (remaining c.step.new.self) c.in-Ok.step c.in_ok-wrote.wrote c.in_ok-wrote.ensures.answer
      shuts c.in-Some.closes c.in-Some.is;
}
