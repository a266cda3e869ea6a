use Rattle.task_core.specs.Answer.{answer, request_of}
use Rattle.task_core.proofs.Chains.{answers}
use Rattle.task_core.proofs.laws.scripts_are_answered.Goals as goal

pub returns : goal.returns
returns c = λ head moment ident task begun same. answers task
    (answer (request_of head moment ident)) begun same
