use Rattle.rehearsal.proofs.Ranges.{few_comers}
use Rattle.rehearsal.proofs.plan.rehearsal.Goals as goal

pub new-requires-clause-few : goal.new-requires-clause-few
new-requires-clause-few c = few_comers c.args.connections c.in-Ok.plan c.in-Ok.ensures c.requires
