use Rattle.dir_app.proofs.NameLaws.{leads_below, parts_are_joined}
use Rattle.dir_app.proofs.laws.names_lead_down.Goals as goal

pub returns-clause-leads_below : goal.returns-clause-leads_below
returns-clause-leads_below g path = leads_below path

pub returns-clause-parts_are_joined : goal.returns-clause-parts_are_joined
returns-clause-parts_are_joined g path = parts_are_joined path
