use Rattle.turn_gate.proofs.Sentences.{keeps_rule, refuses_where_held}
use Rattle.turn_gate.proofs.law.keeps_rule.Goals as goal

pub returns-clause-sentences : goal.returns-clause-sentences
returns-clause-sentences g c = λ _. keeps_rule g.P.Pact.agree g.P.Pact.fixed

pub returns-clause-refusals : goal.returns-clause-refusals
returns-clause-refusals g c = λ _. refuses_where_held g.P.Pact.agree g.P.Pact.fixed
