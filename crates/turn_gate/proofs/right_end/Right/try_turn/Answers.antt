use Rattle.std.proofs.Common.{rules, ap, ◌∙◌}
use Rattle.turn_gate.specs.Ends.{in_hand}
use Rattle.turn_gate.proofs.Steps.{takes_right}
use Rattle.turn_gate.proofs.right_end.Right.try_turn.Goals as goal

pub compare_exchange-won-requires : goal.compare_exchange-won-requires
compare_exchange-won-requires g c = let idle = ap (λ e. e.has) c.self.view_is ∙ c.requires in (
  search rules,
  search rules,
  takes_right g.P.Pact.agree g.P.Pact.fixed _ _ _ _ _
      c.self.invariant.3 idle (c.self.invariant.4 ∙ ap in_hand idle) (search rules)
      (search rules),
)

pub taken-requires : goal.taken-requires
taken-requires g c = let won = c.compare_exchange-won.ensures.2.0 (search rules) in
    (search rules, (search rules, (won.0, won.1)))
