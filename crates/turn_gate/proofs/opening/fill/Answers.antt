use Rattle.std.proofs.Common.{rules, ap, ◌∙◌}
use Rattle.turn_gate.specs.declared.board.Side.TheVariants.{Whole}
use Rattle.turn_gate.proofs.Openings.{begins, fills, filling_seat, divides}
use Rattle.turn_gate.proofs.opening.fill.Goals as goal

pub load-requires : goal.load-requires
load-requires g c = (
  search rules,
  search rules,
  begins g.P.Pact.agree g.P.Pact.fixed _ _ _ _
      c.requires.vacant.me_is,
)

pub store-requires : goal.store-requires
store-requires g c = (
  search rules,
  search rules,
  fills g.P.Pact.agree g.P.Pact.fixed _ _ _ _ _ _ (filling_seat g.P.Pact.agree g.P.Pact.fixed _ _ _
      _ _ c.requires.vacant.me_is c.load.ensures.2 c.exchange.ensures.3) (search rules)
      (search rules) c.requires.agrees (search rules),
)

pub split_seat-requires : goal.split_seat-requires
split_seat-requires g c = (
  search rules,
  search rules,
  divides g.P.Pact.agree g.P.Pact.fixed _ _ _ (ap (λ m. m.0) c.store.ensures.2 ∙
      ap (λ m. record m.0 { side = Whole })
      (filling_seat g.P.Pact.agree g.P.Pact.fixed _ _ _ _ _ c.requires.vacant.me_is c.load.ensures.2
      c.exchange.ensures.3)),
)
