use Rattle.std.proofs.Common.{rules, [], ◌∷◌, ◌++◌, sym, ap, ◌∙◌, subst}
use Rattle.turn_gate.proofs.Steps.{ends_right, right_after}
use Rattle.turn_gate.proofs.right_end.Right.end.Goals as goal

pub store-requires : goal.store-requires
store-requires g c = let state = ap (λ t. t.state) c.turn.view_is in (
  search rules,
  search rules,
  ends_right g.P.Pact.agree g.P.Pact.fixed _ _ _ c.self.inside.place _ record
      { state = c.turn.inside.state; entries = c.note-entries.result } c.args.entry _ c.self.view_is
      c.self.invariant.3 c.self.invariant.4
      (search rules) c.requires.own.1 (search rules) (ap g.P.Pact.fixed state ∙ c.requires.fixed)
      (subst (λ (z : g.row.P-State.Denot). g.P.Pact.agree z c.args.self.now.found
      (c.args.self.now.own ++ c.args.entry ∷ [])) (sym state) c.requires.agrees) (search rules),
)

pub invariant_of-self : goal.invariant_of-self
invariant_of-self g c =
    let t = right_after g.P.Pact.agree g.P.Pact.fixed c.self.inside.place c.exchange.new.seat
    c.store.new.seat _ c.args.entry _ c.self.view_is c.self.invariant.4 c.requires.own.1
    c.exchange.ensures.0 c.exchange.ensures.1 c.exchange.ensures.3 (search rules) c.store.ensures.0
    c.store.ensures.1 c.store.ensures.2 in
    (search rules, search rules, search rules, t.1 ∙ c.self.invariant.3, t.2)

pub returns : goal.returns
returns g c =
    (right_after g.P.Pact.agree g.P.Pact.fixed c.self.inside.place c.exchange.new.seat
    c.store.new.seat _ c.args.entry _ c.self.view_is c.self.invariant.4 c.requires.own.1
    c.exchange.ensures.0 c.exchange.ensures.1 c.exchange.ensures.3 (search rules) c.store.ensures.0
    c.store.ensures.1 c.store.ensures.2).0
