use Rattle.std.proofs.Common.{rules, ap, sym, ◌∙◌, ◌++◌, ◌∷◌, [], subst}
use mathlib.Core.List.{IsPrefix}
use Rattle.test_gate.specs.Numbers.{added, taken}
use Rattle.test_gate.proofs.Lists.{empties, all_taken}
use Rattle.test_gate.proofs.turns.take_all.Goals as goal

pub end-requires-clause-agrees : goal.end-requires-clause-agrees
end-requires-clause-agrees g c κs = empties _ _ _ _ _ c.turn-turn.ensures.agrees (search rules)
    (search rules)

pub returns : goal.returns
returns g c = record {
  entry = record { numbers = c.of.result };
  numbers_are = ap (λ z. z.items) c.of.ensures;
  own = ap (λ e. e.own) c.end.ensures ∙ ap (λ xs. xs ++ record { numbers = c.of.result } ∷ [])
      c.turn-turn.ensures.wins.0.own;
  found = subst (λ ys. IsPrefix c.args.right.now.found ys) (sym (ap (λ e. e.found) c.end.ensures))
      c.turn-turn.ensures.wins.0.found;
  has = ap (λ e. e.has) c.end.ensures;
  all = ap (λ e. taken e.own) c.end.ensures ∙ (all_taken _ _ _ _ c.turn-turn.ensures.agrees
      (search rules) ∙ ap (λ e. added e.found) (sym c.end.ensures));
}
