use Rattle.std.proofs.Common.{rules, ◌≡◌, [], ◌∷◌, ◌++◌, Some, None, ap, ◌∙◌, sym}
use Rattle.test_gate.specs.Numbers.{one_or_none}
use Rattle.test_gate.proofs.Lists.{puts}
use Rattle.test_gate.proofs.turns.add.Goals as goal

pub end-requires-clause-agrees : goal.end-requires-clause-agrees
end-requires-clause-agrees c κs =
    let e : c.of.result.number.value ≡ Some c.args.number = search rules in
    let now : c.push.new.self.items ≡ c.in_ok-turn.turn.state.items.items ++ c.args.number ∷ [] =
    search rules in
    puts _ _ _ _ _ c.in_ok-turn.ensures.agrees (now ∙ ap
    (λ z. c.in_ok-turn.turn.state.items.items ++ one_or_none z) (sym e))

pub end-requires-2-clause-agrees : goal.end-requires-2-clause-agrees
end-requires-2-clause-agrees c κs =
    let e : c.of-2.result.number.value ≡ None = search rules in
    let now : c.push.new.self.items ≡ c.in_ok-turn.turn.state.items.items ++ [] = search rules in
    puts _ _ _ _ _ c.in_ok-turn.ensures.agrees (now ∙ ap
    (λ z. c.in_ok-turn.turn.state.items.items ++ one_or_none z) (sym e))
