use Rattle.std.proofs.Common.{rules, arith, ◌≡◌, ◌+◌, ◌∷◌, [], ◌++◌, ap, sym, length, length-append}
use Rattle.std.proofs.Common.{◌∙◌}
use Rattle.test_gate.specs.Numbers.{taken}
use Rattle.test_gate.proofs.Lists.{takes_more}
use Rattle.test_gate.proofs.threads.take_often.Goals as goal

pub loop-turn-preserved : goal.loop-turn-preserved
loop-turn-preserved g c =
    let all : c.append.new.self.items ≡ c.loop-turn.all.items ++ c.take_all.result.items =
    search rules in
    let own = ap length c.take_all.ensures.own in
    let sum = length-append c.loop-turn.right.own (c.take_all.ensures.entry ∷ []) in
    let before = c.loop-turn.invariant.turns in
    record {
      has = c.take_all.ensures.has;
      taken = takes_more _ _ _ c.take_all.ensures _ _ c.loop-turn.invariant.taken ∙
          ap (λ xs. taken c.args.right.own ++ xs) (sym all);
      turns = omega (arith, own, sum, before);
    }
