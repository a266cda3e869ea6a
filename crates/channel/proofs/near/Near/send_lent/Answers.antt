use Rattle.std.proofs.Common.{rules, ◌≡◌, ◌∙◌, ◌∷◌, ◌<◌, [], sym, ap, take, refl}
use Rattle.channel.specs.State.{state_of}
use Rattle.outside.specs.Link.{LinkState}
use Rattle.channel.specs.declared.acts.LeftAct.TheVariants.{Drained}
use Rattle.channel.proofs.LeftTurns.{left_fails, lends_of, lent_some, untouched}
use Rattle.channel.proofs.SideLemmas.{same_near}
use Rattle.channel.proofs.near.Near.send_lent.Goals as goal

pub returns-in-Took-clause-turns : goal.returns-in-Took-clause-turns
returns-in-Took-clause-turns g c =
    let told : c.note-entry.result.value ≡ Drained (take c.in-Took.count
    c.lent-bytes.result.now) ∷ [] =
    search rules in
    record {
      side = lends_of _ _ _ (state_of c.args.state.now) (state_of c.skip.new.self) _
          c.lent-bytes.result.now c.in-Took.count c.requires.alive refl refl c.lent-bytes.ensures
          c.skip.ensures (search rules) told refl refl c.in-Took.ensures.told;
      same = same_near _ _ _ refl refl c.send.ensures.key c.send.ensures.plan;
    }

pub returns-in-Failed-clause-turns : goal.returns-in-Failed-clause-turns
returns-in-Failed-clause-turns g c =
    let counted : 0 < g.L.Link.faults c.send.new.self = search rules in
    let there = lent_some _ c.requires.some in
    record {
      side = left_fails _ _ _ _ _ _ c.requires.alive refl refl
          (state_of c.args.state.now) (untouched _ _ there.0 there.1) c.kill.ensures.now
          c.kill.ensures.told refl
          (λ t. ap (λ (s : LinkState). s.arrivals) (c.in-Failed.ensures.told t))
          (λ t. ap (λ (s : LinkState). s.sent) (c.in-Failed.ensures.told t))
          (λ was t. was t ∙ sym (ap (λ (s : LinkState). s.ended) (c.in-Failed.ensures.told t)))
          (λ was t. was t ∙ sym (ap (λ (s : LinkState). s.touched) (c.in-Failed.ensures.told t)))
          counted;
      same = same_near _ _ _ refl refl c.send.ensures.key c.send.ensures.plan;
    }
