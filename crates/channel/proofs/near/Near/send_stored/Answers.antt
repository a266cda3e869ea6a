use Rattle.std.proofs.Common.{rules, ◌≡◌, ◌∙◌, ◌∷◌, ◌<◌, [], sym, ap, take, refl}
use Rattle.channel.specs.State.{state_of}
use Rattle.outside.specs.Link.{LinkState}
use Rattle.channel.specs.declared.acts.LeftAct.TheVariants.{Drained}
use Rattle.channel.proofs.LeftTurns.{drains_of, left_fails}
use Rattle.channel.proofs.SideLemmas.{same_near}
use Rattle.channel.proofs.near.Near.send_stored.Goals as goal

pub returns-in-Took-clause-turns : goal.returns-in-Took-clause-turns
returns-in-Took-clause-turns g c =
    let told : c.note.result.value ≡ Drained (take c.in-Took.taken c.offer.new.into) ∷ [] =
    search rules in
    record {
      side = drains_of _ _ _ (state_of c.args.state.now) (state_of c.offer.new.self)
          (state_of c.skip.new.self) _ c.offer.new.into c.in-Ok.count c.in-Took.taken
          c.requires.alive refl refl
          c.offer.ensures.kept c.skip.ensures (search rules)
          (search rules) c.in-Ok.ensures.front told refl
          (λ t. ap (λ (s : LinkState). s.arrivals) (c.in-Took.ensures.told t))
          (λ t. ap (λ (s : LinkState). s.sent) (c.in-Took.ensures.told t))
          (λ was t. was t ∙ sym (ap (λ (s : LinkState). s.ended) (c.in-Took.ensures.told t)))
          (λ t. sym (ap (λ (s : LinkState). s.touched) (c.in-Took.ensures.told t)));
      same = same_near _ _ _ refl refl c.send.ensures.key c.send.ensures.plan;
    }

pub returns-in-Failed-clause-turns : goal.returns-in-Failed-clause-turns
returns-in-Failed-clause-turns g c =
    let counted : 0 < g.L.Link.faults c.send.new.self = search rules in
    record {
      side = left_fails _ _ _ _ _ _ c.requires.alive refl refl
          (state_of c.offer.new.self) c.offer.ensures.kept c.kill.ensures.now c.kill.ensures.told
          refl
          (λ t. ap (λ (s : LinkState). s.arrivals) (c.in-Failed.ensures.told t))
          (λ t. ap (λ (s : LinkState). s.sent) (c.in-Failed.ensures.told t))
          (λ was t. was t ∙ sym (ap (λ (s : LinkState). s.ended) (c.in-Failed.ensures.told t)))
          (λ was t. was t ∙ sym (ap (λ (s : LinkState). s.touched) (c.in-Failed.ensures.told t)))
          counted;
      same = same_near _ _ _ refl refl c.send.ensures.key c.send.ensures.plan;
    }
