use Rattle.std.proofs.Common.{◌||◌, refl, sym, ap, ap₂}
use Rattle.channel.specs.Acting.{has_counted}
use Rattle.channel.proofs.Ending.{all_parts, ends_by}
use Rattle.channel.proofs.Counting.{puts_asked}
use Rattle.channel.proofs.Headline.{sent_front}
use Rattle.channel.proofs.sides.Channel.close.Goals as goal

pub returns-clause-sent : goal.returns-clause-sent
returns-clause-sent g c = rw c.into_closed.ensures.link (λ all.
    let tells = all_parts g.L.Link.tells g.S.Spill.tells g.A.App.tells all in
    sent_front _ _ _ _ _ c.args.self.agrees c.args.self.keeps tells.0 tells.1.0 tells.1.1 _ _ _ refl
    refl refl)

pub returns-clause-ends : goal.returns-clause-ends
returns-clause-ends g c = rw c.into_closed.ensures.link
    (ends_by _ _ _ _ _ c.args.self.agrees c.args.self.keeps c.args.self.answers
    c.into_closed.result.broken c.into_closed.result.fallen (record {
      spill_out = λ b. let kept = c.into_closed.ensures.buried b in
          ap₂ (λ o p. has_counted g.S.Spill.faults o || has_counted g.A.Run.AppRun.spill_faults p)
          (sym kept.0) (sym kept.1);
      run_out = λ b. ap (λ o. has_counted g.A.Run.AppRun.faults o)
          (sym (c.into_closed.ensures.buried b).1);
      run = c.into_closed.ensures.run;
      spill = c.into_closed.ensures.spill;
    }))

pub returns-clause-asked : goal.returns-clause-asked
returns-clause-asked g c = rw c.into_closed.ensures.link (λ tells.
    puts_asked _ _ _ _ _ c.args.self.agrees c.args.self.keeps tells)
