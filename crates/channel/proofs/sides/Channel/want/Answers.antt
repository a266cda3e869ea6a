use Rattle.std.proofs.Common.{refl}
use Rattle.channel.specs.Writing.{steps_left}
use Rattle.channel.proofs.Ending.{all_parts, stirs_by}
use Rattle.channel.proofs.Headline.{sent_front}
use Rattle.channel.proofs.sides.Channel.want.Goals as goal

pub returns-clause-stirs : goal.returns-clause-stirs
returns-clause-stirs g c =
    stirs_by _ _ _ _ _ c.args.self.now.state.fixed.value.window
    (steps_left g.A.Run.AppRun.left c.args.self.now.writing)
    c.args.self.now.agrees c.args.self.now.keeps c.args.self.now.writes.shut

pub returns-clause-sent : goal.returns-clause-sent
returns-clause-sent g c = λ all.
    let tells = all_parts g.L.Link.tells g.S.Spill.tells g.A.App.tells all in
    sent_front _ _ _ _ _ c.args.self.now.agrees c.args.self.now.keeps tells.0 tells.1.0 tells.1.1 _
    _ _ refl refl refl
