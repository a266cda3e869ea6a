use Rattle.channel.proofs.Growing.{responses_front}
use Rattle.channel.proofs.laws.responses_grow.Goals as goal

pub returns : goal.returns
returns c = λ limits site script peer x y some.
    let more = c.units_grow.ensures limits x y some in
    responses_front limits site script peer x y more.0 more.1
