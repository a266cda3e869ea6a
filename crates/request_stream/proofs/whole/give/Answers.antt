use Rattle.std.proofs.Common.{ap, ◌∙◌}
use Rattle.request_stream.specs.Asks.{sizes}
use Rattle.request_stream.proofs.RoomLemmas.{sizes-push}
use Rattle.request_stream.proofs.whole.give.Goals as goal

pub returns-clause-sizes : goal.returns-clause-sizes
returns-clause-sizes g c = ap sizes c.in_ok-push.ensures.items
    ∙ sizes-push c.args.given.now.items c.args.unit
