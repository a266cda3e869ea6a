use Rattle.request_stream.proofs.Growing.{units-begin}
use Rattle.request_stream.proofs.laws.units_grow.Goals as goal

pub returns : goal.returns
returns c = λ limits x y h. let b = units-begin c.grammar.ensures limits x y h in (b.more, b.whole)
