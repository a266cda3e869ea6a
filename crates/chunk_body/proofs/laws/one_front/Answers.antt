use Rattle.chunk_body.proofs.BodyLaws.{coded-front, coded-only, coded-settled, coded-within}
use Rattle.chunk_body.proofs.BodyLaws.{coded-empty}
use Rattle.chunk_body.proofs.laws.one_front.Goals as goal

pub returns : goal.returns
returns c = record {
  bodies = coded-front;
  only = coded-only;
  settled = coded-settled;
  within =
      coded-within;
  empty = coded-empty;
}
