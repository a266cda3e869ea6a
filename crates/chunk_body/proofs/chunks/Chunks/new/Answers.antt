use Rattle.std.proofs.Common.{refl, []}
use Rattle.chunk_body.specs.Reading.{fresh}
use Rattle.chunk_body.specs.Answers.{lasting}
use Rattle.chunk_body.proofs.Feeding.{starts, opens}
use Rattle.chunk_body.proofs.chunks.Chunks.new.Goals as goal

pub returns : goal.returns
unfolding lasting
returns c =
    let r = starts c.args.max_body c.args.max_trailer in
    record {
      reads = r;
      part = opens c.args.max_body c.args.max_trailer
          (fresh c.args.max_body c.args.max_trailer) [] [] r refl;
      going = refl;
    }
