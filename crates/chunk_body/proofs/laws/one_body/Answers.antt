use Rattle.chunk_body.proofs.Reached.{prefix_free, same_body}
use Rattle.chunk_body.proofs.laws.one_body.Goals as goal

pub returns : goal.returns
returns c = record { longest = prefix_free; decoded = same_body }
