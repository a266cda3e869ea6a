use Rattle.chunk_body.proofs.TwoCases.{last_coded, chunk_coded, last_or_chunk}
use Rattle.chunk_body.proofs.laws.two_cases.Goals as goal

pub returns : goal.returns
returns c = record { last = last_coded; chunk = chunk_coded; either = last_or_chunk }
