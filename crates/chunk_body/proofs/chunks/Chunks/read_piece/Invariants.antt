use Rattle.std.proofs.Common.{length, ◌-◌, ◌≡◌, ◌≤◌, ◌+◌, ◌++◌, take, false, vec_len, vec_capacity}
use Rattle.chunk_body.specs.Reading.{reads, decodes}
use Rattle.chunk_body.specs.Reading.{has_ended}
use Rattle.chunk_body.proofs.chunks.Chunks.read_piece.Given as goal

abbrev pub invariant-loop-at : goal.invariant-loop-at
invariant-loop-at l = record {
  within : l.at ≤ length l.piece;
  going : has_ended l.self.place ≡ false;
  state : l.self ≡ reads l.initial.self (take l.at l.piece);
  items : l.room.items ≡ l.initial.room.items ++ decodes l.initial.self (take l.at l.piece);
  count : l.self.taken ≡ l.initial.self.taken + l.at;
  room : vec_len l.room + (length l.piece - l.at) ≤ vec_capacity l.room;
}

abbrev pub decreases-loop-at : goal.decreases-loop-at
decreases-loop-at l = length l.piece - l.at
