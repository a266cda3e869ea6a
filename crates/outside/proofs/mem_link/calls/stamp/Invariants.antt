use Rattle.std.proofs.Common.{◌≡◌, ◌≤◌, ◌+◌, ◌++◌, vec_len, vec_capacity, take}
use Rattle.outside.specs.Link.{stamped}
use Rattle.outside.proofs.mem_link.calls.stamp.Given as goal

abbrev pub invariant-loop-byte : goal.invariant-loop-byte
invariant-loop-byte l = record {
  items : l.arrivals.items ≡ l.initial.arrivals.items ++ stamped l.now (take l.byte-index l.bytes);
  len : vec_len l.arrivals ≡ vec_len l.initial.arrivals + l.byte-index;
  room : vec_capacity l.initial.arrivals ≤ vec_capacity l.arrivals;
}
