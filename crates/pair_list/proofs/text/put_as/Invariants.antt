-- The bytes so far were added in these letters.
use Rattle.std.proofs.Common.{◌≡◌, ◌+◌, ◌≤◌, ◌++◌, take, map}
use Rattle.std.specs.Vec.{vec_len, vec_capacity}
use Rattle.pair_list.proofs.text.put_as.Given as goal

abbrev pub invariant-loop-byte : goal.invariant-loop-byte
invariant-loop-byte g l = record {
  items : l.text.items ≡ l.fn.text.items ++ map g.L.Letters.form (take l.byte-index l.name);
  len : vec_len l.text ≡ vec_len l.fn.text + l.byte-index;
  capacity : vec_capacity l.fn.text ≤ vec_capacity l.text;
}
