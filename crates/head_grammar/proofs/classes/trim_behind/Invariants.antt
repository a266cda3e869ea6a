-- What was passed from the end on is white space.
use Rattle.std.proofs.Common.{◌≡◌, ◌+◌, ◌≤◌, length, take}
use Rattle.std.specs.List.{suffix_len}
use Rattle.byte_tables.specs.Classes.{is_white_space}
use Rattle.head_grammar.proofs.classes.trim_behind.Given as goal

abbrev pub invariant-loop-end : goal.invariant-loop-end
invariant-loop-end l = record {
  within : l.end ≤ length l.bytes;
  passed : suffix_len is_white_space l.bytes + l.end
      ≡ suffix_len is_white_space (take l.end l.bytes) + length l.bytes;
}

abbrev pub decreases-loop-end : goal.decreases-loop-end
decreases-loop-end l = l.end
