-- The bytes from `end` on are slashes.
use Rattle.std.proofs.Common.{◌≡◌, ◌+◌, ◌-◌, ◌≤◌, length, take}
use Rattle.std.specs.List.{suffix_len}
use Rattle.adjust.specs.Values.{is_slash}
use Rattle.adjust.proofs.values.without_slashes_behind.Given as goal

abbrev pub invariant-loop-end : goal.invariant-loop-end
invariant-loop-end l = record {
  within : l.end ≤ length l.text;
  behind : suffix_len is_slash (take l.end l.text) + (length l.text - l.end) ≡ suffix_len is_slash
      l.text;
}

abbrev pub decreases-loop-end : goal.decreases-loop-end
decreases-loop-end l = l.end
