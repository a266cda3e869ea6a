-- The entries so far are good, and what is left decides.
use Rattle.std.proofs.Common.{◌≡◌, ◌≤◌, ◌-◌}
use Rattle.adjust.specs.Lists.{bad_entry}
use Rattle.adjust.proofs.Entries.{bad_behind}
use Rattle.adjust.proofs.addresses.bad_entry.Given as goal

abbrev pub invariant-loop-entry : goal.invariant-loop-entry
invariant-loop-entry l = record {
  within : l.good ≤ 16;
  behind : bad_entry l.initial.entry-iterator ≡ bad_behind (16 - l.good) l.good l.entry-iterator;
}
