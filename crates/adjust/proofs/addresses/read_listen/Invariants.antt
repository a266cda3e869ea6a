-- The addresses so far stand in front of those of the entries that are left.
use Rattle.std.proofs.Common.{◌≡◌, ◌++◌}
use Rattle.std.specs.List.{filter_map}
use Rattle.adjust.specs.Lists.{entry}
use Rattle.adjust.proofs.addresses.read_listen.Given as goal

abbrev pub invariant-loop-entry : goal.invariant-loop-entry
invariant-loop-entry l =
    filter_map entry l.initial.entry-iterator ≡ l.listen.items ++ filter_map entry l.entry-iterator
