-- The keys that are left decide.
use Rattle.std.proofs.Common.{◌≡◌}
use Rattle.toml.specs.View.{members_view}
use Rattle.apps.specs.Rows.{has_keys}
use Rattle.apps.proofs.row_table.has_keys.Given as goal

abbrev pub invariant-loop-key : goal.invariant-loop-key
invariant-loop-key l = has_keys (members_view l.table.entries) ≡ has_keys
    (members_view l.key-iterator)
