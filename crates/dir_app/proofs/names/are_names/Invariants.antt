-- What is left decides.
use Rattle.std.proofs.Common.{◌≡◌, length}
use Rattle.std.specs.List.{slice_split}
use Rattle.dir_app.specs.Names.{are_names, is_slash}
use Rattle.dir_app.proofs.names.are_names.Given as goal

abbrev pub invariant-loop-part : goal.invariant-loop-part
invariant-loop-part l = are_names (slice_split is_slash l.parts) ≡ are_names
    (slice_split is_slash l.rest)

abbrev pub decreases-loop-part : goal.decreases-loop-part
decreases-loop-part l = length l.rest
