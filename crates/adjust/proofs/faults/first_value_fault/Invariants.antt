-- None of the rows so far has a fault.
use Rattle.std.proofs.Common.{◌≡◌, [], take}
use Rattle.adjust.proofs.Rows.{faults_in}
use Rattle.adjust.proofs.faults.first_value_fault.Given as goal

abbrev pub invariant-loop-row : goal.invariant-loop-row
invariant-loop-row l = faults_in l.given (take l.row-index l.row-items) ≡ []
