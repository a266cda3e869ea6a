use Rattle.std.proofs.Common.{sym}
use Rattle.adjust.proofs.Rows.{fault_here, no_fault, no_more}
use Rattle.adjust.proofs.faults.first_value_fault.Goals as goal

pub returns-in-Some : goal.returns-in-Some
returns-in-Some c =
    fault_here c.args.given.now c.rows-row-items.result.now c.loop-row.row-index _ c.in-Some.fault
    c.rows-row-items.ensures c.loop-row-test.true c.loop-row.invariant (sym c.in-Some.ensures)

pub loop-row-preserved : goal.loop-row-preserved
loop-row-preserved c =
    no_more c.args.given.now c.rows-row-items.result.now c.loop-row.row-index _ c.loop-row-test.true
    c.loop-row.invariant (sym c.in-None.ensures)

pub returns : goal.returns
returns c =
    no_fault c.args.given.now c.rows-row-items.result.now c.loop-row.row-index
    c.rows-row-items.ensures c.loop-row-test.false c.loop-row.invariant
