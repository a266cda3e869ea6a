use Rattle.std.proofs.Common.{arith}
use Rattle.adjust.proofs.Ranges.{first_none, rehearsed}
use Rattle.adjust.proofs.command.connections.Goals as goal

pub overflow_cast-result : goal.overflow_cast-result
overflow_cast-result c =
    let few = rehearsed c.args.given.now (first_none c.args.given.now c.requires.faultless)
    c.requires.rehearses in
    let same = c.number.ensures in
    omega arith
