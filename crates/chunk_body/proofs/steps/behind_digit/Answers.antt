use Rattle.std.proofs.Common.{arith}
use Rattle.chunk_body.proofs.Sound.{digits_below}
use Rattle.chunk_body.proofs.steps.behind_digit.Goals as goal

pub overflow_mul-result : goal.overflow_mul-result
overflow_mul-result c =
    let b = digits_below c.args.count c.args.size (omega arith) c.requires.1 in omega (arith, b)

pub overflow_add-result-2 : goal.overflow_add-result-2
overflow_add-result-2 c =
    let b = digits_below c.args.count c.args.size (omega arith) c.requires.1 in omega (arith, b)
