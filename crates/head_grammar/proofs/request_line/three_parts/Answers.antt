-- A line of more than three parts.
use Rattle.std.proofs.Common.{ap, length, arith}
use Rattle.std.specs.Prelude.{◌==◌}
use Rattle.byte_tables.proofs.Cuts.{some_part}
use Rattle.head_grammar.proofs.request_line.three_parts.Goals as goal

pub returns-in-Some-clause-others : goal.returns-in-Some-clause-others
returns-in-Some-clause-others c = λ three.
    let first = c.in_ok-method.ensures.cut in
    let second = c.in_ok-target.ensures.cut in
    let third = c.in-Some.ensures.cut in
    let more = some_part (λ b. b == 32) c.in-Some.field-0.1.now in
    omega (arith, ap length first, ap length second, ap length third)
