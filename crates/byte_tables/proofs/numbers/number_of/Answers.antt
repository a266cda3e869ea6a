-- Where one more digit does not fit, the whole number does not.
use Rattle.std.proofs.Common.{◌<◌, ◌∙◌, sym, subst, arith}
use Rattle.std.specs.Prelude.{SomeIff, ◌^◌}
use Rattle.std.specs.Str.Parse.{digits_value}
use Rattle.byte_tables.proofs.Digits.{number_more, number_whole}
use Rattle.byte_tables.proofs.numbers.number_of.Goals as goal

pub returns-in_err-number : goal.returns-in_err-number
returns-in_err-number c =
    let least = number_whole c.args.digits.now c.loop-digit.digit-index c.loop-digit.number
    c.loop-digit-test.true c.loop-digit.invariant.value in
    let value = digits_value 10 c.args.digits.now in
    record {
      value = subst (λ r. SomeIff r (value < 2 ^ 64) value) (sym c.from_residual.ensures)
          (λ fits. c.in_err-number.ensures (omega arith));
    }

pub loop-digit-preserved : goal.loop-digit-preserved
loop-digit-preserved c = record {
  value = c.in_ok-number.ensures.1 ∙ number_more c.args.digits.now c.loop-digit.digit-index
      c.loop-digit.number c.loop-digit-test.true c.loop-digit.invariant.value;
  fits = let same = c.in_ok-number.ensures.1 in let l = c.in_ok-number.ensures.0 in omega arith;
}
