use Rattle.rehearsal.specs.Plans.{send_count}
use Rattle.rehearsal.specs.Requests.{input_of}
use Rattle.std.proofs.Common.{◌%◌, length, refl}
use Rattle.rehearse.proofs.Plans.{unlisted}
use Rattle.rehearse.proofs.laws.plans_are_even.Goals as goal

pub returns : goal.returns
returns c = λ connection few. record {
  goes_on = refl;
  gives = unlisted (length (input_of connection)) (connection % 64);
  takes = unlisted (send_count connection) 49;
  closes = λ limits x some bytes. c.inputs_close.ensures limits x connection some few bytes;
}
