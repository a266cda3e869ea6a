use Rattle.std.proofs.Common.{◌≢◌, ◌<◌, ◌∙◌, length, false, arith, below_more}
use Rattle.std.proofs.Common.{get_or-set_other, get_or-set_same}
use Rattle.std.proofs.Math.Seq.{map-set_same}
use Rattle.outside.specs.Net.{asked_of}
use Rattle.outside.specs.declared.types.Want.{Want}
use Rattle.outside.proofs.answers.answer_all.Goals as goal

pub loop-want-preserved : goal.loop-want-preserved
loop-want-preserved g c =
    let wants = c.loop-want.want-items in
    let at = c.loop-want.want-index in
    let some : Want =
    record { key = 0; read = false; write = false; may_read = false; may_write = false } in
    let within : at < length wants = omega arith in
    record {
      asked = map-set_same asked_of wants at c.answer.new.want some c.answer.ensures.asked
          ∙ c.loop-want.invariant.asked;
      met = below_more _ _
          (λ k before d. let ne : k ≢ at = omega arith in
          rw get_or-set_other (c.loop-want.invariant.met k before d))
          (λ d. rw get_or-set_same c.answer.ensures.met);
    }
