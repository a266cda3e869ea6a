use Rattle.std.proofs.Common.{◌≡◌, ◌<◌, ℕ, map, slice_index_or}
use Rattle.outside.specs.Net.{asked_of}
use Rattle.outside.specs.declared.types.Want.{Want}
use Rattle.outside.proofs.answers.answer_all.Given as goal

abbrev pub invariant-loop-want : goal.invariant-loop-want
invariant-loop-want g l = record {
  asked : map asked_of l.want-items ≡ map asked_of l.initial.want-items;
  met : (k : ℕ) → k < l.want-index → (d : Want) → g.A.Answers.met (slice_index_or l.want-items k d);
}
