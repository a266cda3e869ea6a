use Rattle.std.proofs.Common.{◌≡◌, length, ap, arith, ◌∙◌}
use Rattle.head_grammar.specs.Ends.{head_end}
use Rattle.request_stream.proofs.whole.start.Goals as goal

pub returns-clause-sound : goal.returns-clause-sound
returns-clause-sound g c = λ limits h. record {
  none = ap head_end c.new.ensures.items ∙ c.one_end.ensures.empty;
  short = let e : length c.new.result.items ≡ 0 = ap length c.new.ensures.items in omega arith;
}
