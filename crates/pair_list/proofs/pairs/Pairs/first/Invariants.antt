-- None of the pairs before has the name.
use Rattle.std.proofs.Common.{◌≡◌}
use Rattle.pair_list.specs.Firsts.{first_value}
use Rattle.pair_list.proofs.pairs.Pairs.first.Given as goal

abbrev pub invariant-loop-other : goal.invariant-loop-other
invariant-loop-other l = record {
  same : first_value l.name l.other-iterator ≡ first_value l.name l.self;
}
