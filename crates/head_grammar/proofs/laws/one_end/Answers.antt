use Rattle.head_grammar.proofs.EndLaws.{head_end-nil, head_end-within, head_end-four, head_end-cut}
use Rattle.head_grammar.proofs.EndLaws.{head_end-still, head_end-later}
use Rattle.head_grammar.proofs.laws.one_end.Goals as goal

pub returns : goal.returns
returns c = record {
  empty = head_end-nil;
  within = λ bytes n end. (head_end-four bytes n end, head_end-within bytes n end);
  cut = head_end-cut;
  settled = head_end-still;
  later = head_end-later;
}
