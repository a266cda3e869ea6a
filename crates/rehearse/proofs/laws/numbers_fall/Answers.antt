use Rattle.rehearse.proofs.Numbers as numbers
use Rattle.rehearse.proofs.laws.numbers_fall.Goals as goal

pub returns : goal.returns
returns c = λ bound new old within falls. numbers.numbers_fall bound new old within falls
