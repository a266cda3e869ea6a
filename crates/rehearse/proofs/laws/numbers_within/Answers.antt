use Rattle.rehearse.proofs.Numbers as numbers
use Rattle.rehearse.proofs.laws.numbers_within.Goals as goal

pub returns : goal.returns
returns c = λ limit whole whole' waiting channels few less counted.
    numbers.numbers_within limit whole whole' waiting channels few less counted
