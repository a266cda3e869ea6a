use Rattle.rehearse.proofs.ClosingUnits as closing
use Rattle.rehearse.proofs.laws.inputs_close.Goals as goal

pub returns : goal.returns
returns c = λ limits x connection some few bytes. closing.input_closes
    (record { settled = c.one_end.ensures.settled; follows = c.units_follow.ensures })
    limits some connection few x bytes
