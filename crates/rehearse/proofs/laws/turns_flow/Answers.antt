use Rattle.rehearse.proofs.Courses as courses
use Rattle.rehearse.proofs.laws.turns_flow.Goals as goal

pub returns : goal.returns
returns g c = λ connections old new before now was is turn a.
    courses.turns_flow _ _ connections old new before now was is turn a
