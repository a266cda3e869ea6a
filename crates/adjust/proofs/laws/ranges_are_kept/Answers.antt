use Rattle.adjust.proofs.Commands.{command_ranges}
use Rattle.adjust.proofs.laws.ranges_are_kept.Goals as goal

pub returns : goal.returns
returns c = λ words. command_ranges words
