use Rattle.std.proofs.Common.{sym}
use Rattle.adjust.proofs.Cuts.{parts_cut, parts_whole}
use Rattle.adjust.proofs.parts.cut_part.Goals as goal

pub returns-in-Some-clause-parts : goal.returns-in-Some-clause-parts
returns-in-Some-clause-parts c = parts_cut c.args.commas c.args.text.now c.in-Some.at
    (sym c.in-Some.ensures.place)

pub returns-in-None-clause-parts : goal.returns-in-None-clause-parts
returns-in-None-clause-parts c = parts_whole c.args.commas c.args.text.now
    (sym c.in-None.ensures.place)
