-- The list of parts is cut at its first place.
use Rattle.std.proofs.Common.{◌∙◌, ◌+◌, ℕ, List, ◌∷◌, ap, sym, take}
use Rattle.std.specs.List.{slice_split}
use Rattle.byte_tables.proofs.Cuts.{cut_none, cut_some, rest_is}
use Rattle.dir_app.specs.Names.{is_slash}
use Rattle.dir_app.proofs.names.cut.Goals as goal

pub returns-in-Some-clause-parts : goal.returns-in-Some-clause-parts
returns-in-Some-clause-parts c =
    cut_some is_slash c.args.text.now c.in-Some.at (sym c.in-Some.ensures.place)
    ∙ ap (λ (xs : List ℕ). take c.in-Some.at c.args.text.now ∷ slice_split is_slash xs)
    (sym (rest_is c.args.text.now (c.in-Some.at + 1)))

pub returns-in-None-clause-whole : goal.returns-in-None-clause-whole
returns-in-None-clause-whole c = cut_none is_slash c.args.text.now (sym c.in-None.ensures.place)
