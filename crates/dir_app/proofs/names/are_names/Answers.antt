-- An empty part in front of a slash ends the path.
use Rattle.std.proofs.Common.{◌∙◌, sym, ◌≡◌, length, arith}
use Rattle.std.specs.List.{slice_split}
use Rattle.byte_tables.proofs.Cuts.{some_part}
use Rattle.dir_app.specs.Names.{is_slash}
use Rattle.dir_app.proofs.NameLemmas.{empty_part_ends}
use Rattle.dir_app.proofs.names.are_names.Goals as goal

pub returns-then-is_empty : goal.returns-then-is_empty
returns-then-is_empty c =
    let none : length c.in-Some.part.now ≡ 0 = grind (arith, c.is_empty.ensures, c.if-is_empty.true)
    in
    sym (c.loop-part.invariant ∙ empty_part_ends (slice_split is_slash c.loop-part.rest.now)
    c.in-Some.part.now (slice_split is_slash c.in-Some.behind.now)
    c.in-Some.ensures.parts (some_part is_slash c.in-Some.behind.now) none)
