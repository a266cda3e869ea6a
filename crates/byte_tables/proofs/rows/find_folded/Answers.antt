-- The place among the rows is that among what they say.
use Rattle.std.proofs.Common.{sym, ◌∙◌}
use Rattle.byte_tables.specs.Cases.{row_of, has_name_folded}
use Rattle.byte_tables.proofs.Positions.{position_map}
use Rattle.byte_tables.proofs.rows.find_folded.Goals as goal

pub returns-clause-first : goal.returns-clause-first
returns-clause-first g c =
    c.place_of_folded.ensures.first ∙ sym (position_map (has_name_folded c.args.name.now) row_of
    c.args.table.now)
