-- The map has the places of the fields so far, to which the others are added.
use Rattle.std.proofs.Common.{◌≡◌}
use Rattle.head_grammar.specs.Combining.{ArePlaces}
use Rattle.head_grammar.specs.FieldLines as spec
use Rattle.head_grammar.proofs.Rests.{all_added}
use Rattle.head_grammar.proofs.field_lines.combined_copies.Given as goal

abbrev pub invariant-loop-name : goal.invariant-loop-name
invariant-loop-name l = record {
  places : ArePlaces l.places l.combined.items;
  same : all_added l.combined.items l.name-iterator ≡ spec.combined l.fn.fields;
}
