-- The fields so far were added.
use Rattle.std.proofs.Common.{◌≡◌, take}
use Rattle.head_grammar.proofs.field_list.FieldList.of.Given as goal

abbrev pub invariant-loop-field : goal.invariant-loop-field
invariant-loop-field l = record {
  added : l.list ≡ take l.field-index l.fields;
}
