-- The variables of the fields so far were added.
use Rattle.std.proofs.Common.{◌≡◌, ◌++◌, take}
use Rattle.wsgi.specs.Environ.{field_variables}
use Rattle.wsgi.proofs.of_fields.add_fields.Given as goal

abbrev pub invariant-loop-field : goal.invariant-loop-field
invariant-loop-field l = record {
  added : l.environ ≡ l.fn.environ ++ field_variables (take l.field-index l.fields);
}
