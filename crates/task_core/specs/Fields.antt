-- Internal: lines that are borrowed, as fields.
use Rattle.std.specs.Prelude.{List, map}
use Rattle.head_grammar.specs.declared.types.Field.{Field}
use Rattle.task_core.specs.declared.heads.Line.{Line}

abbrev pub field_of : Line → Field
field_of line = record { name = line.name.now; value = line.value.now }

abbrev pub fields_of : List Line → List Field
fields_of lines = map field_of lines
