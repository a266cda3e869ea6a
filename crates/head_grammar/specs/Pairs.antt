-- Internal: fields that are kept as pairs of a name and a value.
use Rattle.std.specs.Prelude.{ℕ, List, map}
use Rattle.head_grammar.specs.declared.types.Field.{Field}

abbrev pub field_of : List ℕ → List ℕ → Field
field_of name value = record { name = name; value = value }

abbrev pub fields_of : List (List ℕ × List ℕ) → List Field
fields_of pairs = map (λ pair. field_of pair.0 pair.1) pairs
