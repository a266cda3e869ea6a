-- The names so far, and those of the fields that are left.
use Rattle.std.proofs.Common.{◌≡◌, ◌++◌, map}
use Rattle.head_grammar.proofs.field_lines.names_of.Given as goal

abbrev pub invariant-loop-name : goal.invariant-loop-name
invariant-loop-name l = map (λ name. name.now) l.names.items
    ++ map (λ field. field.name) l.name-iterator ≡ map (λ field. field.name) l.fields
