-- Internal: a line as it was sent, or joined with those that continue it.
use Rattle.std.specs.Prelude.{ℕ, List}
use Rattle.head_grammar.specs.declared.whole_line.WholeLine.{WholeLine}
use Rattle.head_grammar.specs.declared.whole_line.WholeLine.TheVariants.{Sent, Joined}

abbrev pub bytes_of : WholeLine → List ℕ
bytes_of (Sent line) = line.now
bytes_of (Joined line) = line.items
