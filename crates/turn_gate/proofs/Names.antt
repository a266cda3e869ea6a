-- The types of a gate's table.
use Rattle.std.proofs.Common.{List, Option}
use mathlib.Core.Option as maybe
use Rattle.atomic_table.specs.Table.{State, Me}
use Rattle.turn_gate.specs.declared.board.Shelf.{Shelf}
use Rattle.turn_gate.specs.declared.board.View.{View}

-- what a slot has
abbrev pub Slot : Type 0 → Type 0 → Type 0 → Type 0
Slot S L R = Option (Shelf S L R)

-- the slots of a table, but for those that are out
abbrev pub Homes : Type 0 → Type 0 → Type 0 → Type 0
Homes S L R = List (maybe.Option (Slot S L R))

abbrev pub GateState : Type 0 → Type 0 → Type 0 → Type 0 → Type 0
GateState S L R F = State (Slot S L R) (View L R F)

-- what an end knows, and the slots that are out with it
abbrev pub Knows : Type 0 → Type 0 → Type 0 → Type 0 → Type 0
Knows S L R F = Me (Slot S L R) (View L R F)
