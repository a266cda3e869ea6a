-- The numbers that the left end added, those that the right end took, and what is left.
use Rattle.std.specs.Prelude.{◌≡◌, ℕ, Bool, true, false, List, [], ◌∷◌, ◌++◌, Option, Some, None}
use mathlib.Core.List.{IsPrefix}
use Rattle.turn_gate.specs.Ends.{End, MakesTurn}
use Rattle.test_gate.specs.declared.pact.Row.{Row}
use Rattle.test_gate.specs.declared.pact.Added.{Added}
use Rattle.test_gate.specs.declared.pact.Taken.{Taken}

abbrev pub one_or_none : Option ℕ → List ℕ
one_or_none None = []
one_or_none (Some x) = x ∷ []

-- all that was added, in order
abbrev pub added : List Added → List ℕ
added [] = []
added (e ∷ es) = one_or_none e.number.value ++ added es

-- all that was taken, in order
abbrev pub taken : List Taken → List ℕ
taken [] = []
taken (e ∷ es) = e.numbers.value.items ++ taken es

-- what was taken and what is left is what was added
pub record IsInOrder (s : Row) (left : List Added) (right : List Taken) : Type 0 where
  pub whole : taken right ++ s.items.items ≡ added left

abbrev pub number_if : Bool → ℕ → Option ℕ
number_if true n = Some n
number_if false n = None

-- one turn, which added the number if there was memory
pub record Adds (old new : End Added Taken ℕ) (number : ℕ) (room : Bool) : Type 0 where
  pub entry : Added
  pub number_is : entry.number.value ≡ number_if room number
  pub turn : MakesTurn old new entry

-- one turn, which took all numbers that were there
pub record Takes (old new : End Taken Added ℕ) (numbers : List ℕ) : Type 0 where
  pub entry : Taken
  pub numbers_are : entry.numbers.value.items ≡ numbers
  pub own : new.own ≡ old.own ++ entry ∷ []
  pub found : IsPrefix old.found new.found
  pub has : new.has ≡ false
  pub all : taken new.own ≡ added new.found
