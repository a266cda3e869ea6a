-- Internal: what is read of the file of a table.
use Rattle.std.specs.Prelude.{◌≡◌, ◌≤◌, ◌<◌, ℕ, Bool, IsTrue, List, length, Option, None, Some}
use Rattle.std.specs.Prelude.{IsSomeAnd, Result, Ok, Err}
use Rattle.apps.specs.declared.fault.TableFault.{TableFault}
use Rattle.apps.specs.declared.fault.TableFault.TheVariants.{TooLarge}
use Rattle.apps.specs.declared.row.Row.{Row}
use Rattle.outside.specs.Causes.{Rose}
use Rattle.waitress_serve.specs.Made.{Files, LacksTable, table_at}
use Rattle.waitress_serve.specs.declared.made.Unmade.{Unmade}
use Rattle.waitress_serve.specs.declared.made.Unmade.TheVariants as unmade

-- the bytes of a file, or why it gives none; before and now are the counts of its faults
abbrev pub GivesBytes : Bool → ℕ → ℕ → Option (List ℕ) → Result (List ℕ) Unmade → Type 0
GivesBytes told before now file (Ok bytes) = (now ≡ before) × (IsTrue told → file ≡ Some bytes)
GivesBytes told before now file (Err unmade.NoFile) = (now ≡ before) × (IsTrue told → file ≡ None)
GivesBytes told before now file (Err unmade.Unreadable) = Rose before now
GivesBytes told before now file (Err (unmade.Faulty fault)) = (now ≡ before) × (fault ≡ TooLarge) ×
    (IsTrue told → IsSomeAnd file (λ bytes. 1048576 < length bytes))

-- what is wrong with a file is why its table could not be made
abbrev pub made_of : Result (List Row) TableFault → Result (List Row) Unmade
made_of (Ok rows) = Ok rows
made_of (Err fault) = Err (unmade.Faulty fault)

-- the rows of the file of this name, or why there are none; before and now are the counts of the
-- tree's faults
abbrev pub ReadsTable : Bool → ℕ → ℕ → Files → List ℕ → Result (List Row) Unmade → Type 0
ReadsTable told before now files name (Ok rows) = (now ≡ before)
    × (IsTrue told → table_at files name ≡ Some (Ok rows))
ReadsTable told before now files name (Err why) = (before ≤ now) × LacksTable told before now
    (table_at files name) why
