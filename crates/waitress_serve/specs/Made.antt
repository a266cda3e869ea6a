-- The application that the words name, over some files.
use Rattle.std.specs.Prelude.{◌≡◌, ◌+◌, ℕ, Bool, true, false, not, ◌&&◌, IsTrue, List, ◌++◌, codes}
use Rattle.std.specs.Prelude.{decimal, Option, None, Some, is_some, option_map, Result, Ok, Err}
use Rattle.adjust.specs.declared.types.AppName.{AppName}
use Rattle.adjust.specs.declared.types.AppName.TheVariants as app
use Rattle.adjust.specs.declared.types.Command.TheVariants as command
use Rattle.apps.specs.Echo.{echo_script}
use Rattle.apps.specs.Table.{table_of}
use Rattle.apps.specs.TableScript.{table_script}
use Rattle.apps.specs.declared.fault.TableFault.{TableFault}
use Rattle.apps.specs.declared.fault.TableFault.TheVariants as fault
use Rattle.apps.specs.declared.row.Row.{Row}
use Rattle.channel.specs.Output.{Script}
use Rattle.dir_app.specs.DirScript.{dir_script}
use Rattle.outside.specs.Causes.{Rose}
use Rattle.outside.specs.Tree.{content_of}
use Rattle.waitress_serve.specs.Reading.{Reading}
use Rattle.waitress_serve.specs.declared.made.Unmade.{Unmade}
use Rattle.waitress_serve.specs.declared.made.Unmade.TheVariants as unmade

-- files by name
abbrev pub Files : Type 0
Files = List (List ℕ × List ℕ)

-- the rows of the file of this name, or what is wrong with it, where there is such a file
abbrev pub table_at : Files → List ℕ → Option (Result (List Row) TableFault)
table_at files name = option_map table_of (content_of files name)

-- the rows of a file that is a table
abbrev pub rows_in : Option (Result (List Row) TableFault) → Option (List Row)
rows_in None = None
rows_in (Some (Err fault)) = None
rows_in (Some (Ok rows)) = Some rows

-- the script of an application, where it can be made
abbrev pub script_of : Files → AppName → Option Script
script_of files app.Echo = Some echo_script
script_of files (app.Table file) = option_map table_script (rows_in (table_at files file))
script_of files (app.Dir root) = Some (dir_script files root)

-- Whether the application tells, by whether spills and files do. The echo reads bodies alone, which
-- go through spills.
abbrev pub tells_by : AppName → Bool → Bool → Bool
tells_by app.Echo spills files = spills
tells_by (app.Table file) spills files = files
tells_by (app.Dir root) spills files = files

-- ---- what can be served

-- whether an application can be made, where the tree tells of its files
abbrev pub can_make : Bool → Files → AppName → Bool
can_make told files app.Echo = true
can_make told files (app.Table file) = not (told && not (is_some (rows_in (table_at files file))))
can_make told files (app.Dir root) = true

-- connections can be served: they are asked for, and their application can be made
abbrev pub can_serve : Bool → Files → Reading → Bool
can_serve told files (Ok (command.Serve options app)) = can_make told files app
can_serve told files _ = false

-- a run of the application may fail to read a file
abbrev pub reads_files : Reading → Bool
reads_files (Ok (command.Serve options (app.Dir root))) = true
reads_files _ = false

-- a table is asked for, whose file is read before anything is bound
abbrev pub reads_table : Reading → Bool
reads_table (Ok (command.Serve options (app.Table file))) = true
reads_table _ = false

-- ---- why an application could not be made

-- why a table could not be made, by what its file is; before and now are the counts of the tree's
-- faults
abbrev pub LacksTable : Bool → ℕ → ℕ → Option (Result (List Row) TableFault) → Unmade → Type 0
LacksTable told before now found unmade.NoFile = (now ≡ before) × (IsTrue told → found ≡ None)
LacksTable told before now found unmade.Unreadable = Rose before now
LacksTable told before now found (unmade.Faulty fault) = (now ≡ before) ×
    (IsTrue told → found ≡ Some (Err fault))

-- a table alone can fail to be made
abbrev pub CannotMake : Bool → ℕ → ℕ → Files → Reading → Unmade → Type 0
CannotMake told before now files (Ok (command.Serve options (app.Table file))) why =
    LacksTable told before now (table_at files file) why
CannotMake told before now files _ why = ⊥

abbrev pub fault_reason : TableFault → List ℕ
fault_reason fault.TooLarge = codes "the file is too large"
fault_reason fault.NotToml = codes "the file is not TOML"
fault_reason fault.NotTable = codes "the file is not a table"
fault_reason fault.TooManyRows = codes "too many rows"
fault_reason (fault.BadRow place) = codes "row " ++ (decimal (place + 1) ++ codes " is bad")
fault_reason fault.NoMemory = codes "out of memory"

-- the same in words
abbrev pub reason : Unmade → List ℕ
reason unmade.NoFile = codes "no such file"
reason unmade.Unreadable = codes "the file could not be read"
reason (unmade.Faulty fault) = fault_reason fault
