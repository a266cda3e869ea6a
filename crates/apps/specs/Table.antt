-- The rows of a file, or what is wrong with it.
use Rattle.std.specs.Prelude.{◌≡◌, ◌⊎◌, ℕ, suc, nat_le, List, [], ◌∷◌, length, codes, Option, None}
use Rattle.std.specs.Prelude.{Some, Result, Ok, Err, if◌then◌else◌}
use Rattle.std.specs.Option.{ok_or}
use Rattle.std.specs.Str.{bytes_eq, is_utf8}
use Rattle.toml.specs.Data.{Members, no_members, member}
use Rattle.toml.specs.Parse.{parse_document}
use Rattle.apps.specs.Rows.{list_of, table_in, row_of}
use Rattle.apps.specs.declared.row.Row.{Row}
use Rattle.apps.specs.declared.fault.TableFault.{TableFault}
use Rattle.apps.specs.declared.fault.TableFault.TheVariants as fault

infixl 10 ◌>>=◌
abbrev pub ◌>>=◌ : {A B : Type 0} → Result A TableFault → (A → Result B TableFault) →
    Result B TableFault
(Ok x) >>= f = f x
(Err e) >>= f = Err e

-- the document that bytes write, which is in UTF-8 (TOML, 'Spec')
abbrev pub document : List ℕ → Option Members
document bytes = if is_utf8 bytes then parse_document bytes else None

-- the tables of a document: those of its one key `row`, or none where it has no key
abbrev pub tables_of : Members → Option (List Members)
tables_of no_members = Some []
tables_of (member key d no_members) = if bytes_eq key (codes "row") then list_of table_in d else
    None
tables_of _ = None

-- their rows, or the place of the first that is bad, where the first of these has this place
abbrev pub rows_from : ℕ → List Members → Result (List Row) TableFault
rows_from place [] = Ok []
rows_from place (ms ∷ rest) = do
  first ← ok_or (row_of ms) (fault.BadRow place)
  more ← rows_from (suc place) rest
  Ok (first ∷ more)

abbrev pub few : List Members → Result (List Members) TableFault
few tables = if nat_le (length tables) 1000 then Ok tables else Err fault.TooManyRows

-- the rows that the bytes of a file write, or what is wrong with them
unfoldable pub table_of : List ℕ → Result (List Row) TableFault
table_of bytes = do
  small ← if nat_le (length bytes) 1048576 then Ok bytes else Err fault.TooLarge
  document ← ok_or (document small) fault.NotToml
  tables ← ok_or (tables_of document) fault.NotTable
  some ← few tables
  rows_from 0 some

-- the answer is this one, or memory was refused
abbrev pub IsOrLacksMemory : {A : Type 0} → Result A TableFault → Result A TableFault → Type 0
IsOrLacksMemory answer result = (result ≡ answer) ⊎ (result ≡ Err fault.NoMemory)
