-- The rows of tables of cases.
use Rattle.std.specs.Prelude.{ℕ, Bool, List, map, take}
use Rattle.std.specs.Str.{bytes_eq, str_eq_ignore_ascii_case}
use Rattle.byte_tables.specs.declared.cases.Case.{Case}

-- a row's name: the first `len` bytes of its text
abbrev pub name_of : Case → List ℕ
name_of case = take case.len case.text

-- what a row says: its name and its value
abbrev pub row_of : Case → List ℕ × ℕ
row_of case = (name_of case, case.value)

-- what a table says, row by row
abbrev pub rows_of : List Case → List (List ℕ × ℕ)
rows_of table = map row_of table

-- whether a row has this name
abbrev pub has_name : List ℕ → List ℕ × ℕ → Bool
has_name name row = bytes_eq row.0 name

-- the same, ASCII letters being compared without case
abbrev pub has_name_folded : List ℕ → List ℕ × ℕ → Bool
has_name_folded name row = str_eq_ignore_ascii_case row.0 name
