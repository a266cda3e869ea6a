-- What a table answers.
use Rattle.std.specs.Prelude.{ℕ, Bool, true, false, ◌&&◌, ◌||◌, List, [], ◌∷◌, ◌++◌, map, find}
use Rattle.std.specs.Prelude.{codes, Option, None, Some, if◌then◌else◌}
use Rattle.std.specs.Option.{option_map_or}
use Rattle.std.specs.Str.{bytes_eq}
use Rattle.head_grammar.specs.declared.types.Field.{Field}
use Rattle.wsgi.specs.declared.step.Step.{Step}
use Rattle.wsgi.specs.declared.step.Step.TheVariants.{Start, Piece, Whole, Fail}
use Rattle.apps.specs.Answers.{length_field, not_found}
use Rattle.apps.specs.Variables.{variable}
use Rattle.apps.specs.declared.row.Row.{Row}

-- the field of a declared length, if there is one
abbrev pub length_fields : Option ℕ → List Field
length_fields None = []
length_fields (Some n) = length_field n ∷ []

-- the fields of a row's Start, the declared length behind the others
abbrev pub start_fields : Row → List Field
start_fields row = row.fields ++ length_fields row.length

abbrev pub body_step : Bool → List ℕ → Step
body_step true piece = Whole piece
body_step false piece = Piece piece

abbrev pub failure : Bool → List Step
failure fail = if fail then Fail ∷ [] else []

-- what stands behind the Start
abbrev pub behind_start : Row → List Step
behind_start row = map (body_step row.whole) row.pieces ++ failure row.fail

abbrev pub row_script : Row → List Step
row_script row = Start row.status (start_fields row) false ∷ behind_start row

-- a row answers the requests of its path and method, and one of GET those of HEAD too (RFC 9110,
-- section 9.3.2)
abbrev pub answers : List ℕ → List ℕ → Row → Bool
answers method path row =
    bytes_eq row.path path
    && (bytes_eq row.method method || bytes_eq row.method (codes "GET") && bytes_eq method
    (codes "HEAD"))

-- the steps of a row, or of a response where there is none
abbrev pub script_for : Option Row → List Step
script_for row = option_map_or row_script row not_found

-- the first row that answers the request does
abbrev pub table_script : List Row → List (List ℕ × List ℕ) → List ℕ → List Step
table_script rows environ _ =
    script_for (find (answers (variable (codes "REQUEST_METHOD") environ)
    (variable (codes "PATH_INFO") environ)) rows)
