-- The row that a table of the file writes (TOML, 'Table', 'Array of Tables').
use Rattle.std.specs.Prelude.{ℕ, pos, Bool, true, false, not, ◌&&◌, ◌||◌, ◌==◌, List, [], ◌∷◌}
use Rattle.std.specs.Prelude.{length, slice_index, codes, Option, None, Some, option_map}
use Rattle.std.specs.Prelude.{option_and_then, if◌then◌else◌}
use Rattle.std.specs.List.{list_any}
use Rattle.std.specs.Str.{bytes_eq}
use Rattle.toml.specs.Data.{Data, string, integer, boolean, array, table, Items, no_items, item}
use Rattle.toml.specs.Data.{Members, no_members, member, get_member}
use Rattle.head_grammar.specs.declared.types.Field.{Field}
use Rattle.apps.specs.declared.row.Row.{Row}

infixl 10 ◌>>=◌
abbrev pub ◌>>=◌ : {A B : Type 0} → Option A → (A → Option B) → Option B
o >>= f = option_and_then f o

-- ---- values, each None where it is of another type

abbrev pub text : Data → Option (List ℕ)
text (string s) = Some s
text _ = None

abbrev pub truth : Data → Option Bool
truth (boolean b) = Some b
truth _ = None

-- a whole number of at least 0
abbrev pub count : Data → Option ℕ
count (integer (pos n)) = Some n
count _ = None

abbrev pub table_in : Data → Option Members
table_in (table ms) = Some ms
table_in _ = None

-- what is read of each item of a list
abbrev pub each : {A : Type 0} → (Data → Option A) → Items → Option (List A)
each read no_items = Some []
each read (item d ds) = read d >>= (λ first. option_map (λ rest. first ∷ rest) (each read ds))

abbrev pub list_of : {A : Type 0} → (Data → Option A) → Data → Option (List A)
list_of read (array ds) = each read ds
list_of read _ = None

-- a field of a head is a list of two texts
abbrev pub pair : Option (List ℕ) → Option (List ℕ) → Option Field
pair (Some name) (Some value) = Some (record { name = name; value = value })
pair _ _ = None

abbrev pub field_of : Items → Option Field
field_of (item name (item value no_items)) = pair (text name) (text value)
field_of _ = None

abbrev pub field : Data → Option Field
field (array ds) = field_of ds
field _ = None

-- ---- the keys of a row

abbrev pub keys : List (List ℕ)
keys = codes "path" ∷ codes "method" ∷ codes "status" ∷ codes "fields" ∷ codes "pieces" ∷ codes
    "whole" ∷ codes "length" ∷ codes "fail" ∷ []

unfoldable pub is_key : List ℕ → Bool
is_key key = list_any (bytes_eq key) keys

abbrev pub has_keys : Members → Bool
has_keys no_members = true
has_keys (member key d ms) = is_key key && has_keys ms

-- what a key has, or the default where it isn't there
abbrev pub at_or : {A : Type 0} → (Data → Option A) → A → Option Data → Option A
at_or read default None = Some default
at_or read default (Some d) = read d

abbrev pub begins_with_slash : List ℕ → Option (List ℕ)
begins_with_slash s = if slice_index s 0 == 47 then Some s else None

abbrev pub has_bytes : List ℕ → Option (List ℕ)
has_bytes s = if length s == 0 then None else Some s

abbrev pub path_in : Data → Option (List ℕ)
path_in d = text d >>= begins_with_slash

abbrev pub path : Members → Option (List ℕ)
path ms = get_member (codes "path") ms >>= path_in

abbrev pub method_in : Data → Option (List ℕ)
method_in d = text d >>= has_bytes

abbrev pub method : Members → Option (List ℕ)
method ms = at_or method_in (codes "GET") (get_member (codes "method") ms)

abbrev pub status : Members → Option (List ℕ)
status ms = at_or text (codes "200 OK") (get_member (codes "status") ms)

abbrev pub default_fields : List Field
default_fields = record { name = codes "Content-Type"; value = codes "text/plain; charset=utf-8" } ∷
    []

abbrev pub fields : Members → Option (List Field)
fields ms = at_or (list_of field) default_fields (get_member (codes "fields") ms)

abbrev pub pieces : Members → Option (List (List ℕ))
pieces ms = at_or (list_of text) [] (get_member (codes "pieces") ms)

abbrev pub truth_at : List ℕ → Members → Option Bool
truth_at key ms = at_or truth false (get_member key ms)

abbrev pub length_in : Data → Option (Option ℕ)
length_in d = option_map Some (count d)

abbrev pub declared_length : Members → Option (Option ℕ)
declared_length ms = at_or length_in None (get_member (codes "length") ms)

-- ---- the row

-- the row whose values they are, each as its key asks
unfoldable pub values : Members → Option Row
values ms = do
  path ← path ms
  method ← method ms
  status ← status ms
  fields ← fields ms
  pieces ← pieces ms
  whole ← truth_at (codes "whole") ms
  length ← declared_length ms
  fail ← truth_at (codes "fail") ms
  Some (record {
    path = path;
    method = method;
    status = status;
    fields = fields;
    pieces = pieces;
    whole = whole;
    length = length;
    fail = fail;
  })

-- a whole body is one piece
abbrev pub with_its_piece : Row → Option Row
with_its_piece row = if not row.whole || length row.pieces == 1 then Some row else None

-- the row of a table, or None where it is bad
unfoldable pub row_of : Members → Option Row
row_of ms = if has_keys ms then values ms >>= with_its_piece else None
