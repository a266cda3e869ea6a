-- What the field lines of a head say (RFC 9112, section 5).
use Rattle.std.specs.Prelude.{ℕ, Bool, true, false, not, ◌&&◌, ◌==◌, ◌+◌, nat_lt, List, [], ◌∷◌}
use Rattle.std.specs.Prelude.{◌++◌, length, take, drop, map, filter, codes, position, Option, None}
use Rattle.std.specs.Prelude.{Some, find, option_map, Result, Ok, Err, if◌then◌else◌}
use Rattle.std.specs.List.{list_all, list_any, flat_map}
use Rattle.std.specs.Char.{to_ascii_lowercase}
use Rattle.std.specs.Str.{bytes_eq}
use Rattle.byte_tables.specs.Classes.{is_field, is_token}
use Rattle.byte_tables.specs.declared.refusal.Refusal.{Refusal}
use Rattle.byte_tables.specs.declared.refusal.Refusal.TheVariants as refusal
use Rattle.byte_tables.specs.Classes.{is_white_space}
use Rattle.head_grammar.specs.Classes.{trimmed, without_space_in_front}
use Rattle.head_grammar.specs.declared.types.Field.{Field}

-- obs-fold (section 5.2): a line that begins with white space continues the line before it
abbrev pub continues : List ℕ → Bool
continues [] = false
continues (b ∷ bs) = is_white_space b

-- whether the first of these lines continues the line in front of them
abbrev pub first_continues : List (List ℕ) → Bool
first_continues [] = false
first_continues (line ∷ rest) = continues line

-- its white space in front is one SP
abbrev pub with_one_space : List ℕ → List ℕ
with_one_space line = if continues line then 32 ∷ without_space_in_front line else line

-- a line in front of those behind it, joined to the first of them or not
abbrev pub onto_lines : Bool → List ℕ → List (List ℕ) → List (List ℕ)
onto_lines true line (next ∷ rest) = (line ++ next) ∷ rest
onto_lines true line [] = line ∷ []
onto_lines false line rest = line ∷ rest

-- The lines with what continues them. Nothing stands before the first one for it to continue; where
-- it begins with white space it stays so, and no name does.
unfoldable pub unfolded : List (List ℕ) → List (List ℕ)
unfolded [] = []
unfolded (line ∷ rest) = onto_lines (first_continues rest) (with_one_space line) (unfolded rest)

-- field-name = token
abbrev pub is_name : List ℕ → Bool
is_name name = nat_lt 0 (length name) && list_all is_token name

-- a name in lower case, and a value without the white space at both ends
abbrev pub name_and_value : List ℕ → List ℕ → Result Field Refusal
name_and_value name value =
    if not (is_name name) then Err refusal.FieldLine
    else (if not (list_all is_field value) then Err refusal.FieldValue
    else Ok (record { name = map to_ascii_lowercase name; value = trimmed value }))

-- a line that is cut at the place of its first colon
abbrev pub cut_at : List ℕ → Option ℕ → Result Field Refusal
cut_at line None = Err refusal.FieldLine
cut_at line (Some n) = name_and_value (take n line) (drop (n + 1) line)

-- field-name ":" OWS field-value OWS
abbrev pub field_line : List ℕ → Result Field Refusal
field_line line = cut_at line (position (λ b. b == 58) line)

-- a field in front of the others
abbrev pub onto_fields : Result Field Refusal → Result (List Field) Refusal →
    Result (List Field) Refusal
onto_fields (Err refusal) rest = Err refusal
onto_fields (Ok field) (Err refusal) = Err refusal
onto_fields (Ok field) (Ok rest) = Ok (field ∷ rest)

-- the fields of the lines, in order, or the refusal of the first bad line
abbrev pub field_lines : List (List ℕ) → Result (List Field) Refusal
field_lines [] = Ok []
field_lines (line ∷ rest) = onto_fields (field_line line) (field_lines rest)

abbrev pub has_name : List ℕ → Field → Bool
has_name name field = bytes_eq name field.name

-- A name with an underscore is dropped: in an environ it could not be told from one with a hyphen.
abbrev pub is_kept : Field → Bool
is_kept field = not (list_any (λ b. b == 95) field.name)

abbrev pub kept : List Field → List Field
kept fields = filter is_kept fields

-- the values of fields, each behind a comma (RFC 9110, section 5.3)
abbrev pub further_values : List Field → List ℕ
further_values fields = flat_map (λ field. codes ", " ++ field.value) fields

-- a field with the values of those behind it that have its name
abbrev pub with_further : Field → List Field → Field
with_further field rest = record {
  name = field.name;
  value = field.value ++ further_values (filter (λ other. has_name field.name other) rest);
}

-- whether no two fields have equal names
abbrev pub names_differ : List Field → Bool
names_differ [] = true
names_differ (field ∷ rest) = not (list_any (λ other. has_name field.name other) rest)
    && names_differ rest

-- a name that comes again adds its values to the first field of that name (RFC 9110, section 5.2)
abbrev pub combined : List Field → List Field
combined [] = []
combined (field ∷ rest) =
    with_further field rest ∷ filter (λ other. not (has_name field.name other)) (combined rest)

abbrev pub kept_of : Result (List Field) Refusal → Result (List Field) Refusal
kept_of (Err refusal) = Err refusal
kept_of (Ok fields) = Ok (kept fields)

abbrev pub combined_of : Result (List Field) Refusal → Result (List Field) Refusal
combined_of (Err refusal) = Err refusal
combined_of (Ok fields) = Ok (combined fields)

-- the fields of the lines with what continues them, but for those that are dropped
unfoldable pub kept_fields : List (List ℕ) → Result (List Field) Refusal
kept_fields lines = kept_of (field_lines (unfolded lines))

-- what the field lines of a head say together, or the refusal of the first bad one
unfoldable pub fields_of : List (List ℕ) → Result (List Field) Refusal
fields_of lines = combined_of (kept_fields lines)

-- the value of the field with this name
abbrev pub field_value : List ℕ → List Field → Option (List ℕ)
field_value name fields = option_map (λ field. field.value)
    (find (λ field. has_name name field) fields)
