-- The head of a response: a status line and field lines (RFC 9112, sections 4 and 5).
use Rattle.std.specs.Prelude.{ℕ, List, [], ◌∷◌, ◌++◌, map, codes, ◌==◌, if◌then◌else◌}
use Rattle.std.specs.Char.{to_ascii_lowercase, to_ascii_uppercase}
use Rattle.std.specs.Cmp.Lexicographic.{slice_cmp}
use Rattle.std.specs.List.{flat_map, join_with_byte, slice_split}
use Rattle.std.specs.Ordering.{is_lt, nat_cmp}
use Rattle.head_grammar.specs.Classes.{trimmed}
use Rattle.head_grammar.specs.declared.types.Field.{Field}
use Rattle.head_grammar.specs.declared.types.Version.{Version}
use Rattle.head_grammar.specs.declared.types.Version.TheVariants.{Old, New}

abbrev pub crlf : List ℕ
crlf = codes "\r\n"

abbrev pub version_text : Version → List ℕ
version_text Old = codes "HTTP/1.0"
version_text New = codes "HTTP/1.1"

-- status-line = HTTP-version SP status-code SP [ reason-phrase ], where a status is all behind the
-- first SP (section 4)
abbrev pub status_line : Version → List ℕ → List ℕ
status_line version status = version_text version ++ codes " " ++ status ++ crlf

-- field-line = field-name ":" OWS field-value OWS, with one SP in front of the value (section 5)
abbrev pub field_line : Field → List ℕ
field_line field = field.name ++ codes ": " ++ field.value ++ crlf

-- a head ends with an empty line
abbrev pub head_text : Version → List ℕ → List Field → List ℕ
head_text version status fields = status_line version status ++ flat_map field_line fields ++ crlf

-- a part of a name: its first byte raised, where it is a letter, and the others lowered
abbrev pub title : List ℕ → List ℕ
title [] = []
title (b ∷ bs) = to_ascii_uppercase b ∷ map to_ascii_lowercase bs

-- a name with each part between hyphens in that form, as `Content-Type`
unfoldable pub recased : List ℕ → List ℕ
recased name = join_with_byte 45 (map title (slice_split (λ b. b == 45) name))

abbrev pub recased_field : Field → Field
recased_field field = record { name = recased field.name; value = field.value }

abbrev pub trimmed_field : Field → Field
trimmed_field field = record { name = field.name; value = trimmed field.value }

-- a field as it is written: its name in that form, its value without the white space at both ends
abbrev pub written : Field → Field
written field = record { name = recased field.name; value = trimmed field.value }

-- a field, in front of the first one whose name is not below its own
abbrev pub with_field : Field → List Field → List Field
with_field field [] = field ∷ []
with_field field (first ∷ rest) =
    if is_lt (slice_cmp nat_cmp first.name field.name) then first ∷ with_field field rest
    else field ∷ first ∷ rest

-- fields sorted by their names as bytes, where equal names keep their order
unfoldable pub sorted_by_name : List Field → List Field
sorted_by_name [] = []
sorted_by_name (field ∷ fields) = with_field field (sorted_by_name fields)
