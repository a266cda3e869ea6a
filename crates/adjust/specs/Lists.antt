-- Values that are lists: addresses to listen at, and kinds of proxy headers.
use Rattle.std.specs.Prelude.{ℕ, Bool, true, false, ◌&&◌, ◌||◌, ◌==◌, ◌+◌, nat_le, nat_lt, List, []}
use Rattle.std.specs.Prelude.{◌∷◌, length, map, take, codes, Option, None, Some, is_some}
use Rattle.std.specs.Prelude.{option_map, option_and_then, if◌then◌else◌}
use Rattle.std.specs.List.{after_last, before_last, filter, filter_map, list_all, list_any}
use Rattle.std.specs.List.{prefix_len, slice_split}
use Rattle.std.specs.Borrow.{Bor}
use Rattle.std.specs.Str.{str_eq_ignore_ascii_case}
use Rattle.outside.specs.declared.types.Kind.{Kind}
use Rattle.outside.specs.declared.types.Kind.TheVariants.{For, Host, Proto, Port, By}
use Rattle.outside.specs.declared.types.Listen.{Listen}
use Rattle.adjust.specs.Values.{host, number}

-- entries stand between spaces, and kinds between spaces or commas
abbrev pub is_separator : Bool → ℕ → Bool
is_separator commas b = b == 32 || commas && b == 44

abbrev pub has_bytes : List ℕ → Bool
has_bytes part = nat_lt 0 (length part)

unfoldable pub parts : Bool → List ℕ → List (List ℕ)
parts commas text = filter has_bytes (slice_split (is_separator commas) text)

-- a part in front of others, if it has bytes
abbrev pub onto_parts : List ℕ → List (List ℕ) → List (List ℕ)
onto_parts part rest = if has_bytes part then part ∷ rest else rest

-- ---- addresses

abbrev pub as_port : ℕ → Option ℕ
as_port n = if nat_le 1 n && nat_le n 65535 then Some n else None

-- a port of one to five digits
unfoldable pub port : List ℕ → Option ℕ
port text = if nat_le (length text) 5 then option_and_then as_port (number text) else None

abbrev pub listen_at : List ℕ → ℕ → Listen
listen_at host port = record { host = host; port = port }

abbrev pub entry_of : Option (List ℕ) → Option ℕ → Option Listen
entry_of host port = option_and_then (λ h. option_map (listen_at h) port) host

abbrev pub is_colon : ℕ → Bool
is_colon b = b == 58

-- a host, a colon and a port, which the last colon divides
unfoldable pub entry : List ℕ → Option Listen
entry text = entry_of (host (before_last is_colon text)) (port (after_last is_colon text))

abbrev pub is_entry : List ℕ → Bool
is_entry text = is_some (entry text)

-- how many good entries stand in front, up to 16
abbrev pub good_entries : List (List ℕ) → ℕ
good_entries entries = prefix_len is_entry (take 16 entries)

-- the number, from 1, of the entry that is bad or too many; where there is none at all the first
-- one is bad
unfoldable pub bad_entry : List (List ℕ) → Option ℕ
bad_entry entries =
    if nat_lt (good_entries entries) (length entries) || length entries == 0
    then Some (good_entries entries + 1) else None

-- the addresses of the entries
unfoldable pub listen_of : List ℕ → List Listen
listen_of text = filter_map entry (parts false text)

-- ---- kinds

-- the names of the kinds
unfoldable pub kind_rows : List (List ℕ × Kind)
kind_rows =
    (codes "x-forwarded-for", For)
    ∷ (codes "x-forwarded-host", Host)
    ∷ (codes "x-forwarded-proto", Proto)
    ∷ (codes "x-forwarded-port", Port)
    ∷ (codes "x-forwarded-by", By)
    ∷ []

abbrev pub kind_row : Bor (List ℕ) × Kind → List ℕ × Kind
kind_row row = (row.0.now, row.1)

-- ASCII letters are compared without case
abbrev pub is_name : List ℕ → List ℕ → Bool
is_name part name = str_eq_ignore_ascii_case name part

abbrev pub is_kind : List ℕ → Bool
is_kind part = list_any (λ row. is_name part row.0) kind_rows

unfoldable pub are_kinds : List ℕ → Bool
are_kinds text = nat_lt 0 (length (parts true text)) && list_all is_kind (parts true text)

abbrev pub is_among : List (List ℕ) → List ℕ → Bool
is_among named name = list_any (λ part. is_name part name) named

-- the kinds that the text names, in their own order
unfoldable pub kinds : List ℕ → List Kind
kinds text = map (λ row. row.1) (filter (λ row. is_among (parts true text) row.0) kind_rows)
