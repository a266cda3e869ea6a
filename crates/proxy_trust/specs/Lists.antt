-- Values that are lists, to which each proxy adds a part behind the others (RFC 7239, section 7.1).
-- They are read more strictly than RFC 9110 asks for: its section 5.6.1 has empty parts ignored,
-- and here a list with one is malformed.
use Rattle.std.specs.Prelude.{ℕ, Bool, ◌==◌, ◌-◌, List, [], ◌∷◌, length, drop, map, codes, Option}
use Rattle.std.specs.Prelude.{None, Some, option_and_then, if◌then◌else◌}
use Rattle.std.specs.List.{list_any, slice_split, join_by}
use Rattle.head_grammar.specs.Classes.{trimmed}
use Rattle.proxy_trust.specs.declared.lists.LastParts.{LastParts}

-- the parts between the commas
abbrev pub parts : List ℕ → List (List ℕ)
parts value = map trimmed (slice_split (λ b. b == 44) value)

abbrev pub is_empty : List ℕ → Bool
is_empty part = length part == 0

-- the last `count` parts, or all where there are fewer; none where a part of the list is empty
abbrev pub last_of : ℕ → List (List ℕ) → Option (List (List ℕ))
last_of count parts =
    if list_any is_empty parts then None else Some (drop (length parts - count) parts)

-- what those parts say as a list of their own
abbrev pub joined : List (List ℕ) → List ℕ
joined parts = join_by (λ part. part) (codes ", ") parts

-- a list as it is kept, and its first part: the one that is chosen
pub record Listed : Type 0 where
  pub kept : List ℕ
  pub chosen : List ℕ

-- the same, where the part stands behind a reference
abbrev pub seen : LastParts → Listed
seen last = record { kept = last.kept; chosen = last.chosen.now }

-- those of the parts that count; at least one proxy counts, so there is one
abbrev pub listed_of : List (List ℕ) → Option Listed
listed_of [] = None
listed_of (part ∷ rest) = Some (record { kept = joined (part ∷ rest); chosen = part })

-- those of a list, or none where a part of it is empty
abbrev pub listed : ℕ → List ℕ → Option Listed
listed count value = option_and_then listed_of (last_of count (parts value))
