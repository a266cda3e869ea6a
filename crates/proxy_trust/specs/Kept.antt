-- The fields of a request behind a proxy.
use Rattle.std.specs.Prelude.{ℕ, Bool, ◌&&◌, List, [], ◌∷◌, ◌++◌, codes, find, Option, None, Some}
use Rattle.std.specs.Prelude.{option_map, option_to_list, if◌then◌else◌}
use Rattle.std.specs.List.{position_or_len, remove}
use Rattle.head_grammar.specs.FieldLines.{has_name}
use Rattle.head_grammar.specs.declared.types.Field.{Field}
use Rattle.proxy_trust.specs.Headers.{is_proxy_name}

abbrev pub host_name : List ℕ
host_name = codes "host"

-- a new field, where there is a value for it
abbrev pub new_field : List ℕ → Option (List ℕ) → List Field
new_field name value = option_to_list (option_map (λ value. record { name = name; value = value })
    value)

-- fields without the first one of this name
abbrev pub without : List ℕ → List Field → List Field
without name fields = remove fields (position_or_len (has_name name) fields)

-- a field, or the new one in its place; proxy headers for which there is no new one may be cleared
abbrev pub kept_field : Bool → Field → Option Field → List Field
kept_field clear field (Some new) = new ∷ []
kept_field clear field None = if clear && is_proxy_name field.name then [] else field ∷ []

-- The fields, where each new one stands in place of the first one of its name. A new Host field
-- goes behind them where it finds none.
unfoldable pub kept_fields : Bool → List Field → List Field → List Field
kept_fields clear news [] = option_to_list (find (has_name host_name) news)
kept_fields clear news (field ∷ rest) =
    kept_field clear field (find (has_name field.name) news)
    ++ kept_fields clear (without field.name news) rest
