-- The kinds of proxy headers, and lists of them.
use Rattle.std.specs.Prelude.{ℕ, Bool, true, false, List, [], ◌∷◌}
use Rattle.std.specs.List.{list_any}
use Rattle.std.specs.Str.{bytes_eq}
use Rattle.outside.specs.declared.types.Kind.{Kind}
use Rattle.outside.specs.declared.types.Kind.TheVariants.{Forwarded, For, Host, Proto, Port, By}
use Rattle.outside.specs.Kinds.{kind_name}

-- whether a name is one of these six
abbrev pub is_proxy_name : List ℕ → Bool
is_proxy_name name =
    list_any (λ kind. bytes_eq name (kind_name kind))
    (Forwarded ∷ For ∷ Host ∷ Proto ∷ Port ∷ By ∷ [])

abbrev pub is_kind : Kind → Kind → Bool
is_kind Forwarded Forwarded = true
is_kind For For = true
is_kind Host Host = true
is_kind Proto Proto = true
is_kind Port Port = true
is_kind By By = true
is_kind _ _ = false

-- whether a kind stands in the list
abbrev pub is_listed : Kind → List Kind → Bool
is_listed kind kinds = list_any (λ k. is_kind k kind) kinds
