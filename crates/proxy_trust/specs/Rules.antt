-- Whose headers are believed, and which of them.
use Rattle.std.specs.Prelude.{◌≡◌, ◌≤◌, ℕ, Bool, false, List, Option, None, Some, codes, ◌&&◌, ◌||◌}
use Rattle.std.specs.Prelude.{if◌then◌else◌}
use Rattle.std.specs.Str.{bytes_eq}
use Rattle.head_grammar.specs.FieldLines.{field_value}
use Rattle.head_grammar.specs.declared.types.Field.{Field}
use Rattle.outside.specs.declared.types.Kind.{Kind}
use Rattle.outside.specs.declared.types.Kind.TheVariants.{Forwarded}
use Rattle.outside.specs.declared.types.Peer.{Peer}
use Rattle.outside.specs.Kinds.{kind_name}
use Rattle.proxy_trust.specs.Headers.{is_listed}
use Rattle.proxy_trust.specs.declared.types.ProxyRules.{ProxyRules}

-- at least one proxy counts, and `Forwarded` is not believed yet
pub record IsSound (rules : ProxyRules) : Type 0 where
  pub count : 1 ≤ rules.count
  pub kinds : is_listed Forwarded rules.kinds ≡ false

-- whether this address is that of a trusted proxy: `*` is every address
abbrev pub is_proxy : Option (List ℕ) → List ℕ → Bool
is_proxy None address = false
is_proxy (Some proxy) address = bytes_eq proxy (codes "*") || bytes_eq proxy address

-- the value of a header that is believed, where there is one: that of its first field
abbrev pub used : ProxyRules → Peer → List Field → Kind → Option (List ℕ)
used rules peer fields kind =
    if is_proxy rules.proxy peer.addr && is_listed kind rules.kinds
    then field_value (kind_name kind) fields
    else None
