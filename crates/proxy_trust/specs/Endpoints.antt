-- An address with an optional port, as proxies tell it: a node of RFC 7239, section 6, but looser.
-- An address is any bytes of an obfnode and ":", with brackets or, as section 7.4 has IPv6
-- addresses in X-Forwarded-For, without them.
use Rattle.std.specs.Prelude.{ℕ, Bool, ◌==◌, ◌&&◌, ◌||◌, ◌+◌, nat_le, nat_lt, List, [], ◌∷◌, length}
use Rattle.std.specs.Prelude.{take, drop, codes, Option, None, Some, option_and_then, option_map}
use Rattle.std.specs.Prelude.{position, if◌then◌else◌}
use Rattle.std.specs.List.{list_all, list_any}
use Rattle.std.specs.Str.Parse.{digits_value}
use Rattle.byte_tables.specs.Classes.{is_between, is_digit, is_letter}
use Rattle.byte_tables.specs.Numbers.{is_number}
use Rattle.proxy_trust.specs.declared.endpoint.Endpoint.{Endpoint}

-- a letter, a digit, or one of "." ":" "-" and "_"
abbrev pub is_address_byte : ℕ → Bool
is_address_byte b = is_letter b || is_digit b || list_any (λ c. b == c) (codes ".:-_")

abbrev pub is_address : List ℕ → Bool
is_address bytes = nat_lt 0 (length bytes) && list_all is_address_byte bytes

-- port = 1*5DIGIT, where the number is neither 0 nor above 65535
abbrev pub is_port : List ℕ → Bool
is_port bytes =
    nat_le (length bytes) 5 && is_number bytes && is_between 1 65535 (digits_value 10 bytes)

abbrev pub only_address : List ℕ → Option Endpoint
only_address address =
    if is_address address then Some (record { address = address; port = None }) else None

abbrev pub with_port : List ℕ → List ℕ → Option Endpoint
with_port address port =
    if is_address address && is_port port
    then Some (record { address = address; port = Some port })
    else None

-- an address in brackets, and what stands behind them: nothing, or a colon and a port
abbrev pub behind_brackets : List ℕ → List ℕ → Option Endpoint
behind_brackets address [] = only_address address
behind_brackets address (b ∷ port) = if b == 58 then with_port address port else None

-- what stands before and behind the first byte that is `b`
abbrev pub cut : ℕ → List ℕ → Option (List ℕ × List ℕ)
cut b bytes = option_map (λ n. (take n bytes, drop (n + 1) bytes)) (position (λ c. c == b) bytes)

-- what stands behind an opening bracket
abbrev pub bracketed : List ℕ → Option Endpoint
bracketed bytes = option_and_then (λ cut. behind_brackets cut.0 cut.1) (cut 93 bytes)

-- a part that is cut at its first colon; with another one it is an address alone
abbrev pub bare_cut : List ℕ → Option (List ℕ × List ℕ) → Option Endpoint
bare_cut part None = only_address part
bare_cut part (Some cut) =
    if list_any (λ b. b == 58) cut.1 then only_address part else with_port cut.0 cut.1

-- a part without brackets
abbrev pub bare : List ℕ → Option Endpoint
bare part = bare_cut part (cut 58 part)

-- what a part of a list says; none where it has not this form
abbrev pub endpoint : List ℕ → Option Endpoint
endpoint [] = None
endpoint (b ∷ bytes) = if b == 91 then bracketed bytes else bare (b ∷ bytes)
