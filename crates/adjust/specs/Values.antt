-- What the values of options are read as.
use Rattle.std.specs.Prelude.{ℕ, Bool, false, not, ◌&&◌, ◌||◌, ◌==◌, ◌-◌, nat_lt, List, [], ◌∷◌}
use Rattle.std.specs.Prelude.{length, take, drop, codes, slice_get, Option, None, Some}
use Rattle.std.specs.Prelude.{if◌then◌else◌}
use Rattle.std.specs.List.{list_all, prefix_len, suffix_len}
use Rattle.std.specs.Option.{option_map_or}
use Rattle.std.specs.Str.{bytes_eq}
use Rattle.std.specs.Str.Parse.{digits_value}
use Rattle.byte_tables.specs.Classes.{is_digit, is_field, is_hex, is_letter, is_white_space}
use Rattle.byte_tables.specs.Numbers.{is_number}

-- one or more bytes of a class
abbrev pub is_some_of : (ℕ → Bool) → List ℕ → Bool
is_some_of class text = nat_lt 0 (length text) && list_all class text

abbrev pub begins_with : (ℕ → Bool) → List ℕ → Bool
begins_with class text = option_map_or class (slice_get text 0) false

abbrev pub ends_with : (ℕ → Bool) → List ℕ → Bool
ends_with class text = option_map_or class (slice_get text (length text - 1)) false

-- a number, if a u64 has it
abbrev pub as_u64 : ℕ → Option ℕ
as_u64 n = if nat_lt n 18446744073709551616 then Some n else None

-- the number that one or more digits write
unfoldable pub number : List ℕ → Option ℕ
number text = if is_number text then as_u64 (digits_value 10 text) else None

-- a byte of a name or of an address of version 4
abbrev pub is_host_byte : ℕ → Bool
is_host_byte b = is_letter b || is_digit b || b == 46 || b == 45

-- a byte of an address of version 6 (RFC 3986, section 3.2.2)
abbrev pub is_literal_byte : ℕ → Bool
is_literal_byte b = is_hex b || b == 58 || b == 46

-- an address of version 6, out of its brackets
abbrev pub without_last : List ℕ → List ℕ
without_last text = take (length text - 1) text

abbrev pub literal_before_bracket : List ℕ → Option (List ℕ)
literal_before_bracket text =
    if ends_with (λ b. b == 93) text then
    (if is_some_of is_literal_byte (without_last text) then Some (without_last text) else None)
    else None

abbrev pub literal : List ℕ → Option (List ℕ)
literal [] = None
literal (b ∷ bs) = if b == 91 then literal_before_bracket bs else None

-- a host: `*` for all addresses, a name or an address, without brackets
unfoldable pub host : List ℕ → Option (List ℕ)
host text =
    if bytes_eq text (codes "*") then Some (codes "0.0.0.0")
    else if is_some_of is_host_byte text then Some text
    else literal text

-- any proxy, or an address
abbrev pub is_address_byte : ℕ → Bool
is_address_byte b = is_letter b || is_digit b || b == 46 || b == 58

abbrev pub is_proxy : List ℕ → Bool
is_proxy text = bytes_eq text (codes "*") || is_some_of is_address_byte text

-- a scheme (RFC 3986, section 3.1)
abbrev pub is_scheme_byte : ℕ → Bool
is_scheme_byte b = is_letter b || is_digit b || b == 43 || b == 45 || b == 46

abbrev pub is_scheme : List ℕ → Bool
is_scheme text = begins_with is_letter text && list_all is_scheme_byte text

-- the value of a field: no white space stands at its ends (RFC 9110, section 5.5)
abbrev pub is_field_text : List ℕ → Bool
is_field_text text =
    list_all is_field text && not (begins_with is_white_space text) && not
    (ends_with is_white_space text)

-- the text without the slashes at both ends
abbrev pub is_slash : ℕ → Bool
is_slash b = b == 47

abbrev pub without_slashes_behind : List ℕ → List ℕ
without_slashes_behind text = take (length text - suffix_len is_slash text) text

abbrev pub without_slashes : List ℕ → List ℕ
without_slashes text = without_slashes_behind (drop (prefix_len is_slash text) text)

-- a path: one slash in front and none behind, or nothing
abbrev pub in_front : List ℕ → List ℕ
in_front [] = []
in_front (b ∷ bs) = 47 ∷ b ∷ bs

unfoldable pub path : List ℕ → List ℕ
path text = in_front (without_slashes text)
