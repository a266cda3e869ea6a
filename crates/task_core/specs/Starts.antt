-- What a call of start_response may give (PEP 3333, 'The start_response() Callable').
use Rattle.std.specs.Prelude.{ℕ, Bool, true, false, not, ◌&&◌, ◌==◌, ◌^◌, nat_lt, List, [], ◌∷◌}
use Rattle.std.specs.Prelude.{filter, find, codes, Option, option_map}
use Rattle.std.specs.List.{list_all, list_any}
use Rattle.std.specs.Str.{str_eq_ignore_ascii_case}
use Rattle.std.specs.Str.Parse.{digits_value}
use Rattle.byte_tables.specs.Classes.{is_between, is_digit, is_field}
use Rattle.head_grammar.specs.FieldLines.{is_name}
use Rattle.byte_tables.specs.Numbers.{is_number}
use Rattle.head_grammar.specs.declared.types.Field.{Field}

-- a code from 200 to 599, SP and a reason-phrase, which may be empty (RFC 9112, section 4)
abbrev pub is_status : List ℕ → Bool
is_status (a ∷ b ∷ c ∷ d ∷ reason) =
    is_between 50 53 a && is_digit b && is_digit c && d == 32 && list_all is_field reason
is_status _ = false

-- ASCII letters are compared without case (RFC 9110, section 5.1)
abbrev pub is_named : List ℕ → Field → Bool
is_named name field = str_eq_ignore_ascii_case name field.name

-- what is of one connection alone, and not the application's (PEP 3333, 'Other HTTP Features'; RFC
-- 9110, section 7.6.1)
abbrev pub hop_by_hop : List (List ℕ)
hop_by_hop =
    codes "connection" ∷ codes "keep-alive" ∷ codes "proxy-authenticate" ∷ codes
    "proxy-authorization"
    ∷ codes "te" ∷ codes "trailers" ∷ codes "transfer-encoding" ∷ codes "upgrade" ∷ []

abbrev pub is_hop_by_hop : List ℕ → Bool
is_hop_by_hop name = list_any (λ hop. str_eq_ignore_ascii_case hop name) hop_by_hop

-- a token that is not hop-by-hop, and a value of field bytes (RFC 9110, sections 5.1 and 5.5)
abbrev pub is_allowed : Field → Bool
is_allowed field = is_name field.name && not (is_hop_by_hop field.name) && list_all is_field
    field.value

-- the fields that declare the length of the body
abbrev pub lengths : List Field → List Field
lengths fields = filter (is_named (codes "content-length")) fields

-- Content-Length = 1*DIGIT (RFC 9110, section 8.6), below 2^64
abbrev pub is_length : Field → Bool
is_length field = is_number field.value && nat_lt (digits_value 10 field.value) (2 ^ 64)

-- at most one length is declared
abbrev pub are_lengths : List Field → Bool
are_lengths [] = true
are_lengths (field ∷ []) = is_length field
are_lengths (_ ∷ _ ∷ _) = false

-- whether a status and fields may be given
unfoldable pub is_valid : List ℕ → List Field → Bool
is_valid status fields = is_status status && list_all is_allowed fields && are_lengths
    (lengths fields)

-- the length that is declared
unfoldable pub declared_length : List Field → Option ℕ
declared_length fields =
    option_map (λ field. digits_value 10 field.value) (find (is_named (codes "content-length"))
    fields)
