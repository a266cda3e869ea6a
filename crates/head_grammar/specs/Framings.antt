-- How long a body is, and what a head says of the connection (RFC 9112, sections 6.3 and 9.3).
use Rattle.std.specs.Prelude.{ℕ, Bool, true, false, not, ◌&&◌, ◌||◌, ◌==◌, nat_le, List}
use Rattle.std.specs.Prelude.{codes, Option, None, Some, Result, Ok, Err, if◌then◌else◌}
use Rattle.std.specs.List.{list_any, slice_split}
use Rattle.std.specs.Option.{is_some}
use Rattle.std.specs.Str.{str_eq_ignore_ascii_case}
use Rattle.std.specs.Str.Parse.{digits_value}
use Rattle.byte_tables.specs.Numbers.{is_number}
use Rattle.byte_tables.specs.declared.refusal.Refusal.{Refusal}
use Rattle.byte_tables.specs.declared.refusal.Refusal.TheVariants as refusal
use Rattle.head_grammar.specs.Classes.{trimmed}
use Rattle.head_grammar.specs.FieldLines.{field_value}
use Rattle.head_grammar.specs.declared.types.Field.{Field}
use Rattle.head_grammar.specs.declared.types.Framing.{Framing}
use Rattle.head_grammar.specs.declared.types.Framing.TheVariants as framing
use Rattle.head_grammar.specs.declared.types.Version.{Version}
use Rattle.head_grammar.specs.declared.types.Version.TheVariants.{Old, New}

abbrev pub fixed : ℕ → Framing
fixed n = if n == 0 then framing.Empty else framing.Fixed n

-- Content-Length (RFC 9110, section 8.6); a body has fewer bytes than the limit
abbrev pub by_length : ℕ → List ℕ → Result Framing Refusal
by_length max_body value =
    if not (is_number value) then Err refusal.Length
    else (if nat_le max_body (digits_value 10 value) then Err (refusal.BodyTooLarge max_body)
    else Ok (fixed (digits_value 10 value)))

-- Transfer-Encoding is of version 1.1, and chunked is the one coding (sections 6.1 and 7)
abbrev pub by_coding : Version → List ℕ → Result Framing Refusal
by_coding Old coding = Err refusal.CodingOnOld
by_coding New coding =
    if str_eq_ignore_ascii_case coding (codes "chunked") then Ok framing.Chunked
    else Err refusal.CodingUnknown

-- by the transfer coding, where there is one; else by the length, where there is one; else no body
abbrev pub framing_by : Version → ℕ → Option (List ℕ) → Option (List ℕ) → Result Framing Refusal
framing_by version max_body (Some coding) size = by_coding version coding
framing_by version max_body None (Some size) = by_length max_body size
framing_by version max_body None None = Ok framing.Empty

unfoldable pub framing_of : Version → List Field → ℕ → Result Framing Refusal
framing_of version fields max_body =
    framing_by version max_body (field_value (codes "transfer-encoding") fields)
    (field_value (codes "content-length") fields)

abbrev pub has_body : Framing → Bool
has_body framing.Empty = false
has_body (framing.Fixed n) = true
has_body framing.Chunked = true

abbrev pub is_folded : Option (List ℕ) → List ℕ → Bool
is_folded None text = false
is_folded (Some value) text = str_eq_ignore_ascii_case value text

-- whether the client waits for 100 Continue (RFC 9110, section 10.1.1)
abbrev pub expects_of : Version → List Field → Framing → Bool
expects_of Old fields body = false
expects_of New fields body =
    has_body body && is_folded (field_value (codes "expect") fields) (codes "100-continue")

abbrev pub is_option : List ℕ → List ℕ → Bool
is_option name option = str_eq_ignore_ascii_case (trimmed option) name

-- whether one of the options that are cut at commas is this one (RFC 9110, section 7.6.1)
abbrev pub lists_option : List ℕ → List ℕ → Bool
lists_option name options = list_any (is_option name) (slice_split (λ b. b == 44) options)

abbrev pub has_option : List ℕ → Option (List ℕ) → Bool
has_option name None = false
has_option name (Some options) = lists_option name options

abbrev pub has_field : List ℕ → List Field → Bool
has_field name fields = is_some (field_value name fields)

-- A message with both fields may be an attempt to smuggle (RFC 9112, section 6.1).
abbrev pub has_both : List Field → Bool
has_both fields = has_field (codes "transfer-encoding") fields
    && has_field (codes "content-length") fields

-- whether the connection closes behind the response (section 9.3)
abbrev pub closes_by : Version → Option (List ℕ) → Bool
closes_by New options = has_option (codes "close") options
closes_by Old options = has_option (codes "close") options
    || not (has_option (codes "keep-alive") options)

unfoldable pub closes_of : Version → List Field → Bool
closes_of version fields = closes_by version (field_value (codes "connection") fields)
    || has_both fields
