-- What a whole head says, or why it is refused.
use Rattle.std.specs.Prelude.{◌≡◌, ⊤, ℕ, Bool, false, List, [], ◌∷◌, length, codes, Result, Ok, Err}
use Rattle.std.specs.Str.{bytes_eq}
use Rattle.byte_tables.specs.declared.refusal.Refusal.{Refusal}
use Rattle.head_grammar.specs.FieldLines.{fields_of}
use Rattle.head_grammar.specs.Framings.{closes_of, expects_of, framing_of}
use Rattle.head_grammar.specs.Lines.{head_lines}
use Rattle.head_grammar.specs.RequestLines.{request_line}
use Rattle.head_grammar.specs.declared.types.Field.{Field}
use Rattle.head_grammar.specs.declared.types.Framing.{Framing}
use Rattle.head_grammar.specs.declared.types.Version.TheVariants.{Old}
use Rattle.head_grammar.specs.declared.types.Parsed.{Parsed}
use Rattle.head_grammar.specs.declared.types.Parsed.TheVariants.{Blank, Good, Bad}
use Rattle.head_grammar.specs.Heads.{Head, RequestLine}

-- A response to HEAD has no body (RFC 9110, section 9.3.2).
abbrev pub is_head : List ℕ → Bool
is_head method = bytes_eq method (codes "HEAD")

abbrev pub bad : RequestLine → Refusal → Parsed
bad line refusal = Bad refusal line.version (is_head line.method)

abbrev pub head_of : RequestLine → List Field → Framing → ℕ → Head
head_of line fields framing size = record {
  method = line.method;
  target = line.target;
  path = line.path;
  query = line.query;
  version = line.version;
  fields = fields;
  framing = framing;
  expects = expects_of line.version fields framing;
  closes = closes_of line.version fields;
  size = size;
}

abbrev pub good : RequestLine → List Field → Framing → ℕ → Parsed
good line fields framing size = Good (head_of line fields framing size)

abbrev pub by_framing : RequestLine → List Field → ℕ → Result Framing Refusal → Parsed
by_framing line fields size (Err refusal) = bad line refusal
by_framing line fields size (Ok framing) = good line fields framing size

abbrev pub by_fields : ℕ → RequestLine → ℕ → Result (List Field) Refusal → Parsed
by_fields max_body line size (Err refusal) = bad line refusal
by_fields max_body line size (Ok fields) =
    by_framing line fields size (framing_of line.version fields max_body)

-- what is refused before the version is known is answered in version 1.0, with a body
abbrev pub by_line : ℕ → List (List ℕ) → ℕ → Result RequestLine Refusal → Parsed
by_line max_body rest size (Err refusal) = Bad refusal Old false
by_line max_body rest size (Ok line) = by_fields max_body line size (fields_of rest)

-- the first check that fails, in this order, gives the refusal; empty lines alone are no request
abbrev pub verdict_of : ℕ → List (List ℕ) → ℕ → Parsed
verdict_of max_body [] size = Blank
verdict_of max_body (line ∷ rest) size = by_line max_body rest size (request_line line)

-- the verdict on a whole head; a body has fewer than max_body bytes
unfoldable pub verdict : ℕ → List ℕ → Parsed
verdict max_body head = verdict_of max_body (head_lines head) (length head)

-- a served head has all the bytes
abbrev pub HasSize : ℕ → Parsed → Type 0
HasSize size Blank = ⊤
HasSize size (Good head) = head.size ≡ size
HasSize size (Bad refusal version bodyless) = ⊤
