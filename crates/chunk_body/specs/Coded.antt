-- The chunked transfer coding (RFC 9112, section 7.1).
use Rattle.std.specs.Prelude.{◌≡◌, ◌≤◌, ◌<◌, ◌+◌, ◌*◌, ◌-◌, ◌⊎◌, ℕ, Bool, ◌||◌, nat_le, nat_eq}
use Rattle.std.specs.Prelude.{IsTrue, List, [], ◌∷◌, ◌++◌, length, take, if◌then◌else◌}
use Rattle.std.specs.List.{flat_map, AllByRecursion}
use Rattle.byte_tables.specs.Classes.{is_hex, is_field}

-- what a HEXDIG of either case stands for
unfoldable pub hex_of : ℕ → ℕ
hex_of b = if nat_le b 57 then b - 48 else (if nat_le b 70 then b - 55 else b - 87)

-- SP or HTAB, of which BWS is made (RFC 9110, section 5.6.3)
unfoldable pub is_blank : ℕ → Bool
is_blank b = nat_eq b 32 || nat_eq b 9

-- CR LF
abbrev pub crlf : List ℕ
crlf = 13 ∷ 10 ∷ []

-- the number that n and then hex digits spell
abbrev pub hex_from : ℕ → List ℕ → ℕ
hex_from n [] = n
hex_from n (d ∷ ds) = hex_from (16 * n + hex_of d) ds

-- chunk-size, of at most 16 digits, so that it fits 64 bits
pub record AreDigits (digits : List ℕ) (size : ℕ) : Type 0 where
  pub hex : AllByRecursion (λ d. IsTrue (is_hex d)) digits
  pub some : 0 < length digits
  pub few : length digits ≤ 16
  pub spelled : hex_from 0 digits ≡ size

-- chunk-ext (section 7.1.1): white space, `;` and any bytes of field values
pub record IsExtension (extension : List ℕ) : Type 0 where
  pub blanks : List ℕ
  pub fields : List ℕ
  pub blank : AllByRecursion (λ b. IsTrue (is_blank b)) blanks
  pub field : AllByRecursion (λ b. IsTrue (is_field b)) fields
  pub whole : extension ≡ blanks ++ (59 ∷ fields)

-- the line of a chunk: its size, an extension or none, CR LF
pub record IsLine (line : List ℕ) (size : ℕ) : Type 0 where
  pub digits : List ℕ
  pub extension : List ℕ
  pub sized : AreDigits digits size
  pub extended : (extension ≡ []) ⊎ IsExtension extension
  pub whole : line ≡ digits ++ (extension ++ crlf)

-- a chunk: its line and its data
pub record Chunk : Type 0 where
  pub line : List ℕ
  pub bytes : List ℕ

abbrev pub chunk_text : Chunk → List ℕ
chunk_text c = c.line ++ (c.bytes ++ crlf)

abbrev pub text : List Chunk → List ℕ
text chunks = flat_map chunk_text chunks

abbrev pub joined : List Chunk → List ℕ
joined chunks = flat_map (λ c. c.bytes) chunks

-- the line gives the length of the data, which is not empty
pub record IsChunk (c : Chunk) : Type 0 where
  pub line : IsLine c.line (length c.bytes)
  pub some : 0 < length c.bytes

-- where a trailer section (section 7.1.2) and the CR LF behind it end: behind an empty line
abbrev pub EndsTrailer : List ℕ → Type 0
EndsTrailer t = (t ≡ crlf) ⊎ ((front : List ℕ) × (t ≡ front ++ (13 ∷ 10 ∷ 13 ∷ 10 ∷ [])))

-- they end with the first empty line; the fields in front of it may be any bytes
pub record IsTrailer (t : List ℕ) : Type 0 where
  pub ends : EndsTrailer t
  pub shortest : (n : ℕ) → n < length t → EndsTrailer (take n t) → ⊥

-- chunked-body: any number of chunks, the line of the last chunk, whose size is 0, and a trailer
-- section with its CR LF. What it stands for is the data, joined.
pub record IsCoded (wire body : List ℕ) : Type 0 where
  pub chunks : List Chunk
  pub last : List ℕ
  pub trailer : List ℕ
  pub each : AllByRecursion IsChunk chunks
  pub ends : IsLine last 0
  pub dropped : IsTrailer trailer
  pub whole : wire ≡ text chunks ++ (last ++ trailer)
  pub decoded : body ≡ joined chunks

-- a coded body that has no chunk
pub record IsLast (wire body : List ℕ) : Type 0 where
  pub last : List ℕ
  pub trailer : List ℕ
  pub ends : IsLine last 0
  pub dropped : IsTrailer trailer
  pub whole : wire ≡ last ++ trailer
  pub none : body ≡ []

-- a chunk, and a coded body behind it
pub record BeginsWithChunk (wire body : List ℕ) : Type 0 where
  pub chunk : Chunk
  pub rest : List ℕ
  pub content : List ℕ
  pub is : IsChunk chunk
  pub coded : IsCoded rest content
  pub whole : wire ≡ chunk_text chunk ++ rest
  pub decoded : body ≡ chunk.bytes ++ content
