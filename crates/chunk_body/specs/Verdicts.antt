-- Where the bytes of a body in the chunked coding stand, and which byte is refused, and as what
-- (RFC 9112, section 7.1). A line of a chunk has at most 1,024 bytes, its CR LF among them. A body
-- and a trailer section have fewer bytes than their limits; all bytes of a body count.
use Rattle.std.specs.Prelude.{◌≡◌, ◌≤◌, ◌<◌, ◌+◌, ◌⊎◌, ℕ, IsTrue, List, [], ◌∷◌, ◌++◌, length, take}
use Rattle.std.specs.List.{AllByRecursion}
use Rattle.chunk_body.specs.Coded.{is_blank, AreDigits, IsExtension, IsLine, Chunk, text, joined}
use Rattle.chunk_body.specs.Coded.{IsChunk, EndsTrailer, IsCoded}
use Rattle.byte_tables.specs.declared.refusal.Refusal.{Refusal}
use Rattle.byte_tables.specs.declared.refusal.Refusal.TheVariants.{BodyTooLarge, ChunkSize}
use Rattle.byte_tables.specs.declared.refusal.Refusal.TheVariants.{ChunkExtension, ChunkLineEnd}
use Rattle.byte_tables.specs.declared.refusal.Refusal.TheVariants.{ChunkLineLong, ChunkEnd}
use Rattle.byte_tables.specs.declared.refusal.Refusal.TheVariants.{TrailerTooLarge}

-- Parts of lines, of chunks and of ends.

-- a size and white space
pub record InBlanks (part : List ℕ) (size : ℕ) : Type 0 where
  pub digits : List ℕ
  pub blanks : List ℕ
  pub sized : AreDigits digits size
  pub blank : AllByRecursion (λ b. IsTrue (is_blank b)) blanks
  pub some : 0 < length blanks
  pub whole : part ≡ digits ++ blanks

-- a size and a part of an extension that has its `;`
pub record InExtension (part : List ℕ) (size : ℕ) : Type 0 where
  pub digits : List ℕ
  pub extension : List ℕ
  pub sized : AreDigits digits size
  pub extended : IsExtension extension
  pub whole : part ≡ digits ++ extension

-- a line without its LF
pub record InLineEnd (part : List ℕ) (size : ℕ) : Type 0 where
  pub digits : List ℕ
  pub extension : List ℕ
  pub sized : AreDigits digits size
  pub extended : (extension ≡ []) ⊎ IsExtension extension
  pub whole : part ≡ digits ++ (extension ++ (13 ∷ []))

-- a line of a chunk, some of its data and what stands behind the data, of which so much is missing
pub record InData (part got behind : List ℕ) (left : ℕ) : Type 0 where
  pub line : List ℕ
  pub sized : IsLine line (length got + left)
  pub some : 0 < length got + left
  pub whole : part ≡ line ++ (got ++ behind)

-- the line of the last chunk and what stands behind it
pub record BehindLast (part trailer : List ℕ) : Type 0 where
  pub last : List ℕ
  pub ends : IsLine last 0
  pub whole : part ≡ last ++ trailer

-- neither it nor a front of it ends a trailer section
pub record IsOpenTrailer (t : List ℕ) : Type 0 where
  pub none : (n : ℕ) → n ≤ length t → EndsTrailer (take n t) → ⊥

-- a proper front of a coded body
pub record IsProperFront (wire : List ℕ) : Type 0 where
  pub more : List ℕ
  pub decoded : List ℕ
  pub some : 0 < length more
  pub coded : IsCoded (wire ++ more) decoded

-- no coded body begins so
pub record IsWrong (wire : List ℕ) : Type 0 where
  pub none : (more body : List ℕ) → IsCoded (wire ++ more) body → ⊥

-- where the next byte stands
pub data Where : Type 0 where
  -- first of a line
  line_start : Where
  -- behind some digits of a size
  in_digits : Where
  -- behind white space
  in_blanks : Where
  -- behind `;`
  in_extension : Where
  -- behind the CR of a line
  line_end : Where
  -- in the data
  in_bytes : Where
  -- behind the data
  bytes_end : Where
  -- behind the CR that follows the data
  bytes_cr : Where
  -- behind the line of the last chunk
  in_trailer : Where

-- the part of a line, of a chunk or of the end that stands before it, and the data in that part
abbrev pub IsPart : Where → List ℕ → List ℕ → Type 0
IsPart line_start part got = (part ≡ []) × (got ≡ [])
IsPart in_digits part got = (size : ℕ) × AreDigits part size × (got ≡ [])
IsPart in_blanks part got = (size : ℕ) × InBlanks part size × (got ≡ [])
IsPart in_extension part got = (size : ℕ) × InExtension part size × (got ≡ [])
IsPart line_end part got = (size : ℕ) × InLineEnd part size × (got ≡ [])
IsPart in_bytes part got = (left : ℕ) × InData part got [] left × (0 < left)
IsPart bytes_end part got = InData part got [] 0
IsPart bytes_cr part got = InData part got (13 ∷ []) 0
IsPart in_trailer part got = (trailer : List ℕ) × BehindLast part trailer × IsOpenTrailer trailer
    × (got ≡ [])

-- What stands before the next byte: whole chunks and such a part. The body is the data so far.
pub record Stands (place : Where) (wire body : List ℕ) : Type 0 where
  pub chunks : List Chunk
  pub part : List ℕ
  pub got : List ℕ
  pub each : AllByRecursion IsChunk chunks
  pub is : IsPart place part got
  pub whole : wire ≡ text chunks ++ part
  pub decoded : body ≡ joined chunks ++ got

-- What a wrong byte is refused as, by where it stands. In the data and in the trailer section no
-- byte is wrong.
abbrev pub refusal_of : Where → Refusal
refusal_of line_start = ChunkSize
refusal_of in_digits = ChunkSize
refusal_of in_blanks = ChunkSize
refusal_of in_extension = ChunkExtension
refusal_of line_end = ChunkLineEnd
refusal_of in_bytes = ChunkEnd
refusal_of bytes_end = ChunkEnd
refusal_of bytes_cr = ChunkEnd
refusal_of in_trailer = ChunkEnd

-- behind the first byte of a line and before its last
abbrev pub IsInLine : Where → Type 0
IsInLine line_start = ⊥
IsInLine in_digits = Unit {0}
IsInLine in_blanks = Unit {0}
IsInLine in_extension = Unit {0}
IsInLine line_end = Unit {0}
IsInLine in_bytes = ⊥
IsInLine bytes_end = ⊥
IsInLine bytes_cr = ⊥
IsInLine in_trailer = ⊥

-- the byte behind these is number 1,024 of a line and does not end it
pub record IsLineLimit (before : List ℕ) (byte : ℕ) : Type 0 where
  pub place : Where
  pub body : List ℕ
  pub stands : Stands place before body
  pub line : IsInLine place
  pub full : length stands.part ≡ 1023
  pub unended : place ≡ line_end → byte ≡ 10 → ⊥

-- the byte behind these is number max of a trailer section
pub record IsTrailerLimit (max : ℕ) (before : List ℕ) : Type 0 where
  pub body : List ℕ
  pub stands : Stands in_trailer before body
  pub full : length stands.is.0 + 1 ≡ max

-- The limits of lines and of trailer sections are said by where bytes stand. What follows holds
-- however that is said.
module _ (max_body : ℕ) (OfLine : List ℕ → ℕ → Type 0) (OfTrailer : List ℕ → Type 0) where
  abbrev pub AnyLimit : List ℕ → ℕ → Type 0
  AnyLimit before byte = (length before + 1 ≡ max_body) ⊎ (OfLine before byte ⊎ OfTrailer before)

  -- no byte reaches a limit
  pub record Within (wire : List ℕ) : Type 0 where
    pub none : (before after : List ℕ) (byte : ℕ) → wire ≡ before ++ (byte ∷ after) →
        AnyLimit before byte → ⊥

  -- Why the next byte is refused, which is as `bad` where it is wrong. The limit of the body goes
  -- before all else, that of the trailer section before a wrong byte, and a wrong byte before the
  -- limit of a line.
  pub data Reason (max_trailer : ℕ) (bad : Refusal) (before : List ℕ) (byte : ℕ) : Refusal →
      Type 0 where
    large : length before + 1 ≡ max_body →
        Reason max_trailer bad before byte (BodyTooLarge max_body)
    late : (length before + 1 ≡ max_body → ⊥) → OfTrailer before →
        Reason max_trailer bad before byte (TrailerTooLarge max_trailer)
    wrong : (length before + 1 ≡ max_body → ⊥) → (OfTrailer before → ⊥) →
        IsWrong (before ++ byte ∷ []) → Reason max_trailer bad before byte bad
    long : (length before + 1 ≡ max_body → ⊥) → (IsWrong (before ++ byte ∷ []) → ⊥) →
        OfLine before byte → Reason max_trailer bad before byte ChunkLineLong

abbrev pub IsLimit : ℕ → ℕ → List ℕ → ℕ → Type 0
IsLimit max_body max_trailer = AnyLimit max_body IsLineLimit (IsTrailerLimit max_trailer)

abbrev pub IsWithin : ℕ → ℕ → List ℕ → Type 0
IsWithin max_body max_trailer = Within max_body IsLineLimit (IsTrailerLimit max_trailer)

-- A body that is not all there: a proper front of a coded body, in which no byte reaches a limit.
-- The body is the data so far.
pub record IsOpen (max_body max_trailer : ℕ) (wire body : List ℕ) : Type 0 where
  pub place : Where
  pub stands : Stands place wire body
  pub proper : IsProperFront wire
  pub within : IsWithin max_body max_trailer wire

-- A coded body in which no byte reaches a limit.
pub record IsWhole (max_body max_trailer : ℕ) (wire body : List ℕ) : Type 0 where
  pub coded : IsCoded wire body
  pub within : IsWithin max_body max_trailer wire

abbrev pub Because : ℕ → ℕ → Where → List ℕ → ℕ → Refusal → Type 0
Because max_body max_trailer place =
    Reason max_body IsLineLimit (IsTrailerLimit max_trailer) max_trailer (refusal_of place)

-- A byte is refused: those before it are a body that is not all there, with this data.
pub record IsRefused (max_body max_trailer : ℕ) (wire body : List ℕ)
    (refusal : Refusal) : Type 0 where
  pub before : List ℕ
  pub byte : ℕ
  pub after : List ℕ
  pub place : Where
  pub whole : wire ≡ before ++ (byte ∷ after)
  pub least : IsOpen max_body max_trailer before body
  pub stands : Stands place before body
  pub because : Because max_body max_trailer place before byte refusal
