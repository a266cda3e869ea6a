-- Where bytes stand and the verdicts on them, as in specs/Verdicts.antt, by the places of the code,
-- which have numbers.
use Rattle.std.specs.Prelude.{◌≡◌, ◌<◌, ◌+◌, ℕ, false, List, [], ◌∷◌, ◌++◌, length}
use Rattle.std.specs.List.{AllByRecursion}
use Rattle.chunk_body.specs.Coded.{Chunk, IsChunk, text, joined, AreDigits, IsTrailer, IsCoded}
use Rattle.chunk_body.specs.Verdicts.{InBlanks, InExtension, InLineEnd, InData, BehindLast}
use Rattle.chunk_body.specs.Verdicts.{IsOpenTrailer, IsProperFront, AnyLimit, Within, Reason}
use Rattle.byte_tables.specs.declared.refusal.Refusal.{Refusal}
use Rattle.byte_tables.specs.declared.refusal.Refusal.TheVariants.{ChunkSize}
use Rattle.byte_tables.specs.declared.refusal.Refusal.TheVariants.{ChunkExtension, ChunkLineEnd}
use Rattle.byte_tables.specs.declared.refusal.Refusal.TheVariants.{ChunkEnd}
use Rattle.chunk_body.specs.Reading.{mark_step, line_bytes, has_ended}
use Rattle.chunk_body.specs.declared.place.Place.{Place}
use Rattle.chunk_body.specs.declared.place.Place.TheVariants.{LineStart, Digits, Blanks, Extension}
use Rattle.chunk_body.specs.declared.place.Place.TheVariants.{LineCr, Data, DataEnd, DataCr}
use Rattle.chunk_body.specs.declared.place.Place.TheVariants.{Trailer, Over, Refused}

abbrev pub mark_from : ℕ → List ℕ → ℕ
mark_from m [] = m
mark_from m (c ∷ cs) = mark_from (mark_step m c) cs

-- what stands at a place: the part of a line, of a chunk or of the end, and its data
abbrev pub IsPartAt : Place → List ℕ → List ℕ → Type 0
IsPartAt LineStart part got = (part ≡ []) × (got ≡ [])
IsPartAt (Digits n k) part got = AreDigits part k × (n ≡ length part) × (got ≡ [])
IsPartAt (Blanks n k) part got = InBlanks part k × (n ≡ length part) × (got ≡ [])
IsPartAt (Extension n k) part got = InExtension part k × (n ≡ length part) × (got ≡ [])
IsPartAt (LineCr n k) part got = InLineEnd part k × (n ≡ length part) × (got ≡ [])
IsPartAt (Data left) part got = InData part got [] left × (0 < left)
IsPartAt DataEnd part got = InData part got [] 0
IsPartAt DataCr part got = InData part got (13 ∷ []) 0
IsPartAt (Trailer n m) part got = (t : List ℕ) × BehindLast part t × IsOpenTrailer t
    × (n ≡ length t) × (m ≡ mark_from 2 t) × (got ≡ [])
IsPartAt Over part got = (t : List ℕ) × BehindLast part t × IsTrailer t × (got ≡ [])
IsPartAt (Refused r) part got = ⊥

-- whole chunks, and a part of what follows
pub record Front (place : Place) (wire body : List ℕ) : Type 0 where
  pub chunks : List Chunk
  pub part : List ℕ
  pub got : List ℕ
  pub each : AllByRecursion IsChunk chunks
  pub stands : IsPartAt place part got
  pub whole : wire ≡ text chunks ++ part
  pub decoded : body ≡ joined chunks ++ got

-- The table: what a wrong byte is refused as, by its place. At the other places no byte is wrong.
abbrev pub refusal_at : Place → Refusal
refusal_at LineStart = ChunkSize
refusal_at (Digits n k) = ChunkSize
refusal_at (Blanks n k) = ChunkSize
refusal_at (Extension n k) = ChunkExtension
refusal_at (LineCr n k) = ChunkLineEnd
refusal_at (Data left) = ChunkEnd
refusal_at DataEnd = ChunkEnd
refusal_at DataCr = ChunkEnd
refusal_at (Trailer n m) = ChunkEnd
refusal_at Over = ChunkEnd
refusal_at (Refused r) = r

-- the byte behind these is number 1,024 of a line, and does not end it
pub record IsLineLimit (before : List ℕ) (byte : ℕ) : Type 0 where
  pub place : Place
  pub body : List ℕ
  pub front : Front place before body
  pub full : line_bytes place ≡ 1023
  pub unended : (k : ℕ) → place ≡ LineCr 1023 k → byte ≡ 10 → ⊥

-- the byte behind these is number max of a trailer section
pub record IsTrailerLimit (max : ℕ) (before : List ℕ) : Type 0 where
  pub count : ℕ
  pub marked : ℕ
  pub body : List ℕ
  pub front : Front (Trailer count marked) before body
  pub full : count + 1 ≡ max

abbrev pub IsLimit : ℕ → ℕ → List ℕ → ℕ → Type 0
IsLimit max_body max_trailer = AnyLimit max_body IsLineLimit (IsTrailerLimit max_trailer)

abbrev pub IsWithin : ℕ → ℕ → List ℕ → Type 0
IsWithin max_body max_trailer = Within max_body IsLineLimit (IsTrailerLimit max_trailer)

pub record IsOpen (max_body max_trailer : ℕ) (wire body : List ℕ) : Type 0 where
  pub place : Place
  pub going : has_ended place ≡ false
  pub front : Front place wire body
  pub proper : IsProperFront wire
  pub within : IsWithin max_body max_trailer wire

pub record IsWhole (max_body max_trailer : ℕ) (wire body : List ℕ) : Type 0 where
  pub coded : IsCoded wire body
  pub within : IsWithin max_body max_trailer wire

abbrev pub Because : ℕ → ℕ → Place → List ℕ → ℕ → Refusal → Type 0
Because max_body max_trailer place =
    Reason max_body IsLineLimit (IsTrailerLimit max_trailer) max_trailer (refusal_at place)

pub record IsRefused (max_body max_trailer : ℕ) (wire body : List ℕ)
    (refusal : Refusal) : Type 0 where
  pub before : List ℕ
  pub byte : ℕ
  pub after : List ℕ
  pub place : Place
  pub whole : wire ≡ before ++ (byte ∷ after)
  pub going : has_ended place ≡ false
  pub least : IsOpen max_body max_trailer before body
  pub stands : Front place before body
  pub because : Because max_body max_trailer place before byte refusal
