-- What stands at the front of some bytes.
use Rattle.std.specs.Prelude.{◌≡◌, ◌≤◌, ◌<◌, ◌-◌, ℕ, List, length, take}
use Rattle.byte_tables.specs.declared.refusal.Refusal.{Refusal}
use Rattle.chunk_body.specs.Verdicts.{IsOpen, IsWhole, IsRefused}
use Rattle.chunk_body.specs.Reading.{fresh, reads, decodes}
use Rattle.chunk_body.specs.declared.place.Place.{Place}
use Rattle.chunk_body.specs.declared.place.Place.TheVariants.{LineStart, Digits, Blanks, Extension}
use Rattle.chunk_body.specs.declared.place.Place.TheVariants.{LineCr, Data, DataEnd, DataCr}
use Rattle.chunk_body.specs.declared.place.Place.TheVariants.{Trailer, Over, Refused}

pub data Body : Type 0 where
  -- so many bytes are a whole body, and this is its data
  whole : (taken : ℕ) → (content : List ℕ) → Body
  -- the byte at this place is refused
  wrong : (place : ℕ) → (refusal : Refusal) → Body
  -- they are a body that is not all there, and this is its data so far
  partial : (content : List ℕ) → Body

-- the byte at this place is refused
pub record IsRefusedAt (max_body max_trailer : ℕ) (bytes : List ℕ) (place : ℕ)
    (refusal : Refusal) : Type 0 where
  pub content : List ℕ
  pub refused : IsRefused max_body max_trailer bytes content refusal
  pub here : length refused.before ≡ place

-- What each says of the bytes. Exactly one holds of all bytes: the clause `bodies` of `one_front`.
abbrev pub IsFront : ℕ → ℕ → List ℕ → Body → Type 0
IsFront max_body max_trailer bytes (whole taken content) = (taken ≤ length bytes)
    × IsWhole max_body max_trailer (take taken bytes) content
IsFront max_body max_trailer bytes (wrong place refusal) =
    IsRefusedAt max_body max_trailer bytes place refusal
IsFront max_body max_trailer bytes (partial content) = IsOpen max_body max_trailer bytes content

-- a reader's place as a body
abbrev pub body_at : Place → ℕ → List ℕ → Body
body_at LineStart taken content = partial content
body_at (Digits n k) taken content = partial content
body_at (Blanks n k) taken content = partial content
body_at (Extension n k) taken content = partial content
body_at (LineCr n k) taken content = partial content
body_at (Data left) taken content = partial content
body_at DataEnd taken content = partial content
body_at DataCr taken content = partial content
body_at (Trailer n m) taken content = partial content
body_at Over taken content = whole taken content
body_at (Refused refusal) taken content = wrong (taken - 1) refusal

-- The one of which `IsFront` holds, as a reader finds it.
unfoldable pub coded : ℕ → ℕ → List ℕ → Body
coded max_body max_trailer bytes =
    body_at (reads (fresh max_body max_trailer) bytes).place
    (reads (fresh max_body max_trailer) bytes).taken
    (decodes (fresh max_body max_trailer) bytes)

-- no more bytes change it
abbrev pub IsSettled : Body → Type 0
IsSettled (whole taken content) = Unit {0}
IsSettled (wrong place refusal) = Unit {0}
IsSettled (partial content) = ⊥

-- it takes a byte at least, and no more than so many
abbrev pub LiesWithin : ℕ → Body → Type 0
LiesWithin size (whole taken content) = (0 < taken) × (taken ≤ size)
LiesWithin size (wrong place refusal) = place < size
LiesWithin size (partial content) = Unit {0}
