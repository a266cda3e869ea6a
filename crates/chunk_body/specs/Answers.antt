-- What an answer to a piece says.
use Rattle.std.specs.Prelude.{◌≡◌, ◌≤◌, ◌<◌, ◌+◌, ℕ, List, [], ◌++◌, length, take, Option, Some}
use Rattle.std.specs.Prelude.{None}
use Rattle.chunk_body.specs.Reading.{Reading, Reads}
use Rattle.chunk_body.specs.Verdicts.{IsOpen, IsWhole, IsRefused}
use Rattle.chunk_body.specs.Bodies.{coded, whole, wrong, partial}
use Rattle.chunk_body.specs.declared.place.Place.{Place}
use Rattle.chunk_body.specs.declared.place.Place.TheVariants.{LineStart, Digits, Blanks, Extension}
use Rattle.chunk_body.specs.declared.place.Place.TheVariants.{LineCr, Data, DataEnd, DataCr}
use Rattle.chunk_body.specs.declared.place.Place.TheVariants.{Trailer, Over, Refused}
use Rattle.chunk_body.specs.declared.chunks.Fed.{Fed}
use Rattle.chunk_body.specs.declared.chunks.Fed.TheVariants.{More, Done, Bad, NoMemory}

abbrev pub IsNoMemory : Fed → Type 0
IsNoMemory More = ⊥
IsNoMemory (Done n) = ⊥
IsNoMemory (Bad refusal) = ⊥
IsNoMemory NoMemory = Unit {0}

-- what of the piece was read
abbrev pub read_of : Fed → List ℕ → List ℕ
read_of More piece = piece
read_of (Done n) piece = take n piece
read_of (Bad refusal) piece = piece
read_of NoMemory piece = []

-- What it says of all bytes so far.
abbrev pub Notes : Fed → ℕ → ℕ → List ℕ → List ℕ → List ℕ → List ℕ → Type 0
Notes More max_body max_trailer wire body piece got =
    IsOpen max_body max_trailer (wire ++ piece) (body ++ got)
Notes (Done n) max_body max_trailer wire body piece got = (n ≤ length piece)
    × IsWhole max_body max_trailer (wire ++ take n piece) (body ++ got)
Notes (Bad refusal) max_body max_trailer wire body piece got =
    IsRefused max_body max_trailer (wire ++ piece) (body ++ got) refusal
Notes NoMemory max_body max_trailer wire body piece got = got ≡ []

-- What stands at the front of them, where they were a part of a body before.
abbrev pub Decides : Fed → ℕ → ℕ → List ℕ → List ℕ → List ℕ → List ℕ → Type 0
Decides More max_body max_trailer wire content piece got =
    coded max_body max_trailer (wire ++ piece) ≡ partial (content ++ got)
Decides (Done n) max_body max_trailer wire content piece got =
    coded max_body max_trailer (wire ++ take n piece) ≡ whole (length wire + n) (content ++ got)
Decides (Bad refusal) max_body max_trailer wire content piece got =
    (place : ℕ) × (length wire ≤ place) × (coded max_body max_trailer (wire ++ piece)
    ≡ wrong place refusal)
Decides NoMemory max_body max_trailer wire content piece got = got ≡ []

-- An answer to a piece, and the data that it gave, whatever bytes were read before.
pub record IsFed (answer : Fed) (piece got : List ℕ) (old new : Reading) : Type 0 where
  pub goes_on : (max_body max_trailer : ℕ) (wire body : List ℕ) →
      Reads max_body max_trailer old wire body → Reads max_body max_trailer new
      (wire ++ read_of answer piece) (body ++ got)
  pub tells : (max_body max_trailer : ℕ) (wire body : List ℕ) →
      Reads max_body max_trailer old wire body → Notes answer max_body max_trailer wire body piece
      got
  pub decides : (max_body max_trailer : ℕ) (wire content : List ℕ) →
      Reads max_body max_trailer old wire content → coded max_body max_trailer wire
      ≡ partial content → Decides answer max_body max_trailer wire content piece got

-- the room got these bytes at its end
abbrev pub Gives : List ℕ → List ℕ → (List ℕ → Type 0) → Type 0
Gives old new P = (got : List ℕ) × (new ≡ old ++ got) × P got

abbrev pub lasting_at : Place → Option Fed
lasting_at LineStart = None
lasting_at (Digits n k) = None
lasting_at (Blanks n k) = None
lasting_at (Extension n k) = None
lasting_at (LineCr n k) = None
lasting_at (Data left) = None
lasting_at DataEnd = None
lasting_at DataCr = None
lasting_at (Trailer n m) = None
lasting_at Over = Some (Done 0)
lasting_at (Refused refusal) = Some (Bad refusal)

-- what a reader answers from now on, if that is settled
unfoldable pub lasting : Reading → Option Fed
lasting reading = lasting_at reading.place

-- what an answer settles
abbrev pub Leaves : Fed → Reading → Type 0
Leaves More reading = lasting reading ≡ None
Leaves (Done n) reading = lasting reading ≡ Some (Done 0)
Leaves (Bad refusal) reading = lasting reading ≡ Some (Bad refusal)
Leaves NoMemory reading = Unit {0}

-- a body ends within the piece, and behind a byte of it where it had not ended before
abbrev pub Takes : Fed → ℕ → Option Fed → Type 0
Takes More size before = Unit {0}
Takes (Done n) size before = (n ≤ size) × (before ≡ None → 0 < n)
Takes (Bad refusal) size before = Unit {0}
Takes NoMemory size before = Unit {0}

-- how many bytes the room gets at most
abbrev pub most_of : Fed → ℕ → ℕ
most_of More size = size
most_of (Done n) size = n
most_of (Bad refusal) size = size
most_of NoMemory size = 0
