-- Reading the chunked coding byte by byte, as the code does. `coded` of specs/Bodies.antt is
-- computed by it; what it says is the law `one_front`, by specs/Verdicts.antt alone.
use Rattle.std.specs.Prelude.{◌≡◌, ◌≤◌, ◌<◌, ◌+◌, ◌*◌, ◌-◌, ◌^◌, ℕ, zero, suc, min, Bool, true}
use Rattle.std.specs.Prelude.{false, ◌||◌, nat_lt, nat_eq, List, [], ◌∷◌, ◌++◌, length}
use Rattle.std.specs.Prelude.{if◌then◌else◌}
use Rattle.byte_tables.specs.Classes.{is_hex, is_field}
use Rattle.chunk_body.specs.Coded.{hex_of, is_blank}
use Rattle.byte_tables.specs.declared.refusal.Refusal.TheVariants.{BodyTooLarge, ChunkSize}
use Rattle.byte_tables.specs.declared.refusal.Refusal.TheVariants.{ChunkExtension, ChunkLineEnd}
use Rattle.byte_tables.specs.declared.refusal.Refusal.TheVariants.{ChunkLineLong, ChunkEnd}
use Rattle.byte_tables.specs.declared.refusal.Refusal.TheVariants.{TrailerTooLarge}
use Rattle.chunk_body.specs.declared.place.Place.{Place}
use Rattle.chunk_body.specs.declared.place.Place.TheVariants.{LineStart, Digits, Blanks, Extension}
use Rattle.chunk_body.specs.declared.place.Place.TheVariants.{LineCr, Data, DataEnd, DataCr}
use Rattle.chunk_body.specs.declared.place.Place.TheVariants.{Trailer, Over, Refused}

-- how much of CR LF CR LF stands at the end, with one more byte; a trailer section begins with two
-- of them, since it stands behind a line
unfoldable pub mark_step : ℕ → ℕ → ℕ
mark_step m c =
    if nat_eq c 13 then (if nat_eq m 2 then 3 else 1)
    else (if nat_eq c 10 then (if nat_eq m 1 then 2 else (if nat_eq m 3 then 4 else 0)) else 0)

-- how many bytes of a line there are, and 0 outside of lines
abbrev pub line_bytes : Place → ℕ
line_bytes LineStart = 0
line_bytes (Digits n k) = n
line_bytes (Blanks n k) = n
line_bytes (Extension n k) = n
line_bytes (LineCr n k) = n
line_bytes (Data left) = 0
line_bytes DataEnd = 0
line_bytes DataCr = 0
line_bytes (Trailer n m) = 0
line_bytes Over = 0
line_bytes (Refused r) = 0

-- whether nothing more is read at a place
abbrev pub has_ended : Place → Bool
has_ended LineStart = false
has_ended (Digits n k) = false
has_ended (Blanks n k) = false
has_ended (Extension n k) = false
has_ended (LineCr n k) = false
has_ended (Data left) = false
has_ended DataEnd = false
has_ended DataCr = false
has_ended (Trailer n m) = false
has_ended Over = true
has_ended (Refused r) = true

-- behind the line of a chunk of so many bytes
abbrev pub behind_line : ℕ → Place
behind_line zero = Trailer 0 2
behind_line (suc k) = Data (suc k)

-- in the data, of which so much is missing
abbrev pub data_left : ℕ → Place
data_left zero = DataEnd
data_left (suc k) = Data (suc k)

-- behind the digits of a line, n bytes with the next one
unfoldable pub behind_digits : ℕ → ℕ → ℕ → Place
behind_digits n k c =
    if is_blank c then Blanks n k else (if nat_eq c 59 then Extension n k
    else (if nat_eq c 13 then LineCr n k else Refused ChunkSize))

-- in a trailer section with so many bytes, where so much of CR LF CR LF stands at the end
abbrev pub trailer_at : ℕ → ℕ → Place
trailer_at n m = if nat_eq m 4 then Over else Trailer n m

-- the place behind one more byte, with no limits
unfoldable pub step : Place → ℕ → Place
step LineStart c = if is_hex c then Digits 1 (hex_of c) else Refused ChunkSize
step (Digits n k) c =
    if is_hex c then (if nat_lt n 16 then Digits (n + 1) (16 * k + hex_of c) else Refused ChunkSize)
    else behind_digits (n + 1) k c
step (Blanks n k) c = if is_blank c then Blanks (n + 1) k
    else (if nat_eq c 59 then Extension (n + 1) k else Refused ChunkSize)
step (Extension n k) c = if is_field c then Extension (n + 1) k
    else (if nat_eq c 13 then LineCr (n + 1) k else Refused ChunkExtension)
step (LineCr n k) c = if nat_eq c 10 then behind_line k else Refused ChunkLineEnd
step (Data left) c = data_left (left - 1)
step DataEnd c = if nat_eq c 13 then DataCr else Refused ChunkEnd
step DataCr c = if nat_eq c 10 then LineStart else Refused ChunkEnd
step (Trailer n m) c = trailer_at (n + 1) (mark_step m c)
step Over c = Refused ChunkSize
step (Refused r) c = Refused r

-- the data that one more byte is
abbrev pub given : Place → ℕ → List ℕ
given LineStart c = []
given (Digits n k) c = []
given (Blanks n k) c = []
given (Extension n k) c = []
given (LineCr n k) c = []
given (Data left) c = c ∷ []
given DataEnd c = []
given DataCr c = []
given (Trailer n m) c = []
given Over c = []
given (Refused r) c = []

abbrev pub is_refused : Place → Bool
is_refused LineStart = false
is_refused (Digits n k) = false
is_refused (Blanks n k) = false
is_refused (Extension n k) = false
is_refused (LineCr n k) = false
is_refused (Data left) = false
is_refused DataEnd = false
is_refused DataCr = false
is_refused (Trailer n m) = false
is_refused Over = false
is_refused (Refused r) = true

-- whether the next byte is number max of a trailer section
abbrev pub is_last_of_trailer : ℕ → Place → Bool
is_last_of_trailer max LineStart = false
is_last_of_trailer max (Digits n k) = false
is_last_of_trailer max (Blanks n k) = false
is_last_of_trailer max (Extension n k) = false
is_last_of_trailer max (LineCr n k) = false
is_last_of_trailer max (Data left) = false
is_last_of_trailer max DataEnd = false
is_last_of_trailer max DataCr = false
is_last_of_trailer max (Trailer n m) = nat_eq (n + 1) max
is_last_of_trailer max Over = false
is_last_of_trailer max (Refused r) = false

-- a place, but no line has 1,024 bytes and no end
abbrev pub line_within : Place → Place
line_within place = if nat_eq (line_bytes place) 1024 then Refused ChunkLineLong else place

-- the place behind one more byte, with the limits of lines and trailer sections
unfoldable pub limited : ℕ → Place → ℕ → Place
limited max_trailer place c =
    if is_last_of_trailer max_trailer place then Refused (TrailerTooLarge max_trailer)
    else line_within (step place c)

-- a reader: its limits, how many bytes it read, and its place
pub record Reading : Type 0 where
  pub max_body : ℕ
  pub max_trailer : ℕ
  pub taken : ℕ
  pub place : Place

-- whether the next byte makes the body too long
unfoldable pub is_last : Reading → Bool
is_last r = nat_eq (r.taken + 1) r.max_body

-- the place behind one more byte
abbrev pub next_place : Reading → ℕ → Place
next_place r c = if is_last r then Refused (BodyTooLarge r.max_body)
    else limited r.max_trailer r.place c

-- behind one more byte; behind an end nothing is read
unfoldable pub advance : Reading → ℕ → Reading
advance r c = if has_ended r.place then r else record r {
  taken = r.taken + 1;
  place =
      next_place r c;
}

-- the data that one more byte is, unless a limit refuses it
unfoldable pub gives : Reading → ℕ → List ℕ
gives r c = if has_ended r.place || is_last r then [] else given r.place c

-- behind these bytes
unfoldable pub reads : Reading → List ℕ → Reading
reads r [] = r
reads r (c ∷ cs) = reads (advance r c) cs

-- the data among them
unfoldable pub decodes : Reading → List ℕ → List ℕ
decodes r [] = []
decodes r (c ∷ cs) = gives r c ++ decodes (advance r c) cs

-- what keeps the numbers of a place within their types
abbrev pub IsSound : ℕ → Place → Type 0
IsSound max_trailer LineStart = Unit {0}
IsSound max_trailer (Digits n k) = (n ≤ 16) × (k < 16 ^ n)
IsSound max_trailer (Blanks n k) = (n < 1024) × (k < 2 ^ 64)
IsSound max_trailer (Extension n k) = (n < 1024) × (k < 2 ^ 64)
IsSound max_trailer (LineCr n k) = (n < 1024) × (k < 2 ^ 64)
IsSound max_trailer (Data left) = (0 < left) × (left < 2 ^ 64)
IsSound max_trailer DataEnd = Unit {0}
IsSound max_trailer DataCr = Unit {0}
IsSound max_trailer (Trailer n m) = (n < max_trailer) × (m < 4)
IsSound max_trailer Over = Unit {0}
IsSound max_trailer (Refused r) = Unit {0}

-- how many of the next bytes are data that no limit refuses
abbrev pub run_at : Place → ℕ → ℕ → ℕ
run_at LineStart free len = 0
run_at (Digits n k) free len = 0
run_at (Blanks n k) free len = 0
run_at (Extension n k) free len = 0
run_at (LineCr n k) free len = 0
run_at (Data left) free len = min (min left free) len
run_at DataEnd free len = 0
run_at DataCr free len = 0
run_at (Trailer n m) free len = 0
run_at Over free len = 0
run_at (Refused r) free len = 0

abbrev pub data_run : Reading → ℕ → ℕ
data_run r len = run_at r.place (r.max_body - 1 - r.taken) len

abbrev pub passed_at : Place → ℕ → Place
passed_at LineStart n = LineStart
passed_at (Digits a b) n = LineStart
passed_at (Blanks a b) n = LineStart
passed_at (Extension a b) n = LineStart
passed_at (LineCr a b) n = LineStart
passed_at (Data left) n = data_left (left - n)
passed_at DataEnd n = LineStart
passed_at DataCr n = LineStart
passed_at (Trailer a b) n = LineStart
passed_at Over n = LineStart
passed_at (Refused r) n = LineStart

-- behind n bytes of data
abbrev pub passed : Reading → ℕ → Reading
passed r n = record r { taken = r.taken + n; place = passed_at r.place n }

-- before any byte
abbrev pub fresh : ℕ → ℕ → Reading
fresh max_body max_trailer = record {
  max_body = max_body;
  max_trailer = max_trailer;
  taken = 0;
  place = LineStart;
}

-- A reader that read these bytes, and what it gave. Behind a refusal more bytes may stand.
pub record Reads (max_body max_trailer : ℕ) (reading : Reading) (wire body : List ℕ) : Type 0 where
  pub state : reading ≡ reads (fresh max_body max_trailer) wire
  pub gave : body ≡ decodes (fresh max_body max_trailer) wire
  pub count : is_refused reading.place ≡ false → reading.taken ≡ length wire
