-- One byte, by the tests of its place: which are passed where it is not refused, and which refuses
-- it.
use Rattle.std.proofs.Common.{◌≡◌, ◌+◌, ◌-◌, ◌*◌, ℕ, zero, suc, Bool, true, false, List, [], refl}
use Rattle.std.proofs.Common.{ap, sym, subst, ◌∙◌, cond, arith}
use Rattle.std.specs.Prelude.{if◌then◌else◌, nat_eq, nat_lt}
use Rattle.byte_tables.specs.Classes.{is_hex, is_field}
use Rattle.chunk_body.specs.Coded.{hex_of, is_blank}
use Rattle.chunk_body.specs.Reading.{mark_step, line_bytes, Reading, behind_line, data_left}
use Rattle.chunk_body.specs.Reading.{behind_digits, trailer_at, step, given, gives, limited}
use Rattle.chunk_body.specs.Reading.{line_within, is_last, is_last_of_trailer, next_place, advance}
use Rattle.chunk_body.specs.Reading.{is_refused, has_ended}
use Rattle.chunk_body.proofs.Places.{refusal_at}
use Rattle.byte_tables.specs.declared.refusal.Refusal.{Refusal}
use Rattle.byte_tables.specs.declared.refusal.Refusal.TheVariants.{BodyTooLarge, ChunkSize}
use Rattle.byte_tables.specs.declared.refusal.Refusal.TheVariants.{ChunkExtension, ChunkLineEnd}
use Rattle.byte_tables.specs.declared.refusal.Refusal.TheVariants.{ChunkLineLong, ChunkEnd}
use Rattle.byte_tables.specs.declared.refusal.Refusal.TheVariants.{TrailerTooLarge}
use Rattle.chunk_body.specs.declared.place.Place.{Place}
use Rattle.chunk_body.specs.declared.place.Place.TheVariants.{LineStart, Digits, Blanks, Extension}
use Rattle.chunk_body.specs.declared.place.Place.TheVariants.{LineCr, Data, DataEnd, DataCr}
use Rattle.chunk_body.specs.declared.place.Place.TheVariants.{Trailer, Over, Refused}
use Rattle.chunk_body.proofs.Choices.{by_cond, eq_of, apart, test_true}

pub no_refusal : {P : Type 0} (r : Refusal) → is_refused (Refused r) ≡ false → P
no_refusal r e = let no : true ≡ false = e in cc

-- a full line stays full, unless its LF comes
abbrev Unended : Place → ℕ → Type 0
Unended p c = (k : ℕ) → p ≡ LineCr 1023 k → c ≡ 10 → ⊥

abbrev Fills : Place → Type 0
Fills q = is_refused q ≡ false → line_bytes q ≡ 1024

fills_behind : (n k c : ℕ) → n ≡ 1023 → Fills (behind_digits (n + 1) k c)
unfolding behind_digits
fills_behind n k c e =
    by_cond Fills (is_blank c) (Blanks (n + 1) k) (if nat_eq c 59 then Extension (n + 1) k
    else (if nat_eq c 13 then LineCr (n + 1) k else Refused ChunkSize)) (λ _ _. omega arith)
    (λ _. by_cond Fills (nat_eq c 59) (Extension (n + 1) k) (if nat_eq c 13 then LineCr (n + 1) k
    else Refused ChunkSize) (λ _ _. omega arith)
    (λ _. by_cond Fills (nat_eq c 13) (LineCr (n + 1) k) (Refused ChunkSize) (λ _ _. omega arith)
    (λ _ e. no_refusal ChunkSize e)))

pub fills : (p : Place) (c : ℕ) → line_bytes p ≡ 1023 → ((k : ℕ) → p ≡ LineCr 1023 k → c ≡ 10 → ⊥) →
    is_refused (step p c) ≡ false → line_bytes (step p c) ≡ 1024
unfolding step
fills LineStart c e u = absurd (omega arith)
fills (Digits n k) c e u =
    by_cond Fills (is_hex c) (if nat_lt n 16 then Digits (n + 1) (16 * k + hex_of c)
    else Refused ChunkSize) (behind_digits (n + 1) k c)
    (λ _. by_cond Fills (nat_lt n 16) (Digits (n + 1) (16 * k + hex_of c)) (Refused ChunkSize)
    (λ _ _. omega arith) (λ _ r. no_refusal ChunkSize r)) (λ _. fills_behind n k c e)
fills (Blanks n k) c e u =
    by_cond Fills (is_blank c) (Blanks (n + 1) k) (if nat_eq c 59 then Extension (n + 1) k
    else Refused ChunkSize) (λ _ _. omega arith)
    (λ _. by_cond Fills (nat_eq c 59) (Extension (n + 1) k) (Refused ChunkSize) (λ _ _. omega arith)
    (λ _ r. no_refusal ChunkSize r))
fills (Extension n k) c e u =
    by_cond Fills (is_field c) (Extension (n + 1) k) (if nat_eq c 13 then LineCr (n + 1) k
    else Refused ChunkExtension) (λ _ _. omega arith)
    (λ _. by_cond Fills (nat_eq c 13) (LineCr (n + 1) k) (Refused ChunkExtension)
    (λ _ _. omega arith) (λ _ r. no_refusal ChunkExtension r))
fills (LineCr n k) c e u =
    by_cond Fills (nat_eq c 10) (behind_line k) (Refused ChunkLineEnd)
    (λ h. absurd (u k (ap (λ j. LineCr j k) e) (eq_of c 10 h)))
    (λ _ r. no_refusal ChunkLineEnd r)
fills (Data left) c e u = absurd (omega arith)
fills DataEnd c e u = absurd (omega arith)
fills DataCr c e u = absurd (omega arith)
fills (Trailer n m) c e u = absurd (omega arith)
fills Over c e u = absurd (omega arith)
fills (Refused r) c e u = absurd (omega arith)

-- a line that becomes full was so but for one byte
pub record Filled (p : Place) (c : ℕ) : Type 0 where
  pub before : line_bytes p ≡ 1023
  pub unended : (k : ℕ) → p ≡ LineCr 1023 k → c ≡ 10 → ⊥
  pub fine : (q : Place) → line_bytes q ≡ 1024 → is_refused q ≡ false

full_fine : (q : Place) → line_bytes q ≡ 1024 → is_refused q ≡ false
full_fine LineStart e = refl
full_fine (Digits n k) e = refl
full_fine (Blanks n k) e = refl
full_fine (Extension n k) e = refl
full_fine (LineCr n k) e = refl
full_fine (Data left) e = refl
full_fine DataEnd e = refl
full_fine DataCr e = refl
full_fine (Trailer n m) e = refl
full_fine Over e = refl
full_fine (Refused r) e = absurd (omega arith)

abbrev Was : Place → ℕ → Place → Type 0
Was p c q = line_bytes q ≡ 1024 → Filled p c

behind_line_0 : (k : ℕ) → line_bytes (behind_line k) ≡ 0
behind_line_0 zero = refl
behind_line_0 (suc k) = refl

data_left_0 : (k : ℕ) → line_bytes (data_left k) ≡ 0
data_left_0 zero = refl
data_left_0 (suc k) = refl

trailer_at_0 : (n m : ℕ) → line_bytes (trailer_at n m) ≡ 0
trailer_at_0 n m = by_cond (λ q. line_bytes q ≡ 0) (nat_eq m 4) Over (Trailer n m) (λ _. refl)
    (λ _. refl)

was_behind : (n k c : ℕ) → Was (Digits n k) c (behind_digits (n + 1) k c)
unfolding behind_digits
was_behind n k c =
    let P : Place → Type 0 = Was (Digits n k) c in
    let f : (n + 1 ≡ 1024) → Filled (Digits n k) c =
    λ e. record { before = omega arith; unended = λ j d. cc; fine = full_fine } in
    by_cond P (is_blank c) (Blanks (n + 1) k) (if nat_eq c 59 then Extension (n + 1) k
    else (if nat_eq c 13 then LineCr (n + 1) k else Refused ChunkSize)) (λ _. f)
    (λ _. by_cond P (nat_eq c 59) (Extension (n + 1) k) (if nat_eq c 13 then LineCr (n + 1) k
    else Refused ChunkSize) (λ _. f)
    (λ _. by_cond P (nat_eq c 13) (LineCr (n + 1) k) (Refused ChunkSize) (λ _. f)
    (λ _ e. absurd (omega arith))))

pub filled : (p : Place) (c : ℕ) → line_bytes (step p c) ≡ 1024 → Filled p c
unfolding step
filled LineStart c = by_cond (Was LineStart c) (is_hex c) (Digits 1 (hex_of c)) (Refused ChunkSize)
    (λ _ e. absurd (omega arith)) (λ _ e. absurd (omega arith))
filled (Digits n k) c =
    let P : Place → Type 0 = Was (Digits n k) c in
    by_cond P (is_hex c) (if nat_lt n 16 then Digits (n + 1) (16 * k + hex_of c)
    else Refused ChunkSize) (behind_digits (n + 1) k c)
    (λ _. by_cond P (nat_lt n 16) (Digits (n + 1) (16 * k + hex_of c)) (Refused ChunkSize)
    (λ _ e. record { before = omega arith; unended = λ j d. cc; fine = full_fine })
    (λ _ e. absurd (omega arith))) (λ _. was_behind n k c)
filled (Blanks n k) c =
    let P : Place → Type 0 = Was (Blanks n k) c in
    by_cond P (is_blank c) (Blanks (n + 1) k) (if nat_eq c 59 then Extension (n + 1) k
    else Refused ChunkSize) (λ _ e. record {
      before = omega arith;
      unended = λ j d. cc;
      fine =
          full_fine;
    })
    (λ _. by_cond P (nat_eq c 59) (Extension (n + 1) k) (Refused ChunkSize)
    (λ _ e. record { before = omega arith; unended = λ j d. cc; fine = full_fine })
    (λ _ e. absurd (omega arith)))
filled (Extension n k) c =
    let P : Place → Type 0 = Was (Extension n k) c in
    by_cond P (is_field c) (Extension (n + 1) k) (if nat_eq c 13 then LineCr (n + 1) k
    else Refused ChunkExtension) (λ _ e. record {
      before = omega arith;
      unended = λ j d. cc;
      fine = full_fine;
    })
    (λ _. by_cond P (nat_eq c 13) (LineCr (n + 1) k) (Refused ChunkExtension)
    (λ _ e. record { before = omega arith; unended = λ j d. cc; fine = full_fine })
    (λ _ e. absurd (omega arith)))
filled (LineCr n k) c =
    by_cond (Was (LineCr n k) c) (nat_eq c 10) (behind_line k) (Refused ChunkLineEnd)
    (λ _ e. absurd (let z = behind_line_0 k in omega arith)) (λ _ e. absurd (omega arith))
filled (Data left) c = λ e. absurd (let z = data_left_0 (left - 1) in omega arith)
filled DataEnd c = by_cond (Was DataEnd c) (nat_eq c 13) DataCr (Refused ChunkEnd)
    (λ _ e. absurd (omega arith)) (λ _ e. absurd (omega arith))
filled DataCr c = by_cond (Was DataCr c) (nat_eq c 10) LineStart (Refused ChunkEnd)
    (λ _ e. absurd (omega arith)) (λ _ e. absurd (omega arith))
filled (Trailer n m) c = λ e. absurd (let z = trailer_at_0 (n + 1) (mark_step m c) in omega arith)
filled Over c = λ e. absurd (omega arith)
filled (Refused r) c = λ e. absurd (omega arith)

-- the table
abbrev Named : Place → Refusal → Place → Type 0
Named p r q = q ≡ Refused r → r ≡ refusal_at p

named_behind : (n k c : ℕ) (r : Refusal) → Named (Digits n k) r (behind_digits (n + 1) k c)
unfolding behind_digits
named_behind n k c r =
    let P : Place → Type 0 = Named (Digits n k) r in
    by_cond P (is_blank c) (Blanks (n + 1) k) (if nat_eq c 59 then Extension (n + 1) k
    else (if nat_eq c 13 then LineCr (n + 1) k else Refused ChunkSize)) (λ _ e. cc)
    (λ _. by_cond P (nat_eq c 59) (Extension (n + 1) k) (if nat_eq c 13 then LineCr (n + 1) k
    else Refused ChunkSize) (λ _ e. cc)
    (λ _. by_cond P (nat_eq c 13) (LineCr (n + 1) k) (Refused ChunkSize) (λ _ e. cc) (λ _ e. cc)))

behind_fine : (k : ℕ) (r : Refusal) → behind_line k ≡ Refused r → ⊥
behind_fine zero r e = cc
behind_fine (suc k) r e = cc

left_fine : (k : ℕ) (r : Refusal) → data_left k ≡ Refused r → ⊥
left_fine zero r e = cc
left_fine (suc k) r e = cc

pub named : (p : Place) (c : ℕ) (r : Refusal) → has_ended p ≡ false → step p c ≡ Refused r →
    r ≡ refusal_at p
unfolding step
named LineStart c r h = by_cond (Named LineStart r) (is_hex c) (Digits 1 (hex_of c))
    (Refused ChunkSize) (λ _ e. cc) (λ _ e. cc)
named (Digits n k) c r h =
    let P : Place → Type 0 = Named (Digits n k) r in
    by_cond P (is_hex c) (if nat_lt n 16 then Digits (n + 1) (16 * k + hex_of c)
    else Refused ChunkSize) (behind_digits (n + 1) k c)
    (λ _. by_cond P (nat_lt n 16) (Digits (n + 1) (16 * k + hex_of c)) (Refused ChunkSize)
    (λ _ e. cc) (λ _ e. cc)) (λ _. named_behind n k c r)
named (Blanks n k) c r h =
    let P : Place → Type 0 = Named (Blanks n k) r in
    by_cond P (is_blank c) (Blanks (n + 1) k) (if nat_eq c 59 then Extension (n + 1) k
    else Refused ChunkSize) (λ _ e. cc)
    (λ _. by_cond P (nat_eq c 59) (Extension (n + 1) k) (Refused ChunkSize) (λ _ e. cc) (λ _ e. cc))
named (Extension n k) c r h =
    let P : Place → Type 0 = Named (Extension n k) r in
    by_cond P (is_field c) (Extension (n + 1) k) (if nat_eq c 13 then LineCr (n + 1) k
    else Refused ChunkExtension) (λ _ e. cc)
    (λ _. by_cond P (nat_eq c 13) (LineCr (n + 1) k) (Refused ChunkExtension) (λ _ e. cc)
    (λ _ e. cc))
named (LineCr n k) c r h = by_cond (Named (LineCr n k) r) (nat_eq c 10) (behind_line k)
    (Refused ChunkLineEnd) (λ _ e. absurd (behind_fine k r e)) (λ _ e. cc)
named (Data left) c r h = λ e. absurd (left_fine (left - 1) r e)
named DataEnd c r h = by_cond (Named DataEnd r) (nat_eq c 13) DataCr (Refused ChunkEnd) (λ _ e. cc)
    (λ _ e. cc)
named DataCr c r h = by_cond (Named DataCr r) (nat_eq c 10) LineStart (Refused ChunkEnd) (λ _ e. cc)
    (λ _ e. cc)
named (Trailer n m) c r h = by_cond (Named (Trailer n m) r) (nat_eq (mark_step m c) 4) Over
    (Trailer (n + 1) (mark_step m c)) (λ _ e. cc) (λ _ e. cc)
named Over c r h = absurd (let no : true ≡ false = h in cc)
named (Refused q) c r h = absurd (let no : true ≡ false = h in cc)

-- one byte that is not refused
pub record Steps (s : Reading) (c : ℕ) : Type 0 where
  pub place : (advance s c).place ≡ step s.place c
  pub gave : gives s c ≡ given s.place c
  pub taken : (advance s c).taken ≡ s.taken + 1
  pub room : s.taken + 1 ≡ s.max_body → ⊥
  pub early : is_last_of_trailer s.max_trailer s.place ≡ false
  pub fine : is_refused (step s.place c) ≡ false
  pub short : line_bytes (step s.place c) ≡ 1024 → ⊥

pub advance_is : (s : Reading) (c : ℕ) → has_ended s.place ≡ false →
    advance s c ≡ record s { taken = s.taken + 1; place = next_place s c }
unfolding advance
advance_is s c h = rw h refl

all_passed : (a b e : Bool) (x y z : Refusal) (q : Place) →
    is_refused (cond a (Refused x) (cond b (Refused y) (cond e (Refused z) q))) ≡ false →
    (a ≡ false) × (b ≡ false) × (e ≡ false)
all_passed true b e x y z q h = no_refusal x h
all_passed false true e x y z q h = no_refusal y h
all_passed false false true x y z q h = no_refusal z h
all_passed false false false x y z q h = (refl, refl, refl)

pub steps : (s : Reading) (c : ℕ) → has_ended s.place ≡ false → is_refused (advance s c).place
    ≡ false → Steps s c
unfolding limited is_last gives
steps s c h e =
    let a = advance_is s c h in
    let n : is_refused (next_place s c) ≡ false = sym (ap (λ (r : Reading). is_refused r.place) a)
    ∙ e in
    let q : Place = step s.place c in
    let t = all_passed (nat_eq (s.taken + 1) s.max_body) (is_last_of_trailer s.max_trailer s.place)
    (nat_eq (line_bytes q) 1024) (BodyTooLarge s.max_body)
    (TrailerTooLarge s.max_trailer) ChunkLineLong q n in
    let p : next_place s c ≡ q =
    ap (λ b. cond b (Refused (BodyTooLarge s.max_body))
    (cond (is_last_of_trailer s.max_trailer s.place) (Refused (TrailerTooLarge s.max_trailer))
    (cond (nat_eq (line_bytes q) 1024) (Refused ChunkLineLong) q))) t.0
    ∙ ap (λ b. cond b (Refused (TrailerTooLarge s.max_trailer))
    (cond (nat_eq (line_bytes q) 1024) (Refused ChunkLineLong) q)) t.1
    ∙ ap (λ b. cond b (Refused ChunkLineLong) q) t.2 in
    let l : nat_eq (s.taken + 1) s.max_body ≡ false = t.0 in
    record {
      place = ap (λ (r : Reading). r.place) a ∙ p;
      gave = rw (h, l) refl;
      taken = ap (λ (r : Reading). r.taken) a;
      room = apart (s.taken + 1) s.max_body t.0;
      early = t.1;
      fine = ap is_refused (sym p) ∙ n;
      short = apart (line_bytes q) 1024 t.2;
    }

-- why a byte is refused
pub data Why (s : Reading) (c : ℕ) : Refusal → Type 0 where
  too_large : s.taken + 1 ≡ s.max_body → Why s c (BodyTooLarge s.max_body)
  too_late : (s.taken + 1 ≡ s.max_body → ⊥) → is_last_of_trailer s.max_trailer s.place ≡ true →
      Why s c (TrailerTooLarge s.max_trailer)
  too_long : (s.taken + 1 ≡ s.max_body → ⊥) → Filled s.place c → is_refused (step s.place c)
      ≡ false → Why s c ChunkLineLong
  no_front : (r : Refusal) → (s.taken + 1 ≡ s.max_body → ⊥) →
      is_last_of_trailer s.max_trailer s.place ≡ false → step s.place c ≡ Refused r →
      Why s c (refusal_at s.place)

same_refusal : (s : Reading) (c : ℕ) (x r : Refusal) → Refused x ≡ Refused r → Why s c x → Why s c r
same_refusal s c x r e w = let q : x ≡ r = cc in subst (Why s c) q w

pub why : (s : Reading) (c : ℕ) (r : Refusal) → has_ended s.place ≡ false → (advance s c).place
    ≡ Refused r → Why s c r
unfolding limited is_last
why s c r h e =
    let n : next_place s c ≡ Refused r = sym (ap (λ (x : Reading). x.place) (advance_is s c h))
    ∙ e in
    let q : Place = step s.place c in
    let P : Place → Type 0 = λ p. p ≡ Refused r → Why s c r in
    by_cond P (nat_eq (s.taken + 1) s.max_body) (Refused (BodyTooLarge s.max_body))
    (limited s.max_trailer s.place c)
    (λ b g. same_refusal s c (BodyTooLarge s.max_body) r g
    (too_large (eq_of (s.taken + 1) s.max_body b)))
    (λ b. let f = apart (s.taken + 1) s.max_body b in
    by_cond P (is_last_of_trailer s.max_trailer s.place) (Refused (TrailerTooLarge s.max_trailer))
    (line_within q)
    (λ t g. same_refusal s c (TrailerTooLarge s.max_trailer) r g (too_late f t))
    (λ early. by_cond P (nat_eq (line_bytes q) 1024) (Refused ChunkLineLong) q
    (λ l g. let w = filled s.place c (eq_of (line_bytes q) 1024 l) in
    same_refusal s c ChunkLineLong r g (too_long f w (w.fine q (eq_of (line_bytes q) 1024 l))))
    (λ _ g. subst (Why s c) (sym (named s.place c r h g)) (no_front r f early g))))
    n

none_left : (left c : ℕ) (r : Refusal) → data_left (left - 1) ≡ Refused r → given (Data left) c ≡ []
none_left left c r e = absurd (left_fine (left - 1) r e)

wrong_gives : (p : Place) (c : ℕ) (r : Refusal) → step p c ≡ Refused r → given p c ≡ []
unfolding step
wrong_gives LineStart c r e = refl
wrong_gives (Digits n k) c r e = refl
wrong_gives (Blanks n k) c r e = refl
wrong_gives (Extension n k) c r e = refl
wrong_gives (LineCr n k) c r e = refl
wrong_gives (Data left) c r e = none_left left c r e
wrong_gives DataEnd c r e = refl
wrong_gives DataCr c r e = refl
wrong_gives (Trailer n m) c r e = refl
wrong_gives Over c r e = refl
wrong_gives (Refused q) c r e = refl

late_gives : (max : ℕ) (p : Place) (c : ℕ) → is_last_of_trailer max p ≡ true → given p c ≡ []
late_gives max LineStart c e = refl
late_gives max (Digits n k) c e = refl
late_gives max (Blanks n k) c e = refl
late_gives max (Extension n k) c e = refl
late_gives max (LineCr n k) c e = refl
late_gives max (Data left) c e = let no : false ≡ true = e in cc
late_gives max DataEnd c e = refl
late_gives max DataCr c e = refl
late_gives max (Trailer n m) c e = refl
late_gives max Over c e = refl
late_gives max (Refused q) c e = refl

full_gives : (p : Place) (c : ℕ) → line_bytes p ≡ 1023 → given p c ≡ []
full_gives LineStart c e = refl
full_gives (Digits n k) c e = refl
full_gives (Blanks n k) c e = refl
full_gives (Extension n k) c e = refl
full_gives (LineCr n k) c e = refl
full_gives (Data left) c e = absurd (omega arith)
full_gives DataEnd c e = refl
full_gives DataCr c e = refl
full_gives (Trailer n m) c e = refl
full_gives Over c e = refl
full_gives (Refused q) c e = refl

same_sides : (b : Bool) (l : List ℕ) → l ≡ [] → cond b [] l ≡ []
same_sides true l e = refl
same_sides false l e = e

-- a refused byte is no data
why_gives : (s : Reading) (c : ℕ) (r : Refusal) → has_ended s.place ≡ false → Why s c r →
    gives s c ≡ []
unfolding gives is_last
why_gives s c r h (too_large e) = let t : nat_eq (s.taken + 1) s.max_body ≡ true =
    test_true (s.taken + 1) s.max_body e in rw (h, t) refl
why_gives s c r h (too_late f t) = rw h (same_sides (nat_eq (s.taken + 1) s.max_body)
    (given s.place c) (late_gives s.max_trailer s.place c t))
why_gives s c r h (too_long f w e) = rw h (same_sides (nat_eq (s.taken + 1) s.max_body)
    (given s.place c) (full_gives s.place c w.before))
why_gives s c r h (no_front q f early e) = rw h (same_sides (nat_eq (s.taken + 1) s.max_body)
    (given s.place c) (wrong_gives s.place c q e))

pub refused_gives : (s : Reading) (c : ℕ) (r : Refusal) → has_ended s.place ≡ false →
    (advance s c).place ≡ Refused r → gives s c ≡ []
refused_gives s c r h e = why_gives s c r h (why s c r h e)
