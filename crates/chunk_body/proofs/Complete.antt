-- Lines, data and chunks of the grammar are read to their places.
use Rattle.std.proofs.Common.{◌≡◌, ◌≤◌, ◌<◌, ◌+◌, ◌-◌, ◌*◌, ℕ, zero, suc, true, false, IsTrue, List}
use Rattle.std.proofs.Common.{[], ◌∷◌, ◌++◌, length, refl, ap, sym, subst, ◌∙◌, arith, inl, inr}
use Rattle.std.proofs.Common.{◌⊎◌, append_assoc, length-append}
use Rattle.std.specs.Prelude.{nat_eq, nat_lt}
use Rattle.std.specs.List.{AllByRecursion}
use Rattle.std.proofs.lemmas.Grind.{common_steps}
use Rattle.std.proofs.lemmas.List.{append-nil}
use Rattle.byte_tables.specs.Classes.{is_hex, is_field}
use Rattle.chunk_body.specs.Coded.{hex_of, hex_from, is_blank, crlf, AreDigits, IsExtension, IsLine}
use Rattle.chunk_body.specs.Coded.{Chunk, chunk_text, text, joined, IsChunk}
use Rattle.chunk_body.specs.Verdicts.{InLineEnd, InData}
use Rattle.chunk_body.specs.Reading.{behind_line, data_left, behind_digits, step, given}
use Rattle.chunk_body.specs.declared.place.Place.{Place}
use Rattle.chunk_body.specs.declared.place.Place.TheVariants.{LineStart, Digits, Blanks, Extension}
use Rattle.chunk_body.specs.declared.place.Place.TheVariants.{LineCr, DataEnd, DataCr}
use Rattle.chunk_body.proofs.Choices.{by_or, eq_of}

-- the place behind some bytes, and the data among them
abbrev pub run : Place → List ℕ → Place
run p [] = p
run p (c ∷ cs) = run (step p c) cs

abbrev pub out : Place → List ℕ → List ℕ
out p [] = []
out p (c ∷ cs) = given p c ++ out (step p c) cs

pub run-append : (p : Place) (xs ys : List ℕ) → run p (xs ++ ys) ≡ run (run p xs) ys
run-append p [] ys = refl
run-append p (x ∷ xs) ys = run-append (step p x) xs ys

pub out-append : (p : Place) (xs ys : List ℕ) → out p (xs ++ ys) ≡ out p xs ++ out (run p xs) ys
out-append p [] ys = refl
out-append p (x ∷ xs) ys =
    ap (λ l. given p x ++ l) (out-append (step p x) xs ys)
    ∙ sym (append_assoc (given p x) (out (step p x) xs) (out (run (step p x) xs) ys))

pub record Goes (p : Place) (xs : List ℕ) (q : Place) (got : List ℕ) : Type 0 where
  pub place : run p xs ≡ q
  pub gave : out p xs ≡ got

pub stays : (p : Place) → Goes p [] p []
stays p = record { place = refl; gave = refl }

pub joins : (p q r : Place) (xs ys a b : List ℕ) → Goes p xs q a → Goes q ys r b →
    Goes p (xs ++ ys) r (a ++ b)
joins p q r xs ys a b g h = record {
  place = run-append p xs ys ∙ ap (λ k. run k ys) g.place ∙ h.place;
  gave = out-append p xs ys ∙ ap (λ k. out p xs ++ out k ys) g.place
      ∙ ap (λ l. l ++ out q ys) g.gave ∙ ap (λ l. a ++ l) h.gave;
}

-- one byte, and then the rest
pub first : (p q r : Place) (c : ℕ) (xs b : List ℕ) → step p c ≡ q → given p c ≡ [] →
    Goes q xs r b → Goes p (c ∷ xs) r b
first p q r c xs b s g h = record {
  place = ap (λ k. run k xs) s ∙ h.place;
  gave = ap (λ l. l ++ out (step p c) xs) g ∙ ap (λ k. out k xs) s ∙ h.gave;
}

pub arrives : (p q r : Place) (xs a : List ℕ) → q ≡ r → Goes p xs q a → Goes p xs r a
arrives p q r xs a e g = record { place = g.place ∙ e; gave = g.gave }

below : (n : ℕ) → n < 16 → nat_lt n 16 ≡ true
below n l = grind (arith, common_steps)

blank_no_hex : (b : ℕ) → is_blank b ≡ true → is_hex b ≡ false
unfolding is_blank
blank_no_hex b h = by_or (nat_eq b 32) (nat_eq b 9) h
    (λ e. subst (λ d. is_hex d ≡ false) (sym (eq_of b 32 e)) refl)
    (λ e. subst (λ d. is_hex d ≡ false) (sym (eq_of b 9 e)) refl)

digits_go : (n k : ℕ) (ds : List ℕ) → AllByRecursion (λ d. IsTrue (is_hex d)) ds →
    n + length ds ≤ 16 → Goes (Digits n k) ds (Digits (n + length ds) (hex_from k ds)) []
unfolding step
digits_go n k [] h l = record {
  place = let e : n ≡ n + 0 = omega arith in ap (λ j. Digits j k) e;
  gave = refl;
}
digits_go n k (d ∷ ds) h l =
    let few : nat_lt n 16 ≡ true = below n (omega arith) in
    let hex : is_hex d ≡ true = h.0 in
    let s : step (Digits n k) d ≡ Digits (n + 1) (16 * k + hex_of d) = rw (hex, few) refl in
    first (Digits n k) (Digits (n + 1) (16 * k + hex_of d))
    (Digits (n + length (d ∷ ds)) (hex_from k (d ∷ ds))) d ds [] s refl
    (arrives (Digits (n + 1) (16 * k + hex_of d)) (Digits ((n + 1) + length ds)
    (hex_from (16 * k + hex_of d) ds)) (Digits (n + length (d ∷ ds)) (hex_from k (d ∷ ds))) ds
    []
    (let e : (n + 1) + length ds ≡ n + length (d ∷ ds) = omega arith in
    ap (λ j. Digits j (hex_from (16 * k + hex_of d) ds)) e)
    (digits_go (n + 1) (16 * k + hex_of d) ds h.1 (omega arith)))

number_at : (ds : List ℕ) (k : ℕ) → AllByRecursion (λ d. IsTrue (is_hex d)) ds → 0 < length ds →
    length ds ≤ 16 → hex_from 0 ds ≡ k → Goes LineStart ds (Digits (length ds) k) []
unfolding step
number_at [] k h s l e = absurd (omega arith)
number_at (d ∷ ds) k h s l e =
    let hex : is_hex d ≡ true = h.0 in
    let one : step LineStart d ≡ Digits 1 (hex_of d) = rw hex refl in
    let n : 1 + length ds ≡ length (d ∷ ds) = omega arith in
    let same : 16 * 0 + hex_of d ≡ hex_of d = omega arith in
    first LineStart (Digits 1 (hex_of d)) (Digits (length (d ∷ ds)) k) d ds [] one refl
    (arrives (Digits 1 (hex_of d)) (Digits (1 + length ds) (hex_from (hex_of d) ds))
    (Digits (length (d ∷ ds)) k) ds []
    (ap (λ j. Digits j (hex_from (hex_of d) ds)) n
    ∙ ap (λ j. Digits (length (d ∷ ds)) j) (ap (λ j. hex_from j ds) (sym same) ∙ e))
    (digits_go 1 (hex_of d) ds h.1 (omega arith)))

pub number_goes : (ds : List ℕ) (k : ℕ) → AreDigits ds k →
    Goes LineStart ds (Digits (length ds) k) []
number_goes ds k h = number_at ds k h.hex h.some h.few h.spelled

blanks_go : (n k : ℕ) (bs : List ℕ) → AllByRecursion (λ b. IsTrue (is_blank b)) bs →
    Goes (Blanks n k) bs (Blanks (n + length bs) k) []
unfolding step
blanks_go n k [] h = record {
  place = let e : n ≡ n + 0 = omega arith in ap (λ j. Blanks j k) e;
  gave = refl;
}
blanks_go n k (b ∷ bs) h =
    let blank : is_blank b ≡ true = h.0 in
    let s : step (Blanks n k) b ≡ Blanks (n + 1) k = rw blank refl in
    first (Blanks n k) (Blanks (n + 1) k) (Blanks (n + length (b ∷ bs)) k) b bs [] s refl
    (arrives (Blanks (n + 1) k) (Blanks ((n + 1) + length bs) k)
    (Blanks (n + length (b ∷ bs)) k) bs []
    (let e : (n + 1) + length bs ≡ n + length (b ∷ bs) = omega arith in
    ap (λ j. Blanks j k) e) (blanks_go (n + 1) k bs h.1))

fields_go : (n k : ℕ) (bs : List ℕ) → AllByRecursion (λ b. IsTrue (is_field b)) bs →
    Goes (Extension n k) bs (Extension (n + length bs) k) []
unfolding step
fields_go n k [] h = record {
  place = let e : n ≡ n + 0 = omega arith in ap (λ j. Extension j k) e;
  gave = refl;
}
fields_go n k (b ∷ bs) h =
    let field : is_field b ≡ true = h.0 in
    let s : step (Extension n k) b ≡ Extension (n + 1) k = rw field refl in
    first (Extension n k) (Extension (n + 1) k) (Extension (n + length (b ∷ bs)) k) b bs [] s refl
    (arrives (Extension (n + 1) k) (Extension ((n + 1) + length bs) k)
    (Extension (n + length (b ∷ bs)) k) bs []
    (let e : (n + 1) + length bs ≡ n + length (b ∷ bs) = omega arith in ap (λ j. Extension j k) e)
    (fields_go (n + 1) k bs h.1))

-- a line, behind its digits
pub blanks_at : (n k : ℕ) (bs : List ℕ) → 0 < length bs →
    AllByRecursion (λ b. IsTrue (is_blank b)) bs →
    Goes (Digits n k) bs (Blanks (n + length bs) k) []
unfolding step behind_digits
blanks_at n k [] l h = absurd (omega arith)
blanks_at n k (b ∷ bs) l h =
    let blank : is_blank b ≡ true = h.0 in
    let hex : is_hex b ≡ false = blank_no_hex b blank in
    let s : step (Digits n k) b ≡ Blanks (n + 1) k = rw (hex, blank) refl in
    first (Digits n k) (Blanks (n + 1) k) (Blanks (n + length (b ∷ bs)) k) b bs [] s refl
    (arrives (Blanks (n + 1) k) (Blanks ((n + 1) + length bs) k)
    (Blanks (n + length (b ∷ bs)) k) bs []
    (let e : (n + 1) + length bs ≡ n + length (b ∷ bs) = omega arith in
    ap (λ j. Blanks j k) e) (blanks_go (n + 1) k bs h.1))

-- an extension, behind the digits or the blanks
semicolon_at : (n k : ℕ) (fs : List ℕ) → AllByRecursion (λ b. IsTrue (is_field b)) fs →
    Goes (Digits n k) (59 ∷ fs) (Extension (n + length (59 ∷ fs)) k) []
unfolding step behind_digits is_blank
semicolon_at n k fs h =
    first (Digits n k) (Extension (n + 1) k) (Extension (n + length (59 ∷ fs)) k) 59 fs [] refl refl
    (arrives (Extension (n + 1) k) (Extension ((n + 1) + length fs) k)
    (Extension (n + length (59 ∷ fs)) k) fs []
    (let e : (n + 1) + length fs ≡ n + length (59 ∷ fs) = omega arith in ap (λ j. Extension j k) e)
    (fields_go (n + 1) k fs h))

semicolon_behind : (n k : ℕ) (fs : List ℕ) → AllByRecursion (λ b. IsTrue (is_field b)) fs →
    Goes (Blanks n k) (59 ∷ fs) (Extension (n + length (59 ∷ fs)) k) []
unfolding step is_blank
semicolon_behind n k fs h =
    first (Blanks n k) (Extension (n + 1) k) (Extension (n + length (59 ∷ fs)) k) 59 fs [] refl refl
    (arrives (Extension (n + 1) k) (Extension ((n + 1) + length fs) k)
    (Extension (n + length (59 ∷ fs)) k) fs []
    (let e : (n + 1) + length fs ≡ n + length (59 ∷ fs) = omega arith in ap (λ j. Extension j k) e)
    (fields_go (n + 1) k fs h))

extension_of : (n k : ℕ) (bs fs : List ℕ) → AllByRecursion (λ b. IsTrue (is_blank b)) bs →
    AllByRecursion (λ b. IsTrue (is_field b)) fs →
    Goes (Digits n k) (bs ++ (59 ∷ fs)) (Extension (n + length (bs ++ (59 ∷ fs))) k) []
extension_of n k [] fs b f = semicolon_at n k fs f
extension_of n k (x ∷ bs) fs b f =
    arrives (Digits n k) (Extension ((n + length (x ∷ bs)) + length (59 ∷ fs)) k)
    (Extension (n + length ((x ∷ bs) ++ (59 ∷ fs))) k) ((x ∷ bs) ++ (59 ∷ fs)) []
    (let e : (n + length (x ∷ bs)) + length (59 ∷ fs) ≡ n + length ((x ∷ bs) ++ (59 ∷ fs)) =
    omega (arith, length-append (x ∷ bs) (59 ∷ fs)) in ap (λ j. Extension j k) e)
    (joins (Digits n k) (Blanks (n + length (x ∷ bs)) k)
    (Extension ((n + length (x ∷ bs)) + length (59 ∷ fs)) k) (x ∷ bs) (59 ∷ fs) [] []
    (blanks_at n k (x ∷ bs) (omega arith) b) (semicolon_behind (n + length (x ∷ bs)) k fs f))

pub extension_goes : (n k : ℕ) (ext : List ℕ) → IsExtension ext →
    Goes (Digits n k) ext (Extension (n + length ext) k) []
extension_goes n k ext h =
    subst (λ e. Goes (Digits n k) e (Extension (n + length e) k) []) (sym h.whole)
    (extension_of n k h.blanks h.fields h.blank h.field)

-- the CR of a line
cr_digits : (n k : ℕ) → Goes (Digits n k) (13 ∷ []) (LineCr (n + 1) k) []
unfolding step behind_digits is_blank
cr_digits n k = record { place = refl; gave = refl }

cr_extension : (n k : ℕ) → Goes (Extension n k) (13 ∷ []) (LineCr (n + 1) k) []
unfolding step
cr_extension n k = record { place = refl; gave = refl }

cr_of : (n k : ℕ) (ext : List ℕ) → ((ext ≡ []) ⊎ IsExtension ext) →
    Goes (Digits n k) (ext ++ 13 ∷ []) (LineCr (n + length (ext ++ 13 ∷ [])) k) []
cr_of n k ext h = elim h [
  | inl e ↦ subst (λ x. Goes (Digits n k) (x ++ 13 ∷ []) (LineCr (n + length (x ++ 13 ∷ [])) k) [])
      (sym e) (cr_digits n k)
  | inr w ↦ arrives (Digits n k) (LineCr ((n + length ext) + 1) k)
      (LineCr (n + length (ext ++ 13 ∷ [])) k) (ext ++ 13 ∷ []) []
      (let e : (n + length ext) + 1 ≡ n + length (ext ++ 13 ∷ []) =
      omega (arith, length-append ext (13 ∷ [])) in ap (λ j. LineCr j k) e)
      (joins (Digits n k) (Extension (n + length ext) k) (LineCr ((n + length ext) + 1) k) ext
      (13 ∷ []) [] [] (extension_goes n k ext w) (cr_extension (n + length ext) k))
]

pub line_end_goes : (part : List ℕ) (k : ℕ) → InLineEnd part k →
    Goes LineStart part (LineCr (length part) k) []
line_end_goes part k h =
    let tail : List ℕ = h.extension ++ 13 ∷ [] in
    let g : Goes LineStart (h.digits ++ tail) (LineCr (length h.digits + length tail) k) [] =
    joins LineStart (Digits (length h.digits) k) (LineCr (length h.digits + length tail) k) h.digits
    tail [] []
    (number_goes h.digits k h.sized) (cr_of (length h.digits) k h.extension h.extended) in
    subst (λ x. Goes LineStart x (LineCr (length x) k) []) (sym h.whole)
    (arrives LineStart (LineCr (length h.digits + length tail) k)
    (LineCr (length (h.digits ++ tail)) k) (h.digits ++ tail) []
    (ap (λ j. LineCr j k) (sym (length-append h.digits tail))) g)

lf_goes : (n k : ℕ) → Goes (LineCr n k) (10 ∷ []) (behind_line k) []
unfolding step
lf_goes n k = record { place = refl; gave = refl }

pub line_goes : (line : List ℕ) (k : ℕ) → IsLine line k → Goes LineStart line (behind_line k) []
line_goes line k h =
    let part : List ℕ = h.digits ++ (h.extension ++ 13 ∷ []) in
    let e : line ≡ part ++ 10 ∷ [] =
    h.whole ∙ sym (append_assoc h.digits (h.extension ++ 13 ∷ []) (10 ∷ [])
    ∙ ap (λ l. h.digits ++ l) (append_assoc h.extension (13 ∷ []) (10 ∷ []))) in
    let i : InLineEnd part k = record {
      digits = h.digits;
      extension = h.extension;
      sized = h.sized;
      extended = h.extended;
      whole = refl;
    } in
    subst (λ x. Goes LineStart x (behind_line k) []) (sym e)
    (joins LineStart (LineCr (length part) k) (behind_line k) part (10 ∷ []) [] []
    (line_end_goes part k i) (lf_goes (length part) k))

-- data
pub data_goes : (d : List ℕ) (left : ℕ) → Goes (data_left (length d + left)) d (data_left left) d
unfolding step
data_goes [] left = record {
  place = let e : 0 + left ≡ left = omega arith in ap data_left e;
  gave =
      refl;
}
data_goes (c ∷ d) left =
    let n : length (c ∷ d) + left ≡ suc (length d + left) = omega arith in
    let m : suc (length d + left) - 1 ≡ length d + left = omega arith in
    let more = data_goes d left in
    subst (λ k. Goes (data_left k) (c ∷ d) (data_left left) (c ∷ d)) (sym n)
    (record {
      place = ap (λ k. run (data_left k) d) m ∙ more.place;
      gave = ap (λ l. c ∷ l) (ap (λ k. out (data_left k) d) m ∙ more.gave);
    })

behind_some : (k : ℕ) → 0 < k → behind_line k ≡ data_left k
behind_some zero l = absurd (omega arith)
behind_some (suc k) l = refl

-- a line, some data and what stands behind it
pub in_data_goes : (part got behind : List ℕ) (left : ℕ) (q : Place) → InData part got behind left →
    Goes (data_left left) behind q [] → Goes LineStart part q got
in_data_goes part got behind left q h g =
    let l : Goes LineStart h.line (data_left (length got + left)) [] =
    arrives LineStart (behind_line (length got + left)) (data_left (length got + left)) h.line []
    (behind_some (length got + left) h.some) (line_goes h.line (length got + left) h.sized) in
    let d : Goes (data_left (length got + left)) (got ++ behind) q (got ++ []) =
    joins (data_left (length got + left)) (data_left left) q got behind got []
    (data_goes got left) g in
    let all : Goes LineStart (h.line ++ (got ++ behind)) q ([] ++ (got ++ [])) =
    joins LineStart (data_left (length got + left)) q h.line (got ++ behind) []
    (got ++ []) l d in
    subst (λ x. Goes LineStart x q got) (sym h.whole) (record {
      place = all.place;
      gave =
          all.gave ∙ append-nil got;
    })

pub cr_data : Goes DataEnd (13 ∷ []) DataCr []
unfolding step
cr_data = record { place = refl; gave = refl }

lf_data : Goes DataEnd (13 ∷ 10 ∷ []) LineStart []
unfolding step
lf_data = record { place = refl; gave = refl }

pub chunk_goes : (c : Chunk) → IsChunk c → Goes LineStart (chunk_text c) LineStart c.bytes
chunk_goes c h =
    let n : length c.bytes ≡ length c.bytes + 0 = omega arith in
    in_data_goes (chunk_text c) c.bytes crlf 0 LineStart
    (record {
      line = c.line;
      sized = subst (λ k. IsLine c.line k) n h.line;
      some =
          (let s = h.some in omega arith);
      whole = refl;
    }) lf_data

pub chunks_go : (cs : List Chunk) → AllByRecursion IsChunk cs →
    Goes LineStart (text cs) LineStart (joined cs)
chunks_go [] h = record { place = refl; gave = refl }
chunks_go (c ∷ cs) h = joins LineStart LineStart LineStart (chunk_text c) (text cs) c.bytes
    (joined cs) (chunk_goes c h.0) (chunks_go cs h.1)
