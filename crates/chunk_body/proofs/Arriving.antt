-- What the grammar has is read to its place: trailer sections, parts and whole bodies.
use Rattle.std.proofs.Common.{◌≡◌, ◌+◌, ℕ, zero, suc, List, [], ◌∷◌, ◌++◌, length, take, refl, ap}
use Rattle.std.proofs.Common.{sym, subst, ◌∙◌, arith, inl, inr, append_assoc, length-append}
use Rattle.std.specs.Prelude.{nat_eq}
use Rattle.std.proofs.lemmas.List.{append-nil, take-append-le}
use Rattle.chunk_body.specs.Coded.{text, joined, EndsTrailer, IsTrailer, IsCoded}
use Rattle.chunk_body.specs.Verdicts.{BehindLast, IsOpenTrailer}
use Rattle.chunk_body.specs.Reading.{mark_step, trailer_at, step}
use Rattle.chunk_body.proofs.Places.{mark_from, IsPartAt, Front}
use Rattle.chunk_body.proofs.Trailers.{mark-append, open_front, ended_at, ending, not_ended}
use Rattle.chunk_body.specs.declared.place.Place.{Place}
use Rattle.chunk_body.specs.declared.place.Place.TheVariants.{LineStart, Digits, Blanks, Extension}
use Rattle.chunk_body.specs.declared.place.Place.TheVariants.{LineCr, Data, DataEnd, DataCr}
use Rattle.chunk_body.specs.declared.place.Place.TheVariants.{Trailer, Over, Refused}
use Rattle.chunk_body.proofs.Choices.{by_cond, eq_of}
use Rattle.chunk_body.proofs.Complete.{Goes, stays, joins, first, arrives, blanks_at, number_goes}
use Rattle.chunk_body.proofs.Complete.{extension_goes, line_end_goes, line_goes, in_data_goes}
use Rattle.chunk_body.proofs.Complete.{cr_data, chunks_go}

-- trailer sections
no_four : (n m : ℕ) → (m ≡ 4 → ⊥) → trailer_at n m ≡ Trailer n m
no_four n m f = by_cond (λ p. p ≡ Trailer n m) (nat_eq m 4) Over (Trailer n m)
    (λ h. absurd (f (eq_of m 4 h))) (λ _. refl)

trailer_on : (pre t : List ℕ) → IsOpenTrailer (pre ++ t) →
    Goes (Trailer (length pre) (mark_from 2 pre)) t
    (Trailer (length (pre ++ t)) (mark_from 2 (pre ++ t))) []
unfolding step
trailer_on pre [] o = record {
  place = ap (λ l. Trailer (length l) (mark_from 2 l))
      (sym (append-nil pre));
  gave = refl;
}
trailer_on pre (c ∷ t) o =
    let e : (pre ++ c ∷ []) ++ t ≡ pre ++ (c ∷ t) = append_assoc pre (c ∷ []) t in
    let o2 : IsOpenTrailer ((pre ++ c ∷ []) ++ t) = subst IsOpenTrailer (sym e) o in
    let f : mark_step (mark_from 2 pre) c ≡ 4 → ⊥ =
    λ four. not_ended (pre ++ c ∷ []) (open_front (pre ++ c ∷ []) t o2) (ended_at pre c four) in
    let n : length pre + 1 ≡ length (pre ++ c ∷ []) = omega (arith, length-append pre (c ∷ [])) in
    let m : mark_step (mark_from 2 pre) c ≡ mark_from 2 (pre ++ c ∷ []) =
    sym (mark-append 2 pre (c ∷ [])) in
    let s : step (Trailer (length pre) (mark_from 2 pre)) c
    ≡ Trailer (length (pre ++ c ∷ [])) (mark_from 2 (pre ++ c ∷ [])) =
    no_four (length pre + 1) (mark_step (mark_from 2 pre) c) f
    ∙ ap (λ j. Trailer j (mark_step (mark_from 2 pre) c)) n
    ∙ ap (λ j. Trailer (length (pre ++ c ∷ [])) j) m in
    first (Trailer (length pre) (mark_from 2 pre))
    (Trailer (length (pre ++ c ∷ [])) (mark_from 2 (pre ++ c ∷ [])))
    (Trailer (length (pre ++ (c ∷ t))) (mark_from 2 (pre ++ (c ∷ t)))) c t [] s refl
    (arrives (Trailer (length (pre ++ c ∷ [])) (mark_from 2 (pre ++ c ∷ [])))
    (Trailer (length ((pre ++ c ∷ []) ++ t)) (mark_from 2 ((pre ++ c ∷ []) ++ t)))
    (Trailer (length (pre ++ (c ∷ t))) (mark_from 2 (pre ++ (c ∷ t)))) t []
    (ap (λ l. Trailer (length l) (mark_from 2 l)) e) (trailer_on (pre ++ c ∷ []) t o2))

pub open_trailer_goes : (t : List ℕ) → IsOpenTrailer t →
    Goes (Trailer 0 2) t (Trailer (length t) (mark_from 2 t)) []
open_trailer_goes t o = trailer_on [] t o

-- a whole section is an open one and its last byte
pub record Ends (t : List ℕ) : Type 0 where
  pub front : List ℕ
  pub last : ℕ
  pub whole : t ≡ front ++ last ∷ []

ends_of : (t : List ℕ) → EndsTrailer t → Ends t
ends_of t h = elim h [
  | inl e ↦ record { front = 13 ∷ []; last = 10; whole = e }
  | inr w ↦ record {
    front = w.0 ++ 13 ∷ 10 ∷ 13 ∷ [];
    last = 10;
    whole =
        w.1 ∙ sym (append_assoc w.0 (13 ∷ 10 ∷ 13 ∷ []) (10 ∷ []));
  }
]

pub trailer_goes : (t : List ℕ) → IsTrailer t → Goes (Trailer 0 2) t Over []
unfolding step mark_step
trailer_goes t h =
    let w : Ends t = ends_of t h.ends in
    let o : IsOpenTrailer w.front = record {
      none = λ n l e. h.shortest n
          (let k = ap length w.whole in omega (arith, k, length-append w.front (w.last ∷ [])))
          (subst EndsTrailer (sym (ap (λ x. take n x) w.whole
          ∙ take-append-le n w.front (w.last ∷ []) l)) e);
    } in
    let e : (mark_from 2 w.front ≡ 3) × (w.last ≡ 10) =
    ending w.front w.last o (subst EndsTrailer w.whole h.ends) in
    let last : Goes (Trailer (length w.front) (mark_from 2 w.front)) (w.last ∷ []) Over [] =
    record {
      place = ap (λ m. trailer_at (length w.front + 1) (mark_step m w.last)) e.0
          ∙ ap (λ c. trailer_at (length w.front + 1) (mark_step 3 c)) e.1;
      gave = refl;
    } in
    subst (λ x. Goes (Trailer 0 2) x Over []) (sym w.whole)
    (joins (Trailer 0 2) (Trailer (length w.front) (mark_from 2 w.front)) Over w.front
    (w.last ∷ []) [] [] (open_trailer_goes w.front o) last)

behind_last : (part t : List ℕ) (q : Place) → BehindLast part t → Goes (Trailer 0 2) t q [] →
    Goes LineStart part q []
behind_last part t q h g =
    subst (λ x. Goes LineStart x q []) (sym h.whole)
    (joins LineStart (Trailer 0 2) q h.last t [] [] (line_goes h.last 0 h.ends) g)

-- what stands at a place is read to it
nothing_got : (part got : List ℕ) (p q : Place) → p ≡ q → got ≡ [] → Goes LineStart part p [] →
    Goes LineStart part q got
nothing_got part got p q e f g = record { place = g.place ∙ e; gave = g.gave ∙ sym f }

pub part_goes : (p : Place) (part got : List ℕ) → IsPartAt p part got → Goes LineStart part p got
part_goes LineStart part got h = nothing_got part got LineStart LineStart refl h.1
    (subst (λ x. Goes LineStart x LineStart []) (sym h.0) (stays LineStart))
part_goes (Digits n k) part got h = nothing_got part got (Digits (length part) k) (Digits n k)
    (ap (λ j. Digits j k) (sym h.1)) h.2 (number_goes part k h.0)
part_goes (Blanks n k) part got h = nothing_got part got (Blanks (length part) k) (Blanks n k)
    (ap (λ j. Blanks j k) (sym h.1)) h.2
    (subst (λ x. Goes LineStart x (Blanks (length x) k) []) (sym h.0.whole)
    (arrives LineStart (Blanks (length h.0.digits + length h.0.blanks) k)
    (Blanks (length (h.0.digits ++ h.0.blanks)) k) (h.0.digits ++ h.0.blanks) []
    (ap (λ j. Blanks j k) (sym (length-append h.0.digits h.0.blanks)))
    (joins LineStart (Digits (length h.0.digits) k)
    (Blanks (length h.0.digits + length h.0.blanks) k) h.0.digits h.0.blanks [] []
    (number_goes h.0.digits k h.0.sized) (blanks_at (length h.0.digits) k h.0.blanks h.0.some
    h.0.blank))))
part_goes (Extension n k) part got h = nothing_got part got (Extension (length part) k)
    (Extension n k) (ap (λ j. Extension j k) (sym h.1)) h.2
    (subst (λ x. Goes LineStart x (Extension (length x) k) []) (sym h.0.whole)
    (arrives LineStart (Extension (length h.0.digits + length h.0.extension) k)
    (Extension (length (h.0.digits ++ h.0.extension)) k) (h.0.digits ++ h.0.extension) []
    (ap (λ j. Extension j k) (sym (length-append h.0.digits h.0.extension)))
    (joins LineStart (Digits (length h.0.digits) k)
    (Extension (length h.0.digits + length h.0.extension) k) h.0.digits h.0.extension [] []
    (number_goes h.0.digits k h.0.sized) (extension_goes
    (length h.0.digits) k h.0.extension h.0.extended))))
part_goes (LineCr n k) part got h = nothing_got part got (LineCr (length part) k) (LineCr n k)
    (ap (λ j. LineCr j k) (sym h.1)) h.2 (line_end_goes part k h.0)
part_goes (Data zero) part got h = absurd (let l = h.1 in omega arith)
part_goes (Data (suc left)) part got h = in_data_goes part got [] (suc left) (Data (suc left)) h.0
    (stays (Data (suc left)))
part_goes DataEnd part got h = in_data_goes part got [] 0 DataEnd h (stays DataEnd)
part_goes DataCr part got h = in_data_goes part got (13 ∷ []) 0 DataCr h cr_data
part_goes (Trailer n m) part got h = nothing_got part got (Trailer (length h.0) (mark_from 2 h.0))
    (Trailer n m)
    (ap (λ j. Trailer j (mark_from 2 h.0)) (sym h.3) ∙ ap (λ j. Trailer n j) (sym h.4)) h.5
    (behind_last part h.0 (Trailer (length h.0) (mark_from 2 h.0)) h.1 (open_trailer_goes h.0 h.2))
part_goes Over part got h = nothing_got part got Over Over refl h.3
    (behind_last part h.0 Over h.1 (trailer_goes h.0 h.2))
part_goes (Refused r) part got h = absurd h

pub front_goes : (p : Place) (wire body : List ℕ) → Front p wire body → Goes LineStart wire p body
front_goes p wire body f =
    subst (λ b. Goes LineStart wire p b) (sym f.decoded)
    (subst (λ w. Goes LineStart w p (joined f.chunks ++ f.got)) (sym f.whole)
    (joins LineStart LineStart p (text f.chunks) f.part (joined f.chunks) f.got
    (chunks_go f.chunks f.each) (part_goes p f.part f.got f.stands)))

-- a whole body is read to its end
pub coded_front : (wire body : List ℕ) → IsCoded wire body → Front Over wire body
coded_front wire body h = record {
  chunks = h.chunks;
  part = h.last ++ h.trailer;
  got = [];
  each = h.each;
  stands = (h.trailer, record { last = h.last; ends = h.ends; whole = refl }, h.dropped, refl);
  whole = h.whole;
  decoded = h.decoded ∙ sym (append-nil (joined h.chunks));
}

pub coded_goes : (wire body : List ℕ) → IsCoded wire body → Goes LineStart wire Over body
coded_goes wire body h = front_goes Over wire body (coded_front wire body h)
