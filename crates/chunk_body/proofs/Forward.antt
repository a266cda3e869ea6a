-- What is read to a place stands there.
use Rattle.std.proofs.Common.{◌≡◌, ◌+◌, ℕ, true, false, List, [], ◌∷◌, ◌++◌, length, refl, ap, sym}
use Rattle.std.proofs.Common.{subst, ◌∙◌, arith, append_assoc}
use Rattle.std.specs.Prelude.{nat_eq}
use Rattle.std.proofs.lemmas.Grind.{flat_map-append}
use Rattle.std.proofs.lemmas.List.{append-nil}
use Rattle.chunk_body.specs.Coded.{IsLine, Chunk, chunk_text, text, joined, IsChunk, IsTrailer}
use Rattle.chunk_body.specs.Coded.{IsCoded}
use Rattle.chunk_body.specs.Verdicts.{InData, BehindLast}
use Rattle.chunk_body.specs.Reading.{step, given, is_refused}
use Rattle.chunk_body.proofs.Places.{IsPartAt, Front}
use Rattle.chunk_body.proofs.Complete.{run, out}
use Rattle.byte_tables.specs.declared.refusal.Refusal.{Refusal}
use Rattle.byte_tables.specs.declared.refusal.Refusal.TheVariants.{ChunkEnd}
use Rattle.chunk_body.specs.declared.place.Place.{Place}
use Rattle.chunk_body.specs.declared.place.Place.TheVariants.{LineStart, Digits, Blanks, Extension}
use Rattle.chunk_body.specs.declared.place.Place.TheVariants.{LineCr, Data, DataEnd, DataCr}
use Rattle.chunk_body.specs.declared.place.Place.TheVariants.{Trailer, Over, Refused}
use Rattle.chunk_body.proofs.Choices.{by_cond, either, eq_of}
use Rattle.chunk_body.proofs.Parts.{each_append, longer, of_next, part_next}

-- a front with one more byte, where nothing of the part is a whole chunk
same_chunks : (p q : Place) (c : ℕ) (wire body : List ℕ) (f : Front p wire body) →
    IsPartAt q (f.part ++ c ∷ []) (f.got ++ given p c) →
    Front q (wire ++ c ∷ []) (body ++ given p c)
same_chunks p q c wire body f h = record {
  chunks = f.chunks;
  part = f.part ++ c ∷ [];
  got = f.got ++ given p c;
  each = f.each;
  stands = h;
  whole = longer wire (text f.chunks) f.part c f.whole;
  decoded = ap (λ b. b ++ given p c) f.decoded ∙ append_assoc (joined f.chunks) f.got (given p c);
}

-- the LF behind the data makes a whole chunk
whole_chunk : (c : ℕ) (wire body : List ℕ) → Front DataCr wire body → nat_eq c 10 ≡ true →
    Front LineStart (wire ++ c ∷ []) (body ++ [])
whole_chunk c wire body f h =
    let d : InData f.part f.got (13 ∷ []) 0 = f.stands in
    let one : Chunk = record { line = d.line; bytes = f.got } in
    let n : length f.got + 0 ≡ length f.got = omega arith in
    let is : IsChunk one = record {
      line = subst (λ k. IsLine d.line k) n d.sized;
      some =
          (let s = d.some in omega arith);
    } in
    record {
      chunks = f.chunks ++ one ∷ [];
      part = [];
      got = [];
      each = each_append IsChunk f.chunks (one ∷ []) f.each (is, tt);
      stands = (refl, refl);
      whole = longer wire (text f.chunks) f.part c f.whole
          ∙ ap (λ x. text f.chunks ++ x) (longer f.part d.line (f.got ++ 13 ∷ []) c d.whole
          ∙ ap (λ x. d.line ++ x) (append_assoc f.got (13 ∷ []) (c ∷ [])
          ∙ ap (λ x. f.got ++ (13 ∷ x ∷ [])) (eq_of c 10 h))
          ∙ sym (append-nil (chunk_text one)))
          ∙ sym (append-nil (text (f.chunks ++ one ∷ []))
          ∙ flat_map-append chunk_text f.chunks (one ∷ []));
      decoded = append-nil body ∙ f.decoded ∙ sym (append-nil (joined (f.chunks ++ one ∷ []))
          ∙ flat_map-append (λ (c : Chunk). c.bytes) f.chunks (one ∷ [])
          ∙ ap (λ x. joined f.chunks ++ x) (append-nil f.got));
    }

absurd_refused : {P : Type 0} (r : Refusal) → is_refused (Refused r) ≡ false → P
absurd_refused r e = let no : true ≡ false = e in cc

cr_next : (c : ℕ) (wire body : List ℕ) → Front DataCr wire body → is_refused (step DataCr c)
    ≡ false → Front (step DataCr c) (wire ++ c ∷ []) (body ++ [])
unfolding step
cr_next c wire body f =
    by_cond (λ p. is_refused p ≡ false → Front p (wire ++ c ∷ []) (body ++ []))
    (nat_eq c 10) LineStart (Refused ChunkEnd) (λ h _. whole_chunk c wire body f h)
    (λ _ e. absurd_refused ChunkEnd e)

by_part : (p : Place) (c : ℕ) (wire body : List ℕ) → Front p wire body → (p ≡ DataCr → ⊥) →
    is_refused (step p c) ≡ false → Front (step p c) (wire ++ c ∷ []) (body ++ given p c)
by_part p c wire body f n e = same_chunks p (step p c) c wire body f
    (of_next (step p c) (f.part ++ c ∷ []) (f.got ++ given p c) e
    (part_next p c f.part f.got f.stands n))

pub front_next : (p : Place) (c : ℕ) (wire body : List ℕ) → Front p wire body →
    is_refused (step p c) ≡ false → Front (step p c) (wire ++ c ∷ []) (body ++ given p c)
front_next LineStart c wire body f e = by_part LineStart c wire body f (λ h. cc) e
front_next (Digits n k) c wire body f e = by_part (Digits n k) c wire body f (λ h. cc) e
front_next (Blanks n k) c wire body f e = by_part (Blanks n k) c wire body f (λ h. cc) e
front_next (Extension n k) c wire body f e = by_part (Extension n k) c wire body f (λ h. cc) e
front_next (LineCr n k) c wire body f e = by_part (LineCr n k) c wire body f (λ h. cc) e
front_next (Data left) c wire body f e = by_part (Data left) c wire body f (λ h. cc) e
front_next DataEnd c wire body f e = by_part DataEnd c wire body f (λ h. cc) e
front_next DataCr c wire body f e = cr_next c wire body f e
front_next (Trailer n m) c wire body f e = by_part (Trailer n m) c wire body f (λ h. cc) e
front_next Over c wire body f e = by_part Over c wire body f (λ h. cc) e
front_next (Refused r) c wire body f e = absurd f.stands

pub refused_stays : (r : Refusal) (xs : List ℕ) → run (Refused r) xs ≡ Refused r
unfolding step
refused_stays r [] = refl
refused_stays r (x ∷ xs) = refused_stays r xs

refused_on : (p : Place) (xs : List ℕ) → is_refused p ≡ true → is_refused (run p xs) ≡ true
refused_on LineStart xs e = let no : false ≡ true = e in cc
refused_on (Digits n k) xs e = let no : false ≡ true = e in cc
refused_on (Blanks n k) xs e = let no : false ≡ true = e in cc
refused_on (Extension n k) xs e = let no : false ≡ true = e in cc
refused_on (LineCr n k) xs e = let no : false ≡ true = e in cc
refused_on (Data left) xs e = let no : false ≡ true = e in cc
refused_on DataEnd xs e = let no : false ≡ true = e in cc
refused_on DataCr xs e = let no : false ≡ true = e in cc
refused_on (Trailer n m) xs e = let no : false ≡ true = e in cc
refused_on Over xs e = let no : false ≡ true = e in cc
refused_on (Refused r) xs e = ap is_refused (refused_stays r xs)

pub front_runs : (p : Place) (wire body xs : List ℕ) → Front p wire body → is_refused (run p xs)
    ≡ false → Front (run p xs) (wire ++ xs) (body ++ out p xs)
front_runs p wire body [] f e = subst (λ w. Front p w (body ++ [])) (sym (append-nil wire))
    (subst (λ b. Front p wire b) (sym (append-nil body)) f)
front_runs p wire body (c ∷ xs) f e =
    let n : is_refused (step p c) ≡ false = either (is_refused (step p c))
    (λ r. absurd (let t : true ≡ false = sym (refused_on (step p c) xs r) ∙ e in cc))
    (λ h. h) in
    subst (λ w. Front (run (step p c) xs) w (body ++ (given p c ++ out (step p c) xs)))
    (append_assoc wire (c ∷ []) xs)
    (subst (λ b. Front (run (step p c) xs) ((wire ++ c ∷ []) ++ xs) b)
    (append_assoc body (given p c) (out (step p c) xs))
    (front_runs (step p c) (wire ++ c ∷ []) (body ++ given p c) xs
    (front_next p c wire body f n) e))

pub no_bytes : Front LineStart [] []
no_bytes = record {
  chunks = [];
  part = [];
  got = [];
  each = tt;
  stands = (refl, refl);
  whole =
      refl;
  decoded = refl;
}

-- what was read and not refused stands at its place
pub front_read : (wire : List ℕ) → is_refused (run LineStart wire) ≡ false →
    Front (run LineStart wire) wire (out LineStart wire)
front_read wire e = front_runs LineStart [] [] wire no_bytes e

pub coded_read : (wire body : List ℕ) → Front Over wire body → IsCoded wire body
coded_read wire body f =
    let s : (t : List ℕ) × BehindLast f.part t × IsTrailer t × (f.got ≡ []) = f.stands in
    record {
      chunks = f.chunks;
      last = s.1.last;
      trailer = s.0;
      each = f.each;
      ends = s.1.ends;
      dropped = s.2;
      whole = f.whole ∙ ap (λ p. text f.chunks ++ p) s.1.whole;
      decoded = f.decoded ∙ ap (λ g. joined f.chunks ++ g) s.3 ∙ append-nil (joined f.chunks);
    }
