-- What begins a coded body is read to its last byte.
use Rattle.std.proofs.Common.{◌≡◌, ◌<◌, ◌+◌, ℕ, true, false, List, [], ◌∷◌, ◌++◌, length, refl, ap}
use Rattle.std.proofs.Common.{sym, subst, ◌∙◌, arith, inl, inr, ◌⊎◌, append_assoc, length-append}
use Rattle.std.proofs.lemmas.List.{append-nil}
use Rattle.chunk_body.specs.Coded.{IsCoded}
use Rattle.chunk_body.specs.Reading.{has_ended, Reading, step, advance, reads, decodes, is_refused}
use Rattle.chunk_body.specs.Reading.{fresh}
use Rattle.chunk_body.specs.Verdicts.{large, wrong, long, late}
use Rattle.chunk_body.proofs.Places.{Front, IsWithin, IsOpen, IsWhole, Because}
use Rattle.chunk_body.proofs.Complete.{run, run-append}
use Rattle.chunk_body.proofs.Arriving.{front_goes, coded_front, coded_goes}
use Rattle.chunk_body.proofs.Forward.{refused_stays}
use Rattle.chunk_body.proofs.Runs.{ended_stays, counted}
use Rattle.chunk_body.proofs.Limits.{why}
use Rattle.chunk_body.proofs.Verdict.{Alive, going_fine, ended_over, alive_runs, same_place}
use Rattle.chunk_body.proofs.Verdict.{whole_at, because, Refuses, refuses, zero_more}
use Rattle.byte_tables.specs.declared.refusal.Refusal.{Refusal}
use Rattle.byte_tables.specs.declared.refusal.Refusal.TheVariants.{ChunkSize}
use Rattle.chunk_body.specs.declared.place.Place.{Place}
use Rattle.chunk_body.specs.declared.place.Place.TheVariants.{LineStart, Digits, Blanks, Extension}
use Rattle.chunk_body.specs.declared.place.Place.TheVariants.{LineCr, Data, DataEnd, DataCr}
use Rattle.chunk_body.specs.declared.place.Place.TheVariants.{Trailer, Over, Refused}
use Rattle.chunk_body.proofs.Choices.{either}

-- no coded body begins another
behind_over : (xs : List ℕ) → 0 < length xs → run Over xs ≡ Over → ⊥
unfolding step
behind_over [] l e = absurd (omega arith)
behind_over (x ∷ xs) l e = let no : Refused ChunkSize ≡ Over = sym (refused_stays ChunkSize xs)
    ∙ e in cc

pub prefix_free : (wire more a b : List ℕ) → IsCoded wire a → IsCoded (wire ++ more) b →
    0 < length more → ⊥
prefix_free wire more a b h k l =
    behind_over more l (ap (λ p. run p more) (sym (coded_goes wire a h).place)
    ∙ sym (run-append LineStart wire more) ∙ (coded_goes (wire ++ more) b k).place)

pub same_body : (wire a b : List ℕ) → IsCoded wire a → IsCoded wire b → a ≡ b
same_body wire a b h k = sym (coded_goes wire a h).gave ∙ (coded_goes wire b k).gave

-- reading reached each byte, or the end before it
pub record Early (s : Reading) (wire : List ℕ) : Type 0 where
  pub front : List ℕ
  pub rest : List ℕ
  pub whole : wire ≡ front ++ rest
  pub some : 0 < length rest
  pub over : (reads s front).place ≡ Over
  pub taken : (reads s front).taken ≡ s.taken + length front

pub reached : (s : Reading) (wire : List ℕ) → is_refused (reads s wire).place ≡ false →
    ((reads s wire).taken ≡ s.taken + length wire) ⊎ Early s wire
unfolding reads
reached s [] e = inl (omega arith)
reached s (x ∷ xs) e = either (has_ended s.place)
    (λ h. let f : is_refused s.place ≡ false = ap (λ (r : Reading). is_refused r.place)
    (sym (ended_stays s (x ∷ xs) h)) ∙ e in
    inr (record {
      front = [];
      rest = x ∷ xs;
      whole = refl;
      some = omega arith;
      over =
          ended_over s.place h f;
      taken = omega arith;
    }))
    (λ h. let c = counted s x h in elim (reached (advance s x) xs e) [
      | inl t ↦ inl (omega (arith, c, t))
      | inr w ↦ inr (record {
        front = x ∷ w.front;
        rest = w.rest;
        whole = ap (λ l. x ∷ l) w.whole;
        some = w.some;
        over = w.over;
        taken = (let t = w.taken in omega (arith, c, t));
      })
    ])

-- What begins or is a coded body and has no limit's byte is read to its last byte.
limit_none : (mb mt : ℕ) (place : Place) (before after : List ℕ) (byte : ℕ) (refusal : Refusal)
    (wire more b : List ℕ) → wire ≡ before ++ (byte ∷ after) → IsCoded (wire ++ more) b →
    IsWithin mb mt wire → Because mb mt place before byte refusal → ⊥
limit_none mb mt place before after byte refusal wire more b e c w (large h) =
    w.none before after byte e (inl h)
limit_none mb mt place before after byte refusal wire more b e c w (wrong f t h) =
    h.none (after ++ more) b (subst (λ l. IsCoded l b) (ap (λ l. l ++ more) e
    ∙ append_assoc before (byte ∷ after) more ∙ sym
    (append_assoc before (byte ∷ []) (after ++ more))) c)
limit_none mb mt place before after byte refusal wire more b e c w (long f g h) =
    w.none before after byte e (inr (inl h))
limit_none mb mt place before after byte refusal wire more b e c w (late f h) =
    w.none before after byte e (inr (inr h))

pub refusal_in : (p : Place) → is_refused p ≡ true → (r : Refusal) × (p ≡ Refused r)
refusal_in LineStart e = absurd (let no : false ≡ true = e in cc)
refusal_in (Digits n k) e = absurd (let no : false ≡ true = e in cc)
refusal_in (Blanks n k) e = absurd (let no : false ≡ true = e in cc)
refusal_in (Extension n k) e = absurd (let no : false ≡ true = e in cc)
refusal_in (LineCr n k) e = absurd (let no : false ≡ true = e in cc)
refusal_in (Data left) e = absurd (let no : false ≡ true = e in cc)
refusal_in DataEnd e = absurd (let no : false ≡ true = e in cc)
refusal_in DataCr e = absurd (let no : false ≡ true = e in cc)
refusal_in (Trailer n m) e = absurd (let no : false ≡ true = e in cc)
refusal_in Over e = absurd (let no : false ≡ true = e in cc)
refusal_in (Refused r) e = (r, refl)

refused_none : (mb mt : ℕ) (wire more b : List ℕ) → IsCoded (wire ++ more) b → IsWithin mb mt wire →
    is_refused (reads (fresh mb mt) wire).place ≡ true →
    (q : Refuses (fresh mb mt) wire) → Alive mb mt q.before → ⊥
refused_none mb mt wire more b c w r q a =
    let s : Reading = fresh mb mt in
    let x = refusal_in (reads s wire).place r in
    limit_none mb mt (reads s q.before).place q.before q.after q.byte x.0 wire more b q.whole c w
    (because mb mt q.before q.byte x.0 a (why (reads s q.before) q.byte x.0 q.going (q.last ∙ x.1)))

early_none : (mb mt : ℕ) (wire more b : List ℕ) → IsCoded (wire ++ more) b →
    Early (fresh mb mt) wire → ⊥
early_none mb mt wire more b c y =
    let a : Alive mb mt y.front = record {
      count =
          y.taken ∙ sym (zero_more (length y.front) (length y.front) refl);
      fine =
          ap is_refused y.over;
    } in
    let h = whole_at mb mt y.front a y.over in
    prefix_free y.front (y.rest ++ more) (decodes (fresh mb mt) y.front) b h.coded
    (subst (λ l. IsCoded l b) (ap (λ l. l ++ more) y.whole ∙ append_assoc y.front y.rest more) c)
    (let s = y.some in omega (arith, s, length-append y.rest more))

pub alive_of : (mb mt : ℕ) (wire more b : List ℕ) → IsCoded (wire ++ more) b → IsWithin mb mt wire →
    Alive mb mt wire
alive_of mb mt wire more b c w =
    let s : Reading = fresh mb mt in
    let start : has_ended s.place ≡ false = refl in
    let f : is_refused (reads s wire).place ≡ false = either (is_refused (reads s wire).place)
    (λ r. let q : Refuses s wire = refuses s wire start r in
    let a : Alive mb mt q.before = record {
      count =
          q.taken ∙ sym (zero_more (length q.before) (length q.before) refl);
      fine =
          going_fine (reads s q.before).place q.going;
    } in
    absurd (refused_none mb mt wire more b c w r q a))
    (λ h. h) in
    record {
      count = elim (reached s wire f) [
        | inl t ↦ t ∙ sym (zero_more (length wire) (length wire) refl)
        | inr y ↦ absurd (early_none mb mt wire more b c y)
      ];
      fine = f;
    }

-- what the verdicts say of the reader
pub record Read (mb mt : ℕ) (wire body : List ℕ) (place : Place) : Type 0 where
  pub alive : Alive mb mt wire
  pub at : (reads (fresh mb mt) wire).place ≡ place
  pub gave : decodes (fresh mb mt) wire ≡ body

read_of_front : (mb mt : ℕ) (wire body : List ℕ) (p : Place) → Alive mb mt wire →
    Front p wire body → Read mb mt wire body p
read_of_front mb mt wire body p a f = record {
  alive = a;
  at = same_place mb mt wire body p a f;
  gave = (alive_runs mb mt wire a).gave ∙ (front_goes p wire body f).gave;
}

pub open_read : (mb mt : ℕ) (wire body : List ℕ) → (o : IsOpen mb mt wire body) →
    Read mb mt wire body o.place
open_read mb mt wire body o = read_of_front mb mt wire body o.place
    (alive_of mb mt wire o.proper.more o.proper.decoded o.proper.coded o.within) o.front

pub whole_read : (mb mt : ℕ) (wire body : List ℕ) → IsWhole mb mt wire body →
    Read mb mt wire body Over
whole_read mb mt wire body w =
    read_of_front mb mt wire body Over (alive_of mb mt wire [] body
    (subst (λ l. IsCoded l body) (sym (append-nil wire)) w.coded) w.within)
    (coded_front wire body w.coded)
