-- What a reader that read some bytes says of them.
use Rattle.std.proofs.Common.{◌≡◌, ◌≤◌, ◌+◌, ℕ, true, false, List, [], ◌∷◌, ◌++◌, length, refl, ap}
use Rattle.std.proofs.Common.{sym, subst, ◌∙◌, arith, inl, inr, length-append}
use Rattle.std.proofs.lemmas.List.{append-nil}
use Rattle.chunk_body.specs.Coded.{IsCoded}
use Rattle.chunk_body.specs.Verdicts.{IsProperFront, IsWrong}
use Rattle.chunk_body.specs.Reading.{line_bytes, Reading, step, gives, is_last_of_trailer, advance}
use Rattle.chunk_body.specs.Reading.{reads, decodes, is_refused, fresh, has_ended}
use Rattle.chunk_body.proofs.Places.{Front, IsTrailerLimit, IsWithin, IsOpen, IsWhole, IsRefused}
use Rattle.chunk_body.specs.Verdicts.{large, wrong, long, late}
use Rattle.chunk_body.proofs.Places.{Because}
use Rattle.chunk_body.proofs.Complete.{run, out, run-append}
use Rattle.chunk_body.proofs.Arriving.{front_goes}
use Rattle.chunk_body.proofs.Forward.{front_read, coded_read}
use Rattle.chunk_body.proofs.Finishing.{proper, wrong as is_wrong}
use Rattle.chunk_body.proofs.Runs.{reads-append, decodes-append, ended_stays, ended_gives, counted}
use Rattle.chunk_body.proofs.Limits.{Steps, steps, Why, too_large, too_late, too_long, no_front}
use Rattle.chunk_body.proofs.Limits.{why, fills, no_refusal, refused_gives}
use Rattle.byte_tables.specs.declared.refusal.Refusal.{Refusal}
use Rattle.byte_tables.specs.declared.refusal.Refusal.TheVariants.{BodyTooLarge, TrailerTooLarge}
use Rattle.chunk_body.specs.declared.place.Place.{Place}
use Rattle.chunk_body.specs.declared.place.Place.TheVariants.{LineStart, Digits, Blanks, Extension}
use Rattle.chunk_body.specs.declared.place.Place.TheVariants.{LineCr, Data, DataEnd, DataCr}
use Rattle.chunk_body.specs.declared.place.Place.TheVariants.{Trailer, Over, Refused}
use Rattle.chunk_body.proofs.Choices.{either, eq_of, test_true}

pub refused_ends : (p : Place) → is_refused p ≡ true → has_ended p ≡ true
refused_ends LineStart e = let no : false ≡ true = e in cc
refused_ends (Digits n k) e = let no : false ≡ true = e in cc
refused_ends (Blanks n k) e = let no : false ≡ true = e in cc
refused_ends (Extension n k) e = let no : false ≡ true = e in cc
refused_ends (LineCr n k) e = let no : false ≡ true = e in cc
refused_ends (Data left) e = let no : false ≡ true = e in cc
refused_ends DataEnd e = let no : false ≡ true = e in cc
refused_ends DataCr e = let no : false ≡ true = e in cc
refused_ends (Trailer n m) e = let no : false ≡ true = e in cc
refused_ends Over e = refl
refused_ends (Refused r) e = refl

pub going_fine : (p : Place) → has_ended p ≡ false → is_refused p ≡ false
going_fine p h = either (is_refused p) (λ r. let no : true ≡ false = sym (refused_ends p r) ∙ h in
    cc) (λ f. f)

pub ended_over : (p : Place) → has_ended p ≡ true → is_refused p ≡ false → p ≡ Over
ended_over LineStart e f = let no : false ≡ true = e in cc
ended_over (Digits n k) e f = let no : false ≡ true = e in cc
ended_over (Blanks n k) e f = let no : false ≡ true = e in cc
ended_over (Extension n k) e f = let no : false ≡ true = e in cc
ended_over (LineCr n k) e f = let no : false ≡ true = e in cc
ended_over (Data left) e f = let no : false ≡ true = e in cc
ended_over DataEnd e f = let no : false ≡ true = e in cc
ended_over DataCr e f = let no : false ≡ true = e in cc
ended_over (Trailer n m) e f = let no : false ≡ true = e in cc
ended_over Over e f = refl
ended_over (Refused r) e f = no_refusal r f

pub taken_most : (s : Reading) (xs : List ℕ) → (reads s xs).taken ≤ s.taken + length xs
unfolding reads
taken_most s [] = omega arith
taken_most s (x ∷ xs) = either (has_ended s.place)
    (λ h. let e : (reads s (x ∷ xs)).taken ≡ s.taken =
    ap (λ (r : Reading). r.taken) (ended_stays s (x ∷ xs) h) in omega (arith, e))
    (λ h. let e = counted s x h in let m = taken_most (advance s x) xs in omega (arith, e, m))

going : (s : Reading) (x : ℕ) (xs : List ℕ) → (reads s (x ∷ xs)).taken ≡ s.taken + length (x ∷ xs) →
    has_ended s.place ≡ false
going s x xs e = either (has_ended s.place)
    (λ h. let t : (reads s (x ∷ xs)).taken ≡ s.taken =
    ap (λ (r : Reading). r.taken) (ended_stays s (x ∷ xs) h) in absurd (omega (arith, e, t)))
    (λ h. h)

pub fine_before : (s : Reading) (xs : List ℕ) → is_refused (reads s xs).place ≡ false →
    is_refused s.place ≡ false
fine_before s xs e = either (is_refused s.place)
    (λ r. let t : is_refused (reads s xs).place ≡ is_refused s.place =
    ap (λ (r : Reading). is_refused r.place) (ended_stays s xs (refused_ends s.place r)) in
    let no : true ≡ false = sym r ∙ (sym t ∙ e) in cc)
    (λ f. f)

-- with no limit reached, the place and the data are those without limits
pub record Runs (s : Reading) (xs : List ℕ) : Type 0 where
  pub place : (reads s xs).place ≡ run s.place xs
  pub gave : decodes s xs ≡ out s.place xs

pub runs : (s : Reading) (xs : List ℕ) → (reads s xs).taken ≡ s.taken + length xs →
    is_refused (reads s xs).place ≡ false → Runs s xs
unfolding reads decodes
runs s [] t e = record { place = refl; gave = refl }
runs s (x ∷ xs) t e =
    let k : Steps s x = steps s x (going s x xs t) (fine_before (advance s x) xs e) in
    let n : (reads (advance s x) xs).taken ≡ (advance s x).taken + length xs =
    (let a = k.taken in omega (arith, a, t)) in
    let more : Runs (advance s x) xs = runs (advance s x) xs n e in
    record {
      place = more.place ∙ ap (λ p. run p xs) k.place;
      gave = ap (λ l. gives s x ++ l) (more.gave ∙ ap (λ p. out p xs) k.place)
          ∙ ap (λ l. l ++ out (step s.place x) xs) k.gave;
    }

-- the reader at one byte of those that it read
record At (s : Reading) (before : List ℕ) (byte : ℕ) : Type 0 where
  going : has_ended (reads s before).place ≡ false
  taken : (reads s before).taken ≡ s.taken + length before
  one : Steps (reads s before) byte

at_byte : (s : Reading) (before after : List ℕ) (byte : ℕ) →
    (reads s (before ++ (byte ∷ after))).taken ≡ s.taken + length (before ++ (byte ∷ after)) →
    is_refused (reads s (before ++ (byte ∷ after))).place ≡ false → At s before byte
unfolding reads
at_byte s before after byte t e =
    let a : reads s (before ++ (byte ∷ after)) ≡ reads (reads s before) (byte ∷ after) =
    reads-append s before (byte ∷ after) in
    let b = ap (λ (r : Reading). r.taken) a in
    let m = taken_most s before in
    let n = taken_most (reads s before) (byte ∷ after) in
    let l = length-append before (byte ∷ after) in
    let f : is_refused (reads (advance (reads s before) byte) after).place ≡ false =
    sym (ap (λ (r : Reading). is_refused r.place) a) ∙ e in
    let g : has_ended (reads s before).place ≡ false =
    going (reads s before) byte after (omega (arith, b, m, n, l, t)) in
    record {
      going = g;
      taken = omega (arith, b, m, n, l, t);
      one =
          steps (reads s before) byte g (fine_before (advance (reads s before) byte) after f);
    }

-- the limits stay
max_step : (s : Reading) (x : ℕ) → (advance s x).max_body ≡ s.max_body
unfolding advance
max_step s x = either (has_ended s.place) (λ h. rw h refl) (λ h. rw h refl)

trailer_step : (s : Reading) (x : ℕ) → (advance s x).max_trailer ≡ s.max_trailer
unfolding advance
trailer_step s x = either (has_ended s.place) (λ h. rw h refl) (λ h. rw h refl)

pub max_stays : (s : Reading) (xs : List ℕ) → (reads s xs).max_body ≡ s.max_body
unfolding reads
max_stays s [] = refl
max_stays s (x ∷ xs) = max_stays (advance s x) xs ∙ max_step s x

pub trailer_stays : (s : Reading) (xs : List ℕ) → (reads s xs).max_trailer ≡ s.max_trailer
unfolding reads
trailer_stays s [] = refl
trailer_stays s (x ∷ xs) = trailer_stays (advance s x) xs ∙ trailer_step s x

-- from the first byte on
pub record Alive (max_body max_trailer : ℕ) (wire : List ℕ) : Type 0 where
  pub count : (reads (fresh max_body max_trailer) wire).taken ≡ length wire
  pub fine : is_refused (reads (fresh max_body max_trailer) wire).place ≡ false

pub zero_more : (n m : ℕ) → n ≡ m → n ≡ 0 + m
zero_more n m e = omega arith

pub alive_runs : (mb mt : ℕ) (wire : List ℕ) → Alive mb mt wire → Runs (fresh mb mt) wire
alive_runs mb mt wire a = runs (fresh mb mt) wire (zero_more (reads (fresh mb mt) wire).taken
    (length wire) a.count) a.fine

front_of : (mb mt : ℕ) (wire : List ℕ) → Alive mb mt wire →
    Front (reads (fresh mb mt) wire).place wire (decodes (fresh mb mt) wire)
front_of mb mt wire a =
    let r = alive_runs mb mt wire a in
    subst (λ p. Front p wire (decodes (fresh mb mt) wire)) (sym r.place)
    (subst (λ b. Front (run LineStart wire) wire b) (sym r.gave)
    (front_read wire (ap is_refused (sym r.place) ∙ a.fine)))

-- a front at another place is at this one
pub same_place : (mb mt : ℕ) (wire body : List ℕ) (p : Place) → Alive mb mt wire →
    Front p wire body → (reads (fresh mb mt) wire).place ≡ p
same_place mb mt wire body p a f = (alive_runs mb mt wire a).place
    ∙ (front_goes p wire body f).place

pub within : (mb mt : ℕ) (wire : List ℕ) → Alive mb mt wire → IsWithin mb mt wire
within mb mt wire a = record {
  none = λ before after byte e limit.
      let s : Reading = fresh mb mt in
      let t : (reads s (before ++ (byte ∷ after))).taken ≡ 0 + length (before ++ (byte ∷ after)) =
      subst (λ (l : List ℕ). (reads s l).taken ≡ 0 + length l) e
      (zero_more (reads s wire).taken (length wire) a.count) in
      let f : is_refused (reads s (before ++ (byte ∷ after))).place ≡ false =
      subst (λ (l : List ℕ). is_refused (reads s l).place ≡ false) e a.fine in
      let at : At s before byte = at_byte s before after byte t f in
      let alive : Alive mb mt before = record {
        count =
            at.taken ∙ sym (zero_more (length before) (length before) refl);
        fine =
            going_fine (reads s before).place at.going;
      } in
      elim limit [
        | inl n ↦ at.one.room (let c = at.taken in let m = max_stays s before in
            omega (arith, c, m, n))
        | inr later ↦ elim later [
          | inl l ↦ (let p : (reads s before).place ≡ l.place =
              same_place mb mt before l.body l.place alive l.front in
              at.one.short (fills (reads s before).place byte (ap line_bytes p ∙ l.full)
              (λ k q b. l.unended k (sym p ∙ q) b) at.one.fine))
          | inr l ↦ (let p : (reads s before).place ≡ Trailer l.count l.marked =
              same_place mb mt before l.body (Trailer l.count l.marked) alive l.front in
              let early : is_last_of_trailer mt (Trailer l.count l.marked) ≡ false =
              subst (λ m. is_last_of_trailer m (Trailer l.count l.marked) ≡ false)
              (trailer_stays s before) (subst (λ q. is_last_of_trailer
              (reads s before).max_trailer q ≡ false) p at.one.early) in
              let no : true ≡ false = sym (test_true (l.count + 1) mt l.full) ∙ early in cc)
        ]
      ];
}

pub open_at : (mb mt : ℕ) (wire : List ℕ) → Alive mb mt wire →
    has_ended (reads (fresh mb mt) wire).place ≡ false →
    IsOpen mb mt wire (decodes (fresh mb mt) wire)
open_at mb mt wire a h = record {
  place = (reads (fresh mb mt) wire).place;
  going = h;
  front = front_of mb mt wire a;
  proper = proper (reads (fresh mb mt) wire).place wire (decodes (fresh mb mt) wire)
      (front_of mb mt wire a) h;
  within = within mb mt wire a;
}

pub whole_at : (mb mt : ℕ) (wire : List ℕ) → Alive mb mt wire → (reads (fresh mb mt) wire).place
    ≡ Over → IsWhole mb mt wire (decodes (fresh mb mt) wire)
whole_at mb mt wire a o = record {
  coded = coded_read wire (decodes (fresh mb mt) wire)
      (subst (λ p. Front p wire (decodes (fresh mb mt) wire)) o (front_of mb mt wire a));
  within = within mb mt wire a;
}

-- a byte that is not refused is not wrong
pub right : (wire : List ℕ) → is_refused (run LineStart wire) ≡ false → IsWrong wire → ⊥
right wire e h = either (has_ended (run LineStart wire))
    (λ o. let f : Front Over wire (out LineStart wire) =
    subst (λ p. Front p wire (out LineStart wire)) (ended_over (run LineStart wire) o e)
    (front_read wire e) in
    h.none [] (out LineStart wire) (subst (λ l. IsCoded l (out LineStart wire))
    (sym (append-nil wire)) (coded_read wire (out LineStart wire) f)))
    (λ g. let p : IsProperFront wire = proper (run LineStart wire) wire (out LineStart wire)
    (front_read wire e) g in h.none p.more p.decoded p.coded)

-- one byte more, without limits
pub run_one : (mb mt : ℕ) (before : List ℕ) (byte : ℕ) → Alive mb mt before →
    run LineStart (before ++ byte ∷ []) ≡ step (reads (fresh mb mt) before).place byte
run_one mb mt before byte a = run-append LineStart before (byte ∷ [])
    ∙ ap (λ p. step p byte) (sym (alive_runs mb mt before a).place)

pub trailer_place : (mt : ℕ) (p : Place) → is_last_of_trailer mt p ≡ true → (n : ℕ) × (m : ℕ)
    × (p ≡ Trailer n m) × (n + 1 ≡ mt)
trailer_place mt LineStart e = absurd (let no : false ≡ true = e in cc)
trailer_place mt (Digits n k) e = absurd (let no : false ≡ true = e in cc)
trailer_place mt (Blanks n k) e = absurd (let no : false ≡ true = e in cc)
trailer_place mt (Extension n k) e = absurd (let no : false ≡ true = e in cc)
trailer_place mt (LineCr n k) e = absurd (let no : false ≡ true = e in cc)
trailer_place mt (Data left) e = absurd (let no : false ≡ true = e in cc)
trailer_place mt DataEnd e = absurd (let no : false ≡ true = e in cc)
trailer_place mt DataCr e = absurd (let no : false ≡ true = e in cc)
trailer_place mt (Trailer n m) e = (n, m, refl, eq_of (n + 1) mt e)
trailer_place mt Over e = absurd (let no : false ≡ true = e in cc)
trailer_place mt (Refused r) e = absurd (let no : false ≡ true = e in cc)

not_large : (mb mt : ℕ) (before : List ℕ) → Alive mb mt before →
    ((reads (fresh mb mt) before).taken + 1 ≡ (reads (fresh mb mt) before).max_body → ⊥) →
    length before + 1 ≡ mb → ⊥
not_large mb mt before a f e = f (let c = a.count in let m : (reads (fresh mb mt) before).max_body
    ≡ mb = max_stays (fresh mb mt) before in omega (arith, c, e, m))

-- where the next byte is not the last that a trailer section may have
late_is : (mb mt : ℕ) (before : List ℕ) → Alive mb mt before → IsTrailerLimit mt before →
    is_last_of_trailer mt (reads (fresh mb mt) before).place ≡ true
late_is mb mt before a l = ap (λ p. is_last_of_trailer mt p)
    (same_place mb mt before l.body (Trailer l.count l.marked) a l.front)
    ∙ test_true (l.count + 1) mt l.full

not_late : (mb mt : ℕ) (before : List ℕ) → Alive mb mt before →
    is_last_of_trailer (reads (fresh mb mt) before).max_trailer (reads (fresh mb mt) before).place
    ≡ false → IsTrailerLimit mt before → ⊥
not_late mb mt before a early l =
    let e : is_last_of_trailer mt (reads (fresh mb mt) before).place ≡ false =
    subst (λ k. is_last_of_trailer k (reads (fresh mb mt) before).place ≡ false)
    (trailer_stays (fresh mb mt) before) early in
    let no : true ≡ false = sym (late_is mb mt before a l) ∙ e in cc

pub because : (mb mt : ℕ) (before : List ℕ) (byte : ℕ) (refusal : Refusal) → Alive mb mt before →
    Why (reads (fresh mb mt) before) byte refusal →
    Because mb mt (reads (fresh mb mt) before).place before byte refusal
because mb mt before byte refusal a (too_large e) =
    let m : (reads (fresh mb mt) before).max_body ≡ mb = max_stays (fresh mb mt) before in
    subst (λ k. Because mb mt (reads (fresh mb mt) before).place before byte (BodyTooLarge k))
    (sym m) (large (let c = a.count in omega (arith, c, e, m)))
because mb mt before byte refusal a (too_late f t) =
    let m : (reads (fresh mb mt) before).max_trailer ≡ mt = trailer_stays (fresh mb mt) before in
    let w = trailer_place mt (reads (fresh mb mt) before).place
    (subst (λ k. is_last_of_trailer k (reads (fresh mb mt) before).place ≡ true) m t) in
    subst (λ k. Because mb mt (reads (fresh mb mt) before).place before byte (TrailerTooLarge k))
    (sym m)
    (late (not_large mb mt before a f)
    (record {
      count = w.0;
      marked = w.1;
      body = decodes (fresh mb mt) before;
      front =
          subst (λ p. Front p before (decodes (fresh mb mt) before)) w.2 (front_of mb mt before a);
      full = w.3;
    }))
because mb mt before byte refusal a (too_long f w e) =
    long (not_large mb mt before a f) (right (before ++ byte ∷ [])
    (ap is_refused (run_one mb mt before byte a) ∙ e))
    (record {
      place = (reads (fresh mb mt) before).place;
      body = decodes (fresh mb mt) before;
      front = front_of mb mt before a;
      full = w.before;
      unended = w.unended;
    })
because mb mt before byte refusal a (no_front r f early e) =
    wrong (not_large mb mt before a f) (not_late mb mt before a early)
    (is_wrong (before ++ byte ∷ []) r (run_one mb mt before byte a ∙ e))

-- the first refused byte
pub record Refuses (s : Reading) (wire : List ℕ) : Type 0 where
  pub before : List ℕ
  pub byte : ℕ
  pub after : List ℕ
  pub whole : wire ≡ before ++ (byte ∷ after)
  pub going : has_ended (reads s before).place ≡ false
  pub taken : (reads s before).taken ≡ s.taken + length before
  pub last : (advance (reads s before) byte).place ≡ (reads s wire).place

pub refuses : (s : Reading) (wire : List ℕ) → has_ended s.place ≡ false →
    is_refused (reads s wire).place ≡ true → Refuses s wire
unfolding reads
refuses s [] h e = absurd (let no : true ≡ false = sym e ∙ going_fine s.place h in cc)
refuses s (x ∷ xs) h e = either (has_ended (advance s x).place)
    (λ o. record {
      before = [];
      byte = x;
      after = xs;
      whole = refl;
      going = h;
      taken = omega arith;
      last = ap (λ (r : Reading). r.place) (sym (ended_stays (advance s x) xs o));
    })
    (λ g. let r : Refuses (advance s x) xs = refuses (advance s x) xs g e in
    record {
      before = x ∷ r.before;
      byte = r.byte;
      after = r.after;
      whole = ap (λ l. x ∷ l) r.whole;
      going = r.going;
      taken = (let c = counted s x h in let t = r.taken in omega (arith, c, t));
      last = r.last;
    })

-- nothing is given from the refused byte on
refused_body : (s : Reading) (wire : List ℕ) (refusal : Refusal) → (q : Refuses s wire) →
    (reads s wire).place ≡ Refused refusal → decodes s wire ≡ decodes s q.before
unfolding decodes
refused_body s wire refusal q e =
    let m : Reading = reads s q.before in
    let p : (advance m q.byte).place ≡ Refused refusal = q.last ∙ e in
    let g : gives m q.byte ≡ [] = refused_gives m q.byte refusal q.going p in
    let none : decodes m (q.byte ∷ q.after) ≡ [] =
    ap (λ l. l ++ decodes (advance m q.byte) q.after) g
    ∙ ended_gives (advance m q.byte) q.after (ap has_ended p) in
    ap (λ l. decodes s l) q.whole ∙ decodes-append s q.before (q.byte ∷ q.after)
    ∙ ap (λ l. decodes s q.before ++ l) none ∙ append-nil (decodes s q.before)

pub refused_at : (mb mt : ℕ) (wire : List ℕ) (refusal : Refusal) → (reads (fresh mb mt) wire).place
    ≡ Refused refusal → IsRefused mb mt wire (decodes (fresh mb mt) wire) refusal
refused_at mb mt wire refusal e =
    let s : Reading = fresh mb mt in
    let start : has_ended (fresh mb mt).place ≡ false = refl in
    let r : Refuses s wire = refuses s wire start (ap is_refused e) in
    let a : Alive mb mt r.before = record {
      count =
          r.taken ∙ sym (zero_more (length r.before) (length r.before) refl);
      fine =
          going_fine (reads s r.before).place r.going;
    } in
    let body : decodes s wire ≡ decodes s r.before = refused_body s wire refusal r e in
    record {
      before = r.before;
      byte = r.byte;
      after = r.after;
      whole = r.whole;
      place = (reads s r.before).place;
      going = r.going;
      stands = subst (λ b. Front (reads s r.before).place r.before b) (sym body)
          (front_of mb mt r.before a);
      least = subst (λ b. IsOpen mb mt r.before b) (sym body) (open_at mb mt r.before a r.going);
      because = because mb mt r.before r.byte refusal a
          (why (reads s r.before) r.byte refusal r.going (r.last ∙ e));
    }
