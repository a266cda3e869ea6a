-- Of what stands on the wire only one answer is right.
use Rattle.std.proofs.Common.{◌≡◌, ◌≤◌, ◌+◌, ℕ, true, false, List, [], ◌∷◌, ◌++◌, length, take}
use Rattle.std.proofs.Common.{drop, refl, ap, sym, subst, ◌∙◌, arith, append_assoc, length-append}
use Rattle.std.specs.Prelude.{nat_eq}
use Rattle.std.proofs.lemmas.List.{append-nil, append_cancel_left, take-append-drop, length-take-le}
use Rattle.chunk_body.specs.Reading.{line_bytes, has_ended, mark_step, Reading, trailer_at, step}
use Rattle.chunk_body.specs.Reading.{limited, is_last, is_last_of_trailer, line_within, advance}
use Rattle.chunk_body.specs.Reading.{reads, decodes, is_refused, fresh}
use Rattle.chunk_body.specs.Verdicts.{large, wrong, long, late}
use Rattle.chunk_body.proofs.Places.{IsRefused, Because}
use Rattle.chunk_body.specs.Answers.{Notes, IsNoMemory}
use Rattle.chunk_body.specs.Verdicts.{IsOpen as Open, IsWhole as Whole, IsRefused as Ends}
use Rattle.chunk_body.proofs.Standing.{open_from, whole_from, refused_from, same_before}
use Rattle.chunk_body.proofs.Finishing.{wrong as is_wrong}
use Rattle.chunk_body.proofs.Runs.{reads-append, decodes-append, ended_stays, ended_gives, counted}
use Rattle.chunk_body.proofs.Limits.{fills, named, advance_is, refused_gives}
use Rattle.chunk_body.proofs.Verdict.{Alive, same_place, right, run_one, max_stays, trailer_stays}
use Rattle.byte_tables.specs.declared.refusal.Refusal.{Refusal}
use Rattle.byte_tables.specs.declared.refusal.Refusal.TheVariants.{BodyTooLarge, ChunkLineLong}
use Rattle.byte_tables.specs.declared.refusal.Refusal.TheVariants.{TrailerTooLarge}
use Rattle.chunk_body.specs.declared.place.Place.{Place}
use Rattle.chunk_body.specs.declared.place.Place.TheVariants.{LineStart, Digits, Blanks, Extension}
use Rattle.chunk_body.specs.declared.place.Place.TheVariants.{LineCr, Data, DataEnd, DataCr}
use Rattle.chunk_body.specs.declared.place.Place.TheVariants.{Trailer, Over, Refused}
use Rattle.chunk_body.specs.declared.chunks.Fed.{Fed}
use Rattle.chunk_body.specs.declared.chunks.Fed.TheVariants as fed
use Rattle.chunk_body.proofs.Choices.{by_cond, either, test_true, test_false}
use Rattle.chunk_body.proofs.Reached.{refusal_in, Read, open_read, whole_read}

not_late_full : (max : ℕ) (p : Place) → line_bytes p ≡ 1023 → is_last_of_trailer max p ≡ false
not_late_full max LineStart e = refl
not_late_full max (Digits n k) e = refl
not_late_full max (Blanks n k) e = refl
not_late_full max (Extension n k) e = refl
not_late_full max (LineCr n k) e = refl
not_late_full max (Data left) e = refl
not_late_full max DataEnd e = refl
not_late_full max DataCr e = refl
not_late_full max (Trailer n m) e = absurd (omega arith)
not_late_full max Over e = refl
not_late_full max (Refused r) e = refl

trailer_fine : (n m : ℕ) (r : Refusal) → trailer_at n m ≡ Refused r → ⊥
trailer_fine n m r = by_cond (λ p. p ≡ Refused r → ⊥) (nat_eq m 4) Over (Trailer n m) (λ _ e. cc)
    (λ _ e. cc)

not_late_wrong : (max : ℕ) (p : Place) (c : ℕ) (r : Refusal) → step p c ≡ Refused r →
    is_last_of_trailer max p ≡ false
unfolding step
not_late_wrong max LineStart c r e = refl
not_late_wrong max (Digits n k) c r e = refl
not_late_wrong max (Blanks n k) c r e = refl
not_late_wrong max (Extension n k) c r e = refl
not_late_wrong max (LineCr n k) c r e = refl
not_late_wrong max (Data left) c r e = refl
not_late_wrong max DataEnd c r e = refl
not_late_wrong max DataCr c r e = refl
not_late_wrong max (Trailer n m) c r e = absurd (trailer_fine (n + 1) (mark_step m c) r e)
not_late_wrong max Over c r e = refl
not_late_wrong max (Refused q) c r e = refl

-- what a byte comes to, by the tests
so_large : (s : Reading) (c : ℕ) → has_ended s.place ≡ false → s.taken + 1 ≡ s.max_body →
    (advance s c).place ≡ Refused (BodyTooLarge s.max_body)
unfolding is_last
so_large s c h e = let t : nat_eq (s.taken + 1) s.max_body ≡ true =
    test_true (s.taken + 1) s.max_body e in ap (λ (r : Reading). r.place) (advance_is s c h)
    ∙ rw t refl

so_late : (s : Reading) (c : ℕ) → has_ended s.place ≡ false → (s.taken + 1 ≡ s.max_body → ⊥) →
    is_last_of_trailer s.max_trailer s.place ≡ true → (advance s c).place
    ≡ Refused (TrailerTooLarge s.max_trailer)
unfolding is_last limited
so_late s c h f l = let t : nat_eq (s.taken + 1) s.max_body ≡ false =
    test_false (s.taken + 1) s.max_body f in ap (λ (r : Reading). r.place) (advance_is s c h)
    ∙ rw (t, l) refl

so_long : (s : Reading) (c : ℕ) → has_ended s.place ≡ false → (s.taken + 1 ≡ s.max_body → ⊥) →
    is_last_of_trailer s.max_trailer s.place ≡ false → line_bytes (step s.place c) ≡ 1024 →
    (advance s c).place ≡ Refused ChunkLineLong
unfolding is_last limited
so_long s c h f l e =
    let t : nat_eq (s.taken + 1) s.max_body ≡ false = test_false (s.taken + 1) s.max_body f in
    let u : nat_eq (line_bytes (step s.place c)) 1024 ≡ true =
    test_true (line_bytes (step s.place c)) 1024 e in
    ap (λ (r : Reading). r.place) (advance_is s c h) ∙ rw (t, l, u) refl

so_wrong : (s : Reading) (c : ℕ) (r : Refusal) → has_ended s.place ≡ false →
    (s.taken + 1 ≡ s.max_body → ⊥) → step s.place c ≡ Refused r → (advance s c).place ≡ Refused r
unfolding is_last limited
so_wrong s c r h f e =
    let t : nat_eq (s.taken + 1) s.max_body ≡ false = test_false (s.taken + 1) s.max_body f in
    let l : is_last_of_trailer s.max_trailer s.place ≡ false =
    not_late_wrong s.max_trailer s.place c r e in
    ap (λ (r : Reading). r.place) (advance_is s c h) ∙ rw (t, l) (ap line_within e)

not_last : (mb mt : ℕ) (before : List ℕ) → Alive mb mt before → (length before + 1 ≡ mb → ⊥) →
    (reads (fresh mb mt) before).taken + 1 ≡ (reads (fresh mb mt) before).max_body → ⊥
not_last mb mt before a f e = f (let c = a.count in let m : (reads (fresh mb mt) before).max_body
    ≡ mb = max_stays (fresh mb mt) before in omega (arith, c, e, m))

-- a byte that is refused for a reason is refused so
refuses_so : (mb mt : ℕ) (before : List ℕ) (byte : ℕ) (refusal : Refusal) → Alive mb mt before →
    has_ended (reads (fresh mb mt) before).place ≡ false →
    Because mb mt (reads (fresh mb mt) before).place before byte refusal →
    (advance (reads (fresh mb mt) before) byte).place ≡ Refused refusal
unfolding is_last limited
refuses_so mb mt before byte refusal a h (large e) =
    let m = max_stays (fresh mb mt) before in
    so_large (reads (fresh mb mt) before) byte h (let c = a.count in omega (arith, c, e, m))
    ∙ ap (λ k. Refused (BodyTooLarge k)) m
refuses_so mb mt before byte refusal a h (wrong f t e) =
    let m : Reading = reads (fresh mb mt) before in
    let r : (r : Refusal) × (step m.place byte ≡ Refused r) =
    either (is_refused (step m.place byte)) (λ t. refusal_in (step m.place byte) t)
    (λ t. absurd (right (before ++ byte ∷ []) (ap is_refused (run_one mb mt before byte a) ∙ t) e))
    in
    so_wrong m byte r.0 h (not_last mb mt before a f) r.1
    ∙ ap Refused (named m.place byte r.0 h r.1)
refuses_so mb mt before byte refusal a h (long f g e) =
    let m : Reading = reads (fresh mb mt) before in
    let p : m.place ≡ e.place = same_place mb mt before e.body e.place a e.front in
    let full : line_bytes m.place ≡ 1023 = ap line_bytes p ∙ e.full in
    let fine : is_refused (step m.place byte) ≡ false = either (is_refused (step m.place byte))
    (λ t. let r = refusal_in (step m.place byte) t in
    absurd (g (is_wrong (before ++ byte ∷ []) r.0 (run_one mb mt before byte a ∙ r.1))))
    (λ t. t) in
    so_long m byte h (not_last mb mt before a f) (not_late_full m.max_trailer m.place full)
    (fills m.place byte full (λ k q b. e.unended k (sym p ∙ q) b) fine)
refuses_so mb mt before byte refusal a h (late f e) =
    let m : Reading = reads (fresh mb mt) before in
    let p : m.place ≡ Trailer e.count e.marked = same_place mb mt before e.body
    (Trailer e.count e.marked) a e.front in
    let t : m.max_trailer ≡ mt = trailer_stays (fresh mb mt) before in
    let l : is_last_of_trailer m.max_trailer m.place ≡ true =
    ap (λ q. is_last_of_trailer m.max_trailer q) p ∙ ap (λ k. nat_eq (e.count + 1) k) t
    ∙ test_true (e.count + 1) mt e.full in
    so_late m byte h (not_last mb mt before a f) l ∙ ap (λ k. Refused (TrailerTooLarge k)) t

pub record ReadRefused (mb mt : ℕ) (wire body : List ℕ) (refusal : Refusal)
    (before : List ℕ) : Type 0 where
  pub at : (reads (fresh mb mt) wire).place ≡ Refused refusal
  pub taken : (reads (fresh mb mt) wire).taken ≡ length before + 1
  pub gave : decodes (fresh mb mt) wire ≡ body

pub refused_read : (mb mt : ℕ) (wire body : List ℕ) (refusal : Refusal) →
    (q : IsRefused mb mt wire body refusal) → ReadRefused mb mt wire body refusal q.before
unfolding reads decodes
refused_read mb mt wire body refusal q =
    let s : Reading = fresh mb mt in
    let m : Reading = reads s q.before in
    let o = open_read mb mt q.before body q.least in
    let p : m.place ≡ q.place = same_place mb mt q.before body q.place o.alive q.stands in
    let h : has_ended m.place ≡ false = ap has_ended o.at ∙ q.least.going in
    let r : (advance m q.byte).place ≡ Refused refusal =
    refuses_so mb mt q.before q.byte refusal o.alive h
    (subst (λ k. Because mb mt k q.before q.byte refusal) (sym p) q.because) in
    let e : reads s wire ≡ advance m q.byte =
    ap (λ l. reads s l) q.whole ∙ reads-append s q.before (q.byte ∷ q.after)
    ∙ ended_stays (advance m q.byte) q.after (ap has_ended r) in
    let none : decodes m (q.byte ∷ q.after) ≡ [] =
    ap (λ l. l ++ decodes (advance m q.byte) q.after) (refused_gives m q.byte refusal h r)
    ∙ ended_gives (advance m q.byte) q.after (ap has_ended r) in
    record {
      at = ap (λ (k : Reading). k.place) e ∙ r;
      taken = (let n = ap (λ (k : Reading). k.taken) e in let k = counted m q.byte h in let c =
          o.alive.count in omega (arith, n, k, c));
      gave = ap (λ l. decodes s l) q.whole ∙ decodes-append s q.before (q.byte ∷ q.after)
          ∙ ap (λ l. decodes s q.before ++ l) none ∙ append-nil (decodes s q.before) ∙ o.gave;
    }

-- by the public verdicts
pub whole_pub : (mb mt : ℕ) (wire body : List ℕ) → Whole mb mt wire body → Read mb mt wire body Over
whole_pub mb mt wire body w = whole_read mb mt wire body (whole_from mb mt wire body w)

pub open_gave : (mb mt : ℕ) (wire body : List ℕ) → Open mb mt wire body → decodes (fresh mb mt) wire
    ≡ body
open_gave mb mt wire body o = (open_read mb mt wire body (open_from mb mt wire body o)).gave

pub refused_pub : (mb mt : ℕ) (wire body : List ℕ) (refusal : Refusal) →
    (q : Ends mb mt wire body refusal) → ReadRefused mb mt wire body refusal q.before
refused_pub mb mt wire body refusal q =
    subst (ReadRefused mb mt wire body refusal) (same_before mb mt wire body refusal q)
    (refused_read mb mt wire body refusal (refused_from mb mt wire body refusal q))

-- the reader behind a piece that ends a body within it
pub done_read : (mb mt n : ℕ) (wire body piece got : List ℕ) →
    Whole mb mt (wire ++ take n piece) (body ++ got) → reads (fresh mb mt) (wire ++ piece)
    ≡ reads (fresh mb mt) (wire ++ take n piece)
done_read mb mt n wire body piece got w =
    let s : Reading = fresh mb mt in
    let r = whole_pub mb mt (wire ++ take n piece) (body ++ got) w in
    ap (λ l. reads s (wire ++ l)) (sym (take-append-drop n piece))
    ∙ ap (λ l. reads s l) (sym (append_assoc wire (take n piece) (drop n piece)))
    ∙ reads-append s (wire ++ take n piece) (drop n piece)
    ∙ ended_stays (reads s (wire ++ take n piece)) (drop n piece) (ap has_ended r.at)

same_count : (mb mt m n : ℕ) (wire body piece got other : List ℕ) → m ≤ length piece →
    n ≤ length piece → Whole mb mt (wire ++ take m piece) (body ++ got) →
    Whole mb mt (wire ++ take n piece) (body ++ other) → m ≡ n
same_count mb mt m n wire body piece got other k l v w =
    let a = (whole_pub mb mt (wire ++ take m piece) (body ++ got) v).alive.count in
    let b = (whole_pub mb mt (wire ++ take n piece) (body ++ other) w).alive.count in
    let c = ap (λ (r : Reading). r.taken) (sym (done_read mb mt m wire body piece got v)
    ∙ done_read mb mt n wire body piece other w) in
    let d = length-append wire (take m piece) in
    let e = length-append wire (take n piece) in
    let f = length-take-le m piece k in
    let g = length-take-le n piece l in
    omega (arith, a, b, c, d, e, f, g)

same_got : (body got other all : List ℕ) → all ≡ body ++ got → all ≡ body ++ other → got ≡ other
same_got body got other all e f = append_cancel_left body got other (sym e ∙ f)

going_place : (p : Place) → has_ended p ≡ false → p ≡ Over → ⊥
going_place p h e = let no : false ≡ true = sym h ∙ ap has_ended e in cc

going_refused : (p : Place) (r : Refusal) → has_ended p ≡ false → p ≡ Refused r → ⊥
going_refused p r h e = let no : false ≡ true = sym h ∙ ap has_ended e in cc

over_refused : (p : Place) (r : Refusal) → p ≡ Over → p ≡ Refused r → ⊥
over_refused p r a b = let no : Over ≡ Refused r = sym a ∙ b in cc

same_refusal : (p : Place) (r q : Refusal) → p ≡ Refused r → p ≡ Refused q → r ≡ q
same_refusal p r q a b = let e : Refused r ≡ Refused q = sym a ∙ b in cc

pub open_place : (mb mt : ℕ) (wire body : List ℕ) → Open mb mt wire body →
    has_ended (reads (fresh mb mt) wire).place ≡ false
open_place mb mt wire body o =
    let n = open_from mb mt wire body o in ap has_ended (open_read mb mt wire body n).at ∙ n.going

done_place : (mb mt n : ℕ) (wire body piece got : List ℕ) →
    Whole mb mt (wire ++ take n piece) (body ++ got) → (reads (fresh mb mt) (wire ++ piece)).place
    ≡ Over
done_place mb mt n wire body piece got w = ap (λ (r : Reading). r.place)
    (done_read mb mt n wire body piece got w) ∙ (whole_pub mb mt (wire ++ take n piece)
    (body ++ got) w).at

-- only one answer is right, and only one list of data
pub one_answer : (mb mt : ℕ) (wire body piece got other : List ℕ) (f g : Fed) →
    Notes f mb mt wire body piece got → Notes g mb mt wire body piece other → (IsNoMemory f → ⊥) →
    (IsNoMemory g → ⊥) → (f ≡ g) × (got ≡ other)
one_answer mb mt wire body piece got other fed.More fed.More t u m n = (
  refl,
  same_got body got other (decodes (fresh mb mt) (wire ++ piece))
      (open_gave mb mt (wire ++ piece) (body ++ got) t)
      (open_gave mb mt (wire ++ piece) (body ++ other) u),
)
one_answer mb mt wire body piece got other fed.More (fed.Done k) t u m n =
    absurd (going_place (reads (fresh mb mt) (wire ++ piece)).place
    (open_place mb mt (wire ++ piece) (body ++ got) t)
    (done_place mb mt k wire body piece other u.1))
one_answer mb mt wire body piece got other fed.More (fed.Bad r) t u m n =
    absurd (going_refused (reads (fresh mb mt) (wire ++ piece)).place r
    (open_place mb mt (wire ++ piece) (body ++ got) t)
    (refused_pub mb mt (wire ++ piece) (body ++ other) r u).at)
one_answer mb mt wire body piece got other fed.More fed.NoMemory t u m n = absurd (n tt)
one_answer mb mt wire body piece got other (fed.Done k) fed.More t u m n =
    absurd (going_place (reads (fresh mb mt) (wire ++ piece)).place
    (open_place mb mt (wire ++ piece) (body ++ other) u)
    (done_place mb mt k wire body piece got t.1))
one_answer mb mt wire body piece got other (fed.Done k) (fed.Done j) t u m n =
    let e : k ≡ j = same_count mb mt k j wire body piece got other t.0 u.0 t.1 u.1 in (
      ap (λ i. fed.Done i) e,
      same_got body got other (decodes (fresh mb mt) (wire ++ take j piece))
          (subst (λ i. decodes (fresh mb mt) (wire ++ take i piece) ≡ body ++ got) e
          (whole_pub mb mt (wire ++ take k piece) (body ++ got) t.1).gave)
          (whole_pub mb mt (wire ++ take j piece) (body ++ other) u.1).gave,
    )
one_answer mb mt wire body piece got other (fed.Done k) (fed.Bad r) t u m n =
    absurd (over_refused (reads (fresh mb mt) (wire ++ piece)).place r
    (done_place mb mt k wire body piece got t.1)
    (refused_pub mb mt (wire ++ piece) (body ++ other) r u).at)
one_answer mb mt wire body piece got other (fed.Done k) fed.NoMemory t u m n = absurd (n tt)
one_answer mb mt wire body piece got other (fed.Bad r) fed.More t u m n =
    absurd (going_refused (reads (fresh mb mt) (wire ++ piece)).place r
    (open_place mb mt (wire ++ piece) (body ++ other) u)
    (refused_pub mb mt (wire ++ piece) (body ++ got) r t).at)
one_answer mb mt wire body piece got other (fed.Bad r) (fed.Done j) t u m n =
    absurd (over_refused (reads (fresh mb mt) (wire ++ piece)).place r
    (done_place mb mt j wire body piece other u.1)
    (refused_pub mb mt (wire ++ piece) (body ++ got) r t).at)
one_answer mb mt wire body piece got other (fed.Bad r) (fed.Bad q) t u m n =
    let a = refused_pub mb mt (wire ++ piece) (body ++ got) r t in
    let b = refused_pub mb mt (wire ++ piece) (body ++ other) q u in (
      ap (λ i. fed.Bad i) (same_refusal (reads (fresh mb mt) (wire ++ piece)).place r q a.at b.at),
      same_got body got other (decodes (fresh mb mt) (wire ++ piece)) a.gave b.gave,
    )
one_answer mb mt wire body piece got other (fed.Bad r) fed.NoMemory t u m n = absurd (n tt)
one_answer mb mt wire body piece got other fed.NoMemory g t u m n = absurd (m tt)
