-- What stands at the front of some bytes: exactly one body, part of a body or refused byte.
use Rattle.std.proofs.Common.{◌≡◌, ◌≤◌, ◌<◌, ◌+◌, ◌-◌, ℕ, true, false, List, [], ◌∷◌, ◌++◌, length}
use Rattle.std.proofs.Common.{take, drop, refl, ap, sym, subst, ◌∙◌, arith, inl, inr, length-append}
use Rattle.std.proofs.lemmas.List.{append-nil, take-append-drop, take-append-le, take_all}
use Rattle.std.proofs.lemmas.List.{length-take-le}
use Rattle.byte_tables.specs.declared.refusal.Refusal.{Refusal}
use Rattle.chunk_body.specs.Verdicts.{IsWhole, IsRefused}
use Rattle.chunk_body.specs.Bodies.{Body, whole, wrong, partial, body_at, coded, IsFront, IsSettled}
use Rattle.chunk_body.specs.Bodies.{LiesWithin}
use Rattle.chunk_body.specs.Reading.{Reading, advance, reads, decodes, is_refused, has_ended}
use Rattle.chunk_body.specs.Reading.{fresh}
use Rattle.chunk_body.proofs.Choices.{either}
use Rattle.chunk_body.proofs.Runs.{reads-append, decodes-append, ended_stays, ended_gives, counted}
use Rattle.chunk_body.proofs.Verdict.{Alive, going_fine, ended_over, open_at, whole_at, refused_at}
use Rattle.chunk_body.proofs.Verdict.{taken_most, zero_more}
use Rattle.chunk_body.proofs.Standing.{open_to, whole_to, refused_to}
use Rattle.chunk_body.proofs.Reached.{reached, refusal_in}
use Rattle.chunk_body.proofs.OneAnswer.{open_gave, open_place, whole_pub, refused_pub}
use Rattle.chunk_body.specs.declared.place.Place.{Place}
use Rattle.chunk_body.specs.declared.place.Place.TheVariants.{LineStart, Digits, Blanks, Extension}
use Rattle.chunk_body.specs.declared.place.Place.TheVariants.{LineCr, Data, DataEnd, DataCr}
use Rattle.chunk_body.specs.declared.place.Place.TheVariants.{Trailer, Over, Refused}

-- places as bodies
pub going_body : (p : Place) (n : ℕ) (d : List ℕ) → has_ended p ≡ false → body_at p n d ≡ partial d
going_body LineStart n d e = refl
going_body (Digits i k) n d e = refl
going_body (Blanks i k) n d e = refl
going_body (Extension i k) n d e = refl
going_body (LineCr i k) n d e = refl
going_body (Data left) n d e = refl
going_body DataEnd n d e = refl
going_body DataCr n d e = refl
going_body (Trailer i m) n d e = refl
going_body Over n d e = let no : true ≡ false = e in cc
going_body (Refused r) n d e = let no : true ≡ false = e in cc

settled_ends : (p : Place) (n : ℕ) (d : List ℕ) → IsSettled (body_at p n d) → has_ended p ≡ true
settled_ends LineStart n d s = absurd s
settled_ends (Digits i k) n d s = absurd s
settled_ends (Blanks i k) n d s = absurd s
settled_ends (Extension i k) n d s = absurd s
settled_ends (LineCr i k) n d s = absurd s
settled_ends (Data left) n d s = absurd s
settled_ends DataEnd n d s = absurd s
settled_ends DataCr n d s = absurd s
settled_ends (Trailer i m) n d s = absurd s
settled_ends Over n d s = refl
settled_ends (Refused r) n d s = refl

settled_at : (p : Place) (n : ℕ) (d : List ℕ) → has_ended p ≡ true → IsSettled (body_at p n d)
settled_at LineStart n d e = let no : false ≡ true = e in cc
settled_at (Digits i k) n d e = let no : false ≡ true = e in cc
settled_at (Blanks i k) n d e = let no : false ≡ true = e in cc
settled_at (Extension i k) n d e = let no : false ≡ true = e in cc
settled_at (LineCr i k) n d e = let no : false ≡ true = e in cc
settled_at (Data left) n d e = let no : false ≡ true = e in cc
settled_at DataEnd n d e = let no : false ≡ true = e in cc
settled_at DataCr n d e = let no : false ≡ true = e in cc
settled_at (Trailer i m) n d e = let no : false ≡ true = e in cc
settled_at Over n d e = tt
settled_at (Refused r) n d e = tt

lies_at : (size : ℕ) (p : Place) (n : ℕ) (d : List ℕ) → 0 < n → n ≤ size →
    LiesWithin size (body_at p n d)
lies_at size LineStart n d s l = tt
lies_at size (Digits i k) n d s l = tt
lies_at size (Blanks i k) n d s l = tt
lies_at size (Extension i k) n d s l = tt
lies_at size (LineCr i k) n d s l = tt
lies_at size (Data left) n d s l = tt
lies_at size DataEnd n d s l = tt
lies_at size DataCr n d s l = tt
lies_at size (Trailer i m) n d s l = tt
lies_at size Over n d s l = (s, l)
lies_at size (Refused r) n d s l = omega arith

-- counts
pub taken_least : (s : Reading) (xs : List ℕ) → s.taken ≤ (reads s xs).taken
unfolding reads
taken_least s [] = omega arith
taken_least s (x ∷ xs) = either (has_ended s.place)
    (λ h. let e : (reads s (x ∷ xs)).taken ≡ s.taken =
    ap (λ (r : Reading). r.taken) (ended_stays s (x ∷ xs) h) in omega (arith, e))
    (λ h. let e = counted s x h in let m = taken_least (advance s x) xs in omega (arith, e, m))

-- a byte that is read is counted
pub taken_some : (s : Reading) (x : ℕ) (xs : List ℕ) → has_ended s.place ≡ false →
    s.taken < (reads s (x ∷ xs)).taken
unfolding reads
taken_some s x xs h = let e = counted s x h in let m = taken_least (advance s x) xs in
    omega (arith, e, m)

-- what a reader finds
pub coded_read : (mb mt : ℕ) (bytes : List ℕ) (p : Place) (n : ℕ) (d : List ℕ) →
    (reads (fresh mb mt) bytes).place ≡ p → (reads (fresh mb mt) bytes).taken ≡ n →
    decodes (fresh mb mt) bytes ≡ d → coded mb mt bytes ≡ body_at p n d
unfolding coded
coded_read mb mt bytes p n d e f g = rw (e, f, g) refl

pub coded_goes_on : (mb mt : ℕ) (bytes content : List ℕ) → coded mb mt bytes ≡ partial content →
    has_ended (reads (fresh mb mt) bytes).place ≡ false
unfolding coded
coded_goes_on mb mt bytes content e = either (has_ended (reads (fresh mb mt) bytes).place)
    (λ h. absurd (subst IsSettled e (settled_at (reads (fresh mb mt) bytes).place
    (reads (fresh mb mt) bytes).taken (decodes (fresh mb mt) bytes) h)))
    (λ h. h)

-- bytes behind an end change nothing
record Stays (mb mt : ℕ) (bytes more : List ℕ) : Type 0 where
  state : reads (fresh mb mt) (bytes ++ more) ≡ reads (fresh mb mt) bytes
  gave : decodes (fresh mb mt) (bytes ++ more) ≡ decodes (fresh mb mt) bytes

stays : (mb mt : ℕ) (bytes more : List ℕ) → has_ended (reads (fresh mb mt) bytes).place ≡ true →
    Stays mb mt bytes more
stays mb mt bytes more h = record {
  state = reads-append (fresh mb mt) bytes more ∙ ended_stays (reads (fresh mb mt) bytes) more h;
  gave = decodes-append (fresh mb mt) bytes more ∙ ap (λ l. decodes (fresh mb mt) bytes ++ l)
      (ended_gives (reads (fresh mb mt) bytes) more h) ∙ append-nil (decodes (fresh mb mt) bytes);
}

pub coded-settled : (mb mt : ℕ) (bytes more : List ℕ) → IsSettled (coded mb mt bytes) →
    coded mb mt (bytes ++ more) ≡ coded mb mt bytes
unfolding coded
coded-settled mb mt bytes more h =
    let s : Stays mb mt bytes more = stays mb mt bytes more
    (settled_ends (reads (fresh mb mt) bytes).place (reads (fresh mb mt) bytes).taken
    (decodes (fresh mb mt) bytes) h) in
    coded_read mb mt (bytes ++ more) (reads (fresh mb mt) bytes).place
    (reads (fresh mb mt) bytes).taken (decodes (fresh mb mt) bytes)
    (ap (λ (r : Reading). r.place) s.state) (ap (λ (r : Reading). r.taken) s.state) s.gave

pub coded-empty : (mb mt : ℕ) → coded mb mt [] ≡ partial []
unfolding coded reads decodes
coded-empty mb mt = refl

pub coded-within : (mb mt : ℕ) (bytes : List ℕ) → LiesWithin (length bytes) (coded mb mt bytes)
unfolding coded
coded-within mb mt [] = subst (LiesWithin 0) (sym (coded-empty mb mt)) tt
coded-within mb mt (x ∷ xs) =
    let start : has_ended (fresh mb mt).place ≡ false = refl in
    let s : 0 < (reads (fresh mb mt) (x ∷ xs)).taken = taken_some (fresh mb mt) x xs start in
    let m : (reads (fresh mb mt) (x ∷ xs)).taken ≤ 0 + length (x ∷ xs) =
    taken_most (fresh mb mt) (x ∷ xs) in
    lies_at (length (x ∷ xs)) (reads (fresh mb mt) (x ∷ xs)).place
    (reads (fresh mb mt) (x ∷ xs)).taken (decodes (fresh mb mt) (x ∷ xs)) s (omega (arith, m))

-- what is found stands there
going_front : (mb mt : ℕ) (bytes : List ℕ) → has_ended (reads (fresh mb mt) bytes).place ≡ false →
    IsFront mb mt bytes (coded mb mt bytes)
going_front mb mt bytes h =
    let r : Reading = reads (fresh mb mt) bytes in
    let f : is_refused r.place ≡ false = going_fine r.place h in
    let count : r.taken ≡ length bytes = elim (reached (fresh mb mt) bytes f) [
      | inl t ↦ t ∙ sym (zero_more (length bytes) (length bytes) refl)
      | inr y ↦ absurd (let over : has_ended (reads (fresh mb mt) (y.front ++ y.rest)).place
          ≡ true = ap (λ (k : Reading). has_ended k.place)
          (stays mb mt y.front y.rest (ap has_ended y.over)).state ∙ ap has_ended y.over in
          let no : true ≡ false = sym over ∙ (ap (λ l. has_ended (reads (fresh mb mt) l).place)
          (sym y.whole) ∙ h) in cc)
    ] in
    let a : Alive mb mt bytes = record { count = count; fine = f } in
    subst (IsFront mb mt bytes) (sym (coded_read mb mt bytes r.place r.taken
    (decodes (fresh mb mt) bytes) refl refl refl
    ∙ going_body r.place r.taken (decodes (fresh mb mt) bytes) h))
    (open_to mb mt bytes (decodes (fresh mb mt) bytes) (open_at mb mt bytes a h))

-- a whole body, and what stands behind it
record Begins (mb mt : ℕ) (bytes : List ℕ) : Type 0 where
  front : List ℕ
  rest : List ℕ
  split : bytes ≡ front ++ rest
  over : (reads (fresh mb mt) front).place ≡ Over
  taken : (reads (fresh mb mt) front).taken ≡ length front

begins : (mb mt : ℕ) (bytes : List ℕ) → (reads (fresh mb mt) bytes).place ≡ Over →
    Begins mb mt bytes
begins mb mt bytes o = elim (reached (fresh mb mt) bytes (ap is_refused o)) [
  | inl t ↦ record {
    front = bytes;
    rest = [];
    split = sym (append-nil bytes);
    over = o;
    taken =
        t ∙ sym (zero_more (length bytes) (length bytes) refl);
  }
  | inr y ↦ record {
    front = y.front;
    rest = y.rest;
    split = y.whole;
    over = y.over;
    taken =
        y.taken ∙ sym (zero_more (length y.front) (length y.front) refl);
  }
]

whole_front : (mb mt : ℕ) (bytes : List ℕ) → (reads (fresh mb mt) bytes).place ≡ Over →
    IsFront mb mt bytes (coded mb mt bytes)
whole_front mb mt bytes o =
    let b : Begins mb mt bytes = begins mb mt bytes o in
    let s : Stays mb mt b.front b.rest = stays mb mt b.front b.rest (ap has_ended b.over) in
    let d : List ℕ = decodes (fresh mb mt) b.front in
    let found : coded mb mt bytes ≡ whole (length b.front) d = ap (coded mb mt) b.split
    ∙ coded_read mb mt (b.front ++ b.rest) Over (length b.front) d
    (ap (λ (r : Reading). r.place) s.state ∙ b.over) (ap (λ (r : Reading). r.taken) s.state
    ∙ b.taken) s.gave in
    let a : Alive mb mt b.front = record { count = b.taken; fine = ap is_refused b.over } in
    let cut : take (length b.front) bytes ≡ b.front = ap (λ l. take (length b.front) l) b.split
    ∙ take-append-le (length b.front) b.front b.rest (omega arith)
    ∙ take_all (length b.front) b.front (omega arith) in
    subst (IsFront mb mt bytes) (sym found) (
      (let k = ap length b.split in omega (arith, k, length-append b.front b.rest)),
      subst (λ l. IsWhole mb mt l d) (sym cut) (whole_to mb mt b.front d
          (whole_at mb mt b.front a b.over)),
    )

refused_front : (mb mt : ℕ) (bytes : List ℕ) (refusal : Refusal) → (reads (fresh mb mt) bytes).place
    ≡ Refused refusal → IsFront mb mt bytes (coded mb mt bytes)
refused_front mb mt bytes refusal e =
    let q : IsRefused mb mt bytes (decodes (fresh mb mt) bytes) refusal =
    refused_to mb mt bytes (decodes (fresh mb mt) bytes) refusal
    (refused_at mb mt bytes refusal e) in
    let r = refused_pub mb mt bytes (decodes (fresh mb mt) bytes) refusal q in
    subst (IsFront mb mt bytes) (sym (coded_read mb mt bytes (Refused refusal)
    (reads (fresh mb mt) bytes).taken (decodes (fresh mb mt) bytes) e refl refl))
    (record {
      content = decodes (fresh mb mt) bytes;
      refused = q;
      here =
          (let t = r.taken in omega (arith, t));
    })

pub coded-front : (mb mt : ℕ) (bytes : List ℕ) → IsFront mb mt bytes (coded mb mt bytes)
coded-front mb mt bytes =
    let p : Place = (reads (fresh mb mt) bytes).place in
    either (has_ended p)
    (λ h. either (is_refused p) (λ r. let x = refusal_in p r in refused_front mb mt bytes x.0 x.1)
    (λ f. whole_front mb mt bytes (ended_over p h f)))
    (λ h. going_front mb mt bytes h)

-- what stands there is found
pub coded-only : (mb mt : ℕ) (bytes : List ℕ) (body : Body) → IsFront mb mt bytes body →
    body ≡ coded mb mt bytes
coded-only mb mt bytes (whole n content) h =
    let w = whole_pub mb mt (take n bytes) content h.1 in
    let s : Stays mb mt (take n bytes) (drop n bytes) =
    stays mb mt (take n bytes) (drop n bytes) (ap has_ended w.at) in
    let c : (reads (fresh mb mt) (take n bytes)).taken ≡ n =
    w.alive.count ∙ length-take-le n bytes h.0 in
    sym (ap (coded mb mt) (sym (take-append-drop n bytes))
    ∙ coded_read mb mt (take n bytes ++ drop n bytes) Over n content
    (ap (λ (r : Reading). r.place) s.state ∙ w.at) (ap (λ (r : Reading). r.taken) s.state
    ∙ c) (s.gave ∙ w.gave))
coded-only mb mt bytes (wrong place refusal) h =
    let r = refused_pub mb mt bytes h.content refusal h.refused in
    let n : (reads (fresh mb mt) bytes).taken - 1 ≡ place =
    (let t = r.taken in let e = h.here in omega (arith, t, e)) in
    sym (coded_read mb mt bytes (Refused refusal) (reads (fresh mb mt) bytes).taken
    (decodes (fresh mb mt) bytes) r.at refl refl ∙ ap (λ k. wrong k refusal) n)
coded-only mb mt bytes (partial content) h =
    let r : Reading = reads (fresh mb mt) bytes in
    sym (coded_read mb mt bytes r.place r.taken content refl refl (open_gave mb mt bytes content h)
    ∙ going_body r.place r.taken content (open_place mb mt bytes content h))
