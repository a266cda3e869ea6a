-- From what was read of a piece to what all bytes so far are.
use Rattle.std.proofs.Common.{◌≡◌, ◌≤◌, ◌<◌, ◌-◌, ◌∷◌, ◌+◌, ℕ, true, false, List, [], ◌++◌, length}
use Rattle.std.proofs.Common.{take, refl, ap, sym, subst, ◌∙◌, arith, length-append}
use Rattle.std.proofs.lemmas.List.{append-nil, length-take-le}
use Rattle.chunk_body.specs.Verdicts.{IsOpen, IsWhole, IsRefused}
use Rattle.chunk_body.specs.Reading.{has_ended, Reading, reads, advance, given, gives, is_last}
use Rattle.chunk_body.specs.Reading.{decodes, is_refused, fresh, Reads}
use Rattle.chunk_body.specs.Pieces.{ReadsPiece}
use Rattle.chunk_body.specs.Answers.{read_of, Notes, Decides, IsFed, most_of}
use Rattle.chunk_body.specs.Bodies.{whole, partial, body_at, coded}
use Rattle.chunk_body.proofs.Choices.{by_cond}
use Rattle.chunk_body.proofs.BodyLaws.{coded_read, coded_goes_on, going_body, taken_some}
use Rattle.std.specs.Prelude.{◌||◌}
use Rattle.chunk_body.proofs.Standing.{open_to, whole_to, refused_to}
use Rattle.chunk_body.proofs.Runs.{reads-append, decodes-append}
use Rattle.chunk_body.proofs.Verdict.{Alive, fine_before, going_fine, open_at, whole_at, refused_at}
use Rattle.byte_tables.specs.declared.refusal.Refusal.{Refusal}
use Rattle.chunk_body.specs.declared.place.Place.{Place}
use Rattle.chunk_body.specs.declared.place.Place.TheVariants.{LineStart, Digits, Blanks, Extension}
use Rattle.chunk_body.specs.declared.place.Place.TheVariants.{LineCr, Data, DataEnd, DataCr}
use Rattle.chunk_body.specs.declared.place.Place.TheVariants.{Trailer, Over, Refused}
use Rattle.chunk_body.specs.declared.chunks.Fed.{Fed}
use Rattle.chunk_body.specs.declared.chunks.Fed.TheVariants as fed

pub starts : (mb mt : ℕ) → Reads mb mt (fresh mb mt) [] []
unfolding reads decodes
starts mb mt = record { state = refl; gave = refl; count = λ _. refl }

on : (mb mt : ℕ) (old new : Reading) (wire body xs got : List ℕ) → Reads mb mt old wire body →
    new ≡ reads old xs → got ≡ decodes old xs →
    (is_refused new.place ≡ false → new.taken ≡ old.taken + length xs) →
    Reads mb mt new (wire ++ xs) (body ++ got)
on mb mt old new wire body xs got r s g c = record {
  state = s ∙ ap (λ k. reads k xs) r.state ∙ sym (reads-append (fresh mb mt) wire xs);
  gave = ap (λ b. b ++ got) r.gave ∙ ap (λ b. decodes (fresh mb mt) wire ++ b) (g
      ∙ ap (λ k. decodes k xs) r.state) ∙ sym (decodes-append (fresh mb mt) wire xs);
  count = λ f.
      let o : old.taken ≡ length wire = r.count (fine_before old xs
      (ap (λ (k : Reading). is_refused k.place) (sym s) ∙ f)) in
      let n = c f in omega (arith, o, n, length-append wire xs);
}

alive : (mb mt : ℕ) (new : Reading) (wire body : List ℕ) → Reads mb mt new wire body →
    is_refused new.place ≡ false → Alive mb mt wire
alive mb mt new wire body r f = record {
  count = ap (λ (k : Reading). k.taken) (sym r.state) ∙ r.count f;
  fine = ap (λ (k : Reading). is_refused k.place) (sym r.state) ∙ f;
}

pub opens : (mb mt : ℕ) (new : Reading) (wire body : List ℕ) → Reads mb mt new wire body →
    has_ended new.place ≡ false → IsOpen mb mt wire body
opens mb mt new wire body r h =
    subst (λ b. IsOpen mb mt wire b) (sym r.gave) (open_to mb mt wire (decodes (fresh mb mt) wire)
    (open_at mb mt wire (alive mb mt new wire body r (going_fine new.place h))
    (ap (λ (k : Reading). has_ended k.place) (sym r.state) ∙ h)))

pub wholes : (mb mt : ℕ) (new : Reading) (wire body : List ℕ) → Reads mb mt new wire body →
    new.place ≡ Over → IsWhole mb mt wire body
wholes mb mt new wire body r h =
    subst (λ b. IsWhole mb mt wire b) (sym r.gave)
    (whole_to mb mt wire (decodes (fresh mb mt) wire)
    (whole_at mb mt wire (alive mb mt new wire body r (ap is_refused h))
    (ap (λ (k : Reading). k.place) (sym r.state) ∙ h)))

pub refuseds : (mb mt : ℕ) (new : Reading) (wire body : List ℕ) (refusal : Refusal) →
    Reads mb mt new wire body → new.place ≡ Refused refusal → IsRefused mb mt wire body refusal
refuseds mb mt new wire body refusal r h =
    subst (λ b. IsRefused mb mt wire b refusal) (sym r.gave)
    (refused_to mb mt wire (decodes (fresh mb mt) wire) refusal
    (refused_at mb mt wire refusal (ap (λ (k : Reading). k.place) (sym r.state) ∙ h)))

pub goes_on : (f : Fed) (piece got : List ℕ) (old new : Reading) → ReadsPiece f piece old new got →
    (mb mt : ℕ) (wire body : List ℕ) → Reads mb mt old wire body →
    Reads mb mt new (wire ++ read_of f piece) (body ++ got)
goes_on fed.More piece got old new p mb mt wire body r =
    on mb mt old new wire body piece got r p.1 p.2 (λ _. p.3)
goes_on (fed.Done n) piece got old new p mb mt wire body r =
    on mb mt old new wire body (take n piece) got r p.1 p.2 (λ _. p.4
    ∙ ap (λ k. old.taken + k) (sym (length-take-le n piece p.0)))
goes_on (fed.Bad refusal) piece got old new p mb mt wire body r =
    on mb mt old new wire body piece got r p.0 p.1 (λ f. let no : true ≡ false =
    ap is_refused (sym p.2) ∙ f in cc)
goes_on fed.NoMemory piece got old new p mb mt wire body r =
    subst (λ k. Reads mb mt k (wire ++ []) (body ++ got)) (sym p.0)
    (subst (λ w. Reads mb mt old w (body ++ got)) (sym (append-nil wire))
    (subst (λ b. Reads mb mt old wire b) (sym (ap (λ g. body ++ g) p.1 ∙ append-nil body)) r))

pub tells : (f : Fed) (piece got : List ℕ) (old new : Reading) → ReadsPiece f piece old new got →
    (mb mt : ℕ) (wire body : List ℕ) → Reads mb mt old wire body → Notes f mb mt wire body piece got
tells fed.More piece got old new p mb mt wire body r =
    opens mb mt new (wire ++ piece) (body ++ got) (goes_on fed.More piece got old new p mb mt wire
    body r) p.0
tells (fed.Done n) piece got old new p mb mt wire body r = (
  p.0,
  wholes mb mt new (wire ++ take n piece) (body ++ got)
      (goes_on (fed.Done n) piece got old new p mb mt wire body r) p.3,
)
tells (fed.Bad refusal) piece got old new p mb mt wire body r =
    refuseds mb mt new (wire ++ piece) (body ++ got) refusal
    (goes_on (fed.Bad refusal) piece got old new p mb mt wire body r) p.2
tells fed.NoMemory piece got old new p mb mt wire body r = p.1

-- the reader as what it found
found : (mb mt : ℕ) (new : Reading) (wire content : List ℕ) → Reads mb mt new wire content →
    coded mb mt wire ≡ body_at new.place new.taken content
found mb mt new wire content r =
    coded_read mb mt wire new.place new.taken content (ap (λ (k : Reading). k.place) (sym r.state))
    (ap (λ (k : Reading). k.taken) (sym r.state)) (sym r.gave)

none_refused : (old new : Reading) (xs : List ℕ) (refusal : Refusal) → has_ended old.place ≡ false →
    new ≡ reads old xs → new.place ≡ Refused refusal → old.taken < new.taken
unfolding reads
none_refused old new [] refusal h s e = absurd (let no : true ≡ false = sym (ap has_ended e)
    ∙ (ap (λ (k : Reading). has_ended k.place) s ∙ h) in cc)
none_refused old new (x ∷ xs) refusal h s e = let l = taken_some old x xs h in let k =
    ap (λ (k : Reading). k.taken) s in omega (arith, l, k)

pub decides : (f : Fed) (piece got : List ℕ) (old new : Reading) → ReadsPiece f piece old new got →
    (mb mt : ℕ) (wire content : List ℕ) → Reads mb mt old wire content →
    coded mb mt wire ≡ partial content → Decides f mb mt wire content piece got
decides fed.More piece got old new p mb mt wire content r e =
    found mb mt new (wire ++ piece) (content ++ got)
    (goes_on fed.More piece got old new p mb mt wire content r)
    ∙ going_body new.place new.taken (content ++ got) p.0
decides (fed.Done n) piece got old new p mb mt wire content r e =
    let m : Reads mb mt new (wire ++ take n piece) (content ++ got) =
    goes_on (fed.Done n) piece got old new p mb mt wire content r in
    let c : new.taken ≡ length (wire ++ take n piece) = m.count (ap is_refused p.3) in
    let k : new.taken ≡ length wire + n = omega (
      arith,
      c,
      length-append wire (take n piece),
      length-take-le n piece p.0,
    ) in
    found mb mt new (wire ++ take n piece) (content ++ got) m
    ∙ ap (λ q. body_at q new.taken (content ++ got)) p.3 ∙ ap (λ j. whole j (content ++ got)) k
decides (fed.Bad refusal) piece got old new p mb mt wire content r e =
    let h : has_ended old.place ≡ false = ap (λ (k : Reading). has_ended k.place) r.state
    ∙ coded_goes_on mb mt wire content e in
    let c : old.taken ≡ length wire = r.count (going_fine old.place h) in
    let l : old.taken < new.taken = none_refused old new piece refusal h p.0 p.2 in (
      new.taken - 1,
      omega (arith, c, l),
      found mb mt new (wire ++ piece) (content ++ got)
          (goes_on (fed.Bad refusal) piece got old new p mb mt wire content r)
          ∙ ap (λ q. body_at q new.taken (content ++ got)) p.2,
    )
decides fed.NoMemory piece got old new p mb mt wire content r e = p.1

pub is_fed : (f : Fed) (piece got : List ℕ) (old new : Reading) → ReadsPiece f piece old new got →
    IsFed f piece got old new
is_fed f piece got old new p = record {
  goes_on = goes_on f piece got old new p;
  tells =
      tells f piece got old new p;
  decides = decides f piece got old new p;
}

-- no more data than bytes
given_most : (p : Place) (c : ℕ) → length (given p c) ≤ 1
given_most LineStart c = omega arith
given_most (Digits n k) c = omega arith
given_most (Blanks n k) c = omega arith
given_most (Extension n k) c = omega arith
given_most (LineCr n k) c = omega arith
given_most (Data left) c = omega arith
given_most DataEnd c = omega arith
given_most DataCr c = omega arith
given_most (Trailer n m) c = omega arith
given_most Over c = omega arith
given_most (Refused r) c = omega arith

gives_most : (s : Reading) (c : ℕ) → length (gives s c) ≤ 1
unfolding gives
gives_most s c = by_cond (λ l. length l ≤ 1) (has_ended s.place || is_last s) [] (given s.place c)
    (λ _. omega arith) (λ _. given_most s.place c)

decodes_most : (s : Reading) (xs : List ℕ) → length (decodes s xs) ≤ length xs
unfolding decodes
decodes_most s [] = omega arith
decodes_most s (x ∷ xs) =
    let g = gives_most s x in let m = decodes_most (advance s x) xs in
    omega (arith, g, m, length-append (gives s x) (decodes (advance s x) xs))

pub grows : (f : Fed) (piece got : List ℕ) (old new : Reading) → ReadsPiece f piece old new got →
    length got ≤ most_of f (length piece)
grows fed.More piece got old new p = let e = ap length p.2 in let m = decodes_most old piece in
    omega (arith, e, m)
grows (fed.Done n) piece got old new p = let e = ap length p.2 in let m =
    decodes_most old (take n piece) in let l = length-take-le n piece p.0 in omega (arith, e, m, l)
grows (fed.Bad refusal) piece got old new p = let e = ap length p.1 in let m =
    decodes_most old piece in omega (arith, e, m)
grows fed.NoMemory piece got old new p = let e = ap length p.1 in omega (arith, e)
