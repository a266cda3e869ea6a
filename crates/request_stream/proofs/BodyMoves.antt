-- A step of a body.
use Rattle.std.proofs.Common.{◌≡◌, ◌≤◌, ◌<◌, ◌+◌, ◌-◌, ℕ, Bool, true, false, List, [], ◌∷◌, ◌++◌}
use Rattle.std.proofs.Common.{length, take, drop, refl, ap, sym, subst, ◌∙◌, arith, length-append}
use Rattle.std.proofs.lemmas.List.{append-nil, append_cancel_left, take_all, length-take}
use Rattle.request_stream.specs.Grammar.{Grammar}
use Rattle.request_stream.specs.declared.types.Limits.{Limits}
use Rattle.head_grammar.specs.Heads.{Head}
use Rattle.head_grammar.specs.declared.types.Framing.TheVariants.{Fixed, Chunked}
use Rattle.byte_tables.specs.declared.refusal.Refusal.{Refusal}
use Rattle.request_stream.specs.declared.state.FixedPart.{FixedPart}
use Rattle.request_stream.specs.declared.state.CodedPart.{CodedPart}
use Rattle.request_stream.specs.declared.state.State.{State}
use Rattle.request_stream.specs.declared.state.State.TheVariants.{Filling, Decoding, Over}
use Rattle.chunk_body.specs.Bodies.{Body, whole, wrong, partial}
use Rattle.chunk_body.specs.Answers.{IsFed}
use Rattle.chunk_body.specs.Reading.{Reading}
use Rattle.chunk_body.specs.declared.chunks.Fed.TheVariants.{More, Done}
use Rattle.chunk_body.specs.declared.chunks.Fed.TheVariants.{Bad as Wrong}
use Rattle.request_stream.specs.Units.{coded_by, Asked, bytes_of, stamped, body_of, waits, ends}
use Rattle.request_stream.specs.Units.{refused_body, welcome, front_by_body, front, units}
use Rattle.spill_buffer.specs.Buffer.{IsToldAs}
use Rattle.request_stream.specs.Reading.{later, Reads, StandsFor, HasTaken, HeadIs, InFixed}
use Rattle.request_stream.specs.Reading.{InCoded, Closes}
use Rattle.request_stream.proofs.AskedLemmas.{asked_is, told_behind, told_trans}
use Rattle.request_stream.proofs.BodyLemmas.{IsWithin, body-within}
use Rattle.request_stream.proofs.LaterLemmas.{later-append, reads, units-waits, Moves}
use Rattle.request_stream.proofs.Ways.{length-stamped, when-stamped, moves_waits, moves_ends}
use Rattle.request_stream.proofs.Ways.{moves_closes}
use Rattle.request_stream.proofs.Fronts.{body_front, head-still, fixed_partial, fixed_whole}
use Rattle.request_stream.proofs.Fronts.{coded_body, behind_more, behind_length}

pub coded_front : (limits : Limits) (x : List (ℕ × ℕ)) (n : ℕ) (head : Head) (bytes : List ℕ)
    (v : Body) → HeadIs limits x n head → head.framing ≡ Chunked → drop n (bytes_of x) ≡ bytes →
    coded_by limits bytes ≡ v → front limits x ≡ front_by_body x n head v
coded_front limits x n head bytes v is f b e =
    body_front limits x n head is ∙ ap (front_by_body x n head)
    (ap (λ g. body_of limits g (drop n (bytes_of x))) f
    ∙ (coded_body limits (drop n (bytes_of x)) ∙ (ap (coded_by limits) b ∙ e)))

module _ (known : Grammar) where
  -- a body of known length

  pub fixed_units : {S : Type 0} (tells : Bool) (limits : Limits) (old : FixedPart S)
      (z : List (ℕ × ℕ)) → 0 < limits.max_head → 0 < old.left → InFixed tells limits z old →
      units limits z ≡ welcome old.head
  fixed_units tells limits old z h left s =
      let size = s.body.size in
      units-waits known limits z (welcome old.head) h
      (body_front limits z s.size old.head s.head ∙ ap (front_by_body z s.size old.head)
      (ap (λ g. body_of limits g (drop s.size (bytes_of z))) s.framing
      ∙ fixed_partial limits (length old.body.bytes + old.left) (drop s.size (bytes_of z))
      (omega arith)))

  -- more of a body of known length, not to its end
  pub fixed_on : {S : Type 0} (tells : Bool) (limits : Limits) (old new : FixedPart S) (now : ℕ)
      (piece : List ℕ) (before : List Asked) (z : List (ℕ × ℕ)) → 0 < limits.max_head →
      0 < old.left → 0 < new.left →
      new.head ≡ old.head → IsToldAs tells new.body.bytes (old.body.bytes ++ piece) →
      new.left + length piece ≡ old.left → StandsFor tells limits (Filling old) z →
      Moves tells limits false (Filling new) z (stamped now piece) before before
  fixed_on tells limits old new now piece before z h left still head body less s =
      let p : List (ℕ × ℕ) = stamped now piece in
      let wire : List ℕ = drop s.size (bytes_of z) in
      let is : HeadIs limits (z ++ p) s.size old.head =
      head-still known limits z p s.size old.head s.head in
      let b : drop s.size (bytes_of (z ++ p)) ≡ wire ++ piece =
      behind_more known limits z s.size old.head now piece s.head in
      let told : IsToldAs tells new.body.bytes (wire ++ piece) =
      told_trans new.body.bytes (old.body.bytes ++ piece) (wire ++ piece) body
      (told_behind old.body.bytes wire piece s.body) in
      let l : length new.body.bytes ≡ length old.body.bytes + length piece =
      body.size ∙ length-append old.body.bytes piece in
      let size : length new.body.bytes ≡ length (wire ++ piece) = told.size in
      let f : old.head.framing ≡ Fixed (length new.body.bytes + new.left) =
      s.framing ∙ ap Fixed (let e : length old.body.bytes + old.left
      ≡ length new.body.bytes + new.left = omega arith in e) in
      moves_waits known tells limits (Filling new) z p before before (welcome old.head) [] h refl
      (fixed_units tells limits old z h left s)
      (body_front limits (z ++ p) s.size old.head is ∙ (ap (front_by_body (z ++ p) s.size old.head)
      (ap (λ g. body_of limits g (drop s.size (bytes_of (z ++ p)))) f
      ∙ (ap (body_of limits (Fixed (length new.body.bytes + new.left))) b
      ∙ fixed_partial limits (length new.body.bytes + new.left) (wire ++ piece) (omega arith)))
      ∙ ap waits (sym (append-nil (welcome old.head)))))
      (asked_is before (before ++ []) (sym (append-nil before)))
      (record {
        size = s.size;
        head = subst (HeadIs limits (z ++ p) s.size) (sym head) is;
        framing =
            ap (λ g. g.framing) head ∙ f;
        body = subst (IsToldAs tells new.body.bytes) (sym b) told;
      })

  -- its last bytes
  pub fixed_done : {S : Type 0} (tells : Bool) (limits : Limits) (old : FixedPart S) (new : State S)
      (now : ℕ) (piece body : List ℕ) (before after : List Asked) (z : List (ℕ × ℕ)) →
      0 < limits.max_head → 0 < old.left →
      length piece ≡ old.left → IsToldAs tells body (old.body.bytes ++ piece) →
      Closes old.head body now new before after → StandsFor tells limits (Filling old) z →
      Moves tells limits false new z (stamped now piece) before after
  fixed_done tells limits old new now piece body before after z h left all e c s =
      let p : List (ℕ × ℕ) = stamped now piece in
      let wire : List ℕ = drop s.size (bytes_of z) in
      let k : ℕ = length old.body.bytes + old.left in
      let is : HeadIs limits (z ++ p) s.size old.head =
      head-still known limits z p s.size old.head s.head in
      let b : drop s.size (bytes_of (z ++ p)) ≡ wire ++ piece =
      behind_more known limits z s.size old.head now piece s.head in
      let told : IsToldAs tells body (wire ++ piece) =
      told_trans body (old.body.bytes ++ piece) (wire ++ piece) e
      (told_behind old.body.bytes wire piece s.body) in
      let size : length old.body.bytes ≡ length wire = s.body.size in
      let count = length-append wire piece in
      let lz : s.size + length wire ≡ length z = behind_length known limits z s.size old.head s.head
      in
      let lp = length-stamped now piece in
      let lzp = length-append z p in
      moves_closes known tells limits new z p before after
      (welcome old.head) [] s.size k old.head body (wire ++ piece) now h refl
      (fixed_units tells limits old z h left s)
      (sym (append-nil (welcome old.head)))
      (body_front limits (z ++ p) s.size old.head is ∙ ap (front_by_body (z ++ p) s.size old.head)
      (ap (λ g. body_of limits g (drop s.size (bytes_of (z ++ p)))) s.framing
      ∙ (ap (body_of limits (Fixed k)) b ∙ fixed_whole limits k (wire ++ piece) (omega arith))))
      (omega arith)
      (when-stamped z now piece (s.size + k - 1) (omega arith) (omega arith))
      told
      (subst (λ us. Closes old.head body now new us after) (sym (append-nil before)) c)

  -- a coded body

  coded_wrong : (limits : Limits) (xs : List ℕ) (place : ℕ) (refusal : Refusal) → coded_by limits xs
      ≡ wrong place refusal → place < length xs
  coded_wrong limits xs place refusal e = subst (IsWithin (length xs)) (coded_body limits xs
      ∙ e) (body-within known limits Chunked xs)

  coded_units : {S : Type 0} (tells : Bool) (limits : Limits) (old : CodedPart S)
      (z : List (ℕ × ℕ)) → 0 < limits.max_head → InCoded tells limits z old →
      units limits z ≡ welcome old.head
  coded_units tells limits old z h s =
      units-waits known limits z (welcome old.head) h
      (coded_front limits z s.size old.head (drop s.size (bytes_of z))
      (partial s.content) s.head s.framing refl s.taken.part)

  pub coded_on : {S : Type 0} (tells : Bool) (limits : Limits) (old new : CodedPart S) (now : ℕ)
      (piece got : List ℕ) (before : List Asked) (z : List (ℕ × ℕ)) → 0 < limits.max_head →
      new.head ≡ old.head →
      IsFed More piece got old.chunks new.chunks →
      IsToldAs tells new.body.bytes (old.body.bytes ++ got) →
      InCoded tells limits z old → Moves tells limits false (Decoding new) z
      (stamped now piece) before before
  coded_on tells limits old new now piece got before z h head fed body s =
      let p : List (ℕ × ℕ) = stamped now piece in
      let wire : List ℕ = drop s.size (bytes_of z) in
      let is : HeadIs limits (z ++ p) s.size old.head =
      head-still known limits z p s.size old.head s.head in
      let b : drop s.size (bytes_of (z ++ p)) ≡ wire ++ piece =
      behind_more known limits z s.size old.head now piece s.head in
      let part : coded_by limits (wire ++ piece) ≡ partial (s.content ++ got) =
      fed.decides limits.max_body limits.max_head wire s.content s.taken.reads s.taken.part in
      let taken : HasTaken limits new.chunks (wire ++ piece) (s.content ++ got) = record {
        reads = fed.goes_on limits.max_body limits.max_head wire s.content s.taken.reads;
        part = part;
      } in
      moves_waits known tells limits (Decoding new) z p before before (welcome old.head) [] h refl
      (coded_units tells limits old z h s)
      (coded_front limits (z ++ p) s.size old.head (wire ++ piece)
      (partial (s.content ++ got)) is s.framing b part
      ∙ ap waits (sym (append-nil (welcome old.head))))
      (asked_is before (before ++ []) (sym (append-nil before)))
      (record {
        size = s.size;
        head = subst (HeadIs limits (z ++ p) s.size) (sym head) is;
        framing = ap (λ g. g.framing) head ∙ s.framing;
        content = s.content ++ got;
        taken = subst (λ bs. HasTaken limits new.chunks bs (s.content ++ got)) (sym b) taken;
        body = told_trans new.body.bytes (old.body.bytes ++ got) (s.content ++ got) body
            (told_behind old.body.bytes s.content got s.body);
      })

  pub coded_done : {S : Type 0} (tells : Bool) (limits : Limits) (old : CodedPart S)
      (chunks : Reading) (new : State S) (now n : ℕ) (piece got body : List ℕ)
      (before after : List Asked) (z : List (ℕ × ℕ)) → 0 < limits.max_head → 0 < n →
      n ≤ length piece →
      IsFed (Done n) piece got old.chunks chunks → IsToldAs tells body (old.body.bytes ++ got) →
      Closes old.head body now new before after → InCoded tells limits z old →
      Moves tells limits false new z (stamped now (take n piece)) before after
  coded_done tells limits old chunks new now n piece got body before after z h some within fed e c s
      =
      let p : List (ℕ × ℕ) = stamped now (take n piece) in
      let wire : List ℕ = drop s.size (bytes_of z) in
      let k : ℕ = length wire + n in
      let is : HeadIs limits (z ++ p) s.size old.head =
      head-still known limits z p s.size old.head s.head in
      let b : drop s.size (bytes_of (z ++ p)) ≡ wire ++ take n piece =
      behind_more known limits z s.size old.head now (take n piece) s.head in
      let t = fed.decides limits.max_body limits.max_head wire s.content s.taken.reads s.taken.part
      in
      let lz : s.size + length wire ≡ length z = behind_length known limits z s.size old.head s.head
      in
      let lt = length-take n piece in
      let lp = length-stamped now (take n piece) in
      let lzp = length-append z p in
      moves_closes known tells limits new z p before after
      (welcome old.head) [] s.size k old.head body (s.content ++ got) now h refl
      (coded_units tells limits old z h s)
      (sym (append-nil (welcome old.head)))
      (coded_front limits (z ++ p) s.size old.head (wire ++ take n piece)
      (whole k (s.content ++ got)) is s.framing b t)
      (omega arith)
      (when-stamped z now (take n piece) (s.size + k - 1) (omega arith) (omega arith))
      (told_trans body (old.body.bytes ++ got) (s.content ++ got) e
      (told_behind old.body.bytes s.content got s.body))
      (subst (λ us. Closes old.head body now new us after) (sym (append-nil before)) c)

  pub coded_bad : {S : Type 0} (tells : Bool) (limits : Limits) (old : CodedPart S)
      (chunks : Reading) (now : ℕ) (piece got : List ℕ) (refusal : Refusal)
      (before after : List Asked) (z : List (ℕ × ℕ)) → 0 < limits.max_head →
      IsFed (Wrong refusal) piece got old.chunks chunks →
      after ≡ before ++ refused_body old.head refusal now ∷ [] → InCoded tells limits z old →
      Moves {S = S} tells limits false Over z (stamped now piece) before after
  coded_bad tells limits old chunks now piece got refusal before after z h fed a s =
      let p : List (ℕ × ℕ) = stamped now piece in
      let wire : List ℕ = drop s.size (bytes_of z) in
      let is : HeadIs limits (z ++ p) s.size old.head =
      head-still known limits z p s.size old.head s.head in
      let b : drop s.size (bytes_of (z ++ p)) ≡ wire ++ piece =
      behind_more known limits z s.size old.head now piece s.head in
      let t = fed.decides limits.max_body limits.max_head wire s.content s.taken.reads s.taken.part
      in
      let low : length wire ≤ t.0 = t.1 in
      let bad : coded_by limits (wire ++ piece) ≡ wrong t.0 refusal = t.2 in
      let lz : s.size + length wire ≡ length z = behind_length known limits z s.size old.head s.head
      in
      let high : t.0 < length (wire ++ piece) = coded_wrong limits
      (wire ++ piece) t.0 refusal bad in
      let count = length-append wire piece in
      moves_ends known tells limits z p before after (welcome old.head)
      (refused_body old.head refusal now ∷ []) h refl (coded_units tells limits old z h s)
      (coded_front limits (z ++ p) s.size old.head (wire ++ piece)
      (wrong t.0 refusal) is s.framing b bad
      ∙ ap (λ m. ends (welcome old.head ++ refused_body old.head refusal m ∷ []))
      (when-stamped z now piece (s.size + t.0) (omega arith) (omega arith)))
      (asked_is after (before ++ refused_body old.head refusal now ∷ []) a)

  pub over_later : (limits : Limits) (z p y : List (ℕ × ℕ)) → 0 < limits.max_head →
      ((w : List (ℕ × ℕ)) → later limits z w ≡ []) → later limits (z ++ p) y ≡ []
  over_later limits z p y h s = append_cancel_left (later limits z p) (later limits (z ++ p) y) []
      (sym (later-append known limits z p y h) ∙ (s (p ++ y)
      ∙ (sym (s p) ∙ sym (append-nil (later limits z p)))))

  -- bytes that go on being nothing
  pub over_on : {S : Type 0} (tells : Bool) (limits : Limits) (p : List (ℕ × ℕ))
      (before : List Asked) (z : List (ℕ × ℕ)) → 0 < limits.max_head →
      ((w : List (ℕ × ℕ)) → later limits z w ≡ []) →
      Moves {S = S} tells limits true Over z p before before
  over_on tells limits p before z h s = record {
    next = z;
    alike = record { alike = λ y. over_later limits z p y h s ∙ sym (s y) };
    stands = s;
    given = asked_is before (before ++ later limits z p) (sym (append-nil before)
        ∙ ap (λ us. before ++ us) (sym (s p)));
    closed = refl;
  }

-- steps of the whole

pub reads_over : {S : Type 0} (tells : Bool) (limits : Limits) (old : State S) (p : List (ℕ × ℕ))
    (us : List Asked) → 0 < limits.max_head → old ≡ Over → Reads tells limits old Over p us us
reads_over tells limits old p us h e =
    subst (λ s. Reads tells limits s Over p us us) (sym e)
    (reads tells limits Over Over p us us h (λ known z s. over_on known tells limits p us z h
    s))

pub reads_all : {S : Type 0} (tells : Bool) (limits : Limits) (old new : State S) (now : ℕ)
    (piece : List ℕ) (us vs : List Asked) → Reads tells limits old new (stamped now piece) us vs →
    Reads tells limits old new (stamped now (take (length piece) piece)) us vs
reads_all tells limits old new now piece us vs r =
    subst (λ p. Reads tells limits old new (stamped now p) us vs)
    (sym (take_all (length piece) piece (omega arith))) r

pub reads_fixed_on : {S : Type 0} (tells : Bool) (limits : Limits) (old new : FixedPart S) (now : ℕ)
    (piece : List ℕ) (us : List Asked) → 0 < limits.max_head → 0 < old.left → 0 < new.left →
    new.head ≡ old.head → IsToldAs tells new.body.bytes (old.body.bytes ++ piece) →
    new.left + length piece ≡ old.left → Reads tells limits (Filling old) (Filling new)
    (stamped now piece) us us
reads_fixed_on tells limits old new now piece us h left still head body less =
    reads tells limits (Filling old) (Filling new) (stamped now piece) us us h
    (λ known z s. fixed_on known tells limits old new now piece us z h left still head body less
    s)

pub reads_fixed_done : {S : Type 0} (tells : Bool) (limits : Limits) (old : FixedPart S)
    (new : State S) (body : List ℕ) (now : ℕ) (piece : List ℕ) (us vs : List Asked) →
    0 < limits.max_head → 0 < old.left →
    length piece ≡ old.left → IsToldAs tells body (old.body.bytes ++ piece) →
    Closes old.head body now new us vs → Reads tells limits (Filling old) new
    (stamped now piece) us vs
reads_fixed_done tells limits old new body now piece us vs h left all e c =
    reads tells limits (Filling old) new (stamped now piece) us vs h
    (λ known z s. fixed_done known tells limits old new now piece body us vs z h left all e c s)

pub reads_coded_on : {S : Type 0} (tells : Bool) (limits : Limits) (old new : CodedPart S) (now : ℕ)
    (piece got : List ℕ) (us : List Asked) → 0 < limits.max_head → new.head ≡ old.head →
    IsFed More piece got old.chunks new.chunks → IsToldAs tells new.body.bytes
    (old.body.bytes ++ got) →
    Reads tells limits (Decoding old) (Decoding new) (stamped now (take (length piece) piece)) us us
reads_coded_on tells limits old new now piece got us h head fed body =
    reads_all tells limits (Decoding old) (Decoding new) now piece us us
    (reads tells limits (Decoding old) (Decoding new) (stamped now piece) us us h
    (λ known z s. coded_on known tells limits old new now piece got us z h head fed body s))

pub reads_coded_done : {S : Type 0} (tells : Bool) (limits : Limits) (old : CodedPart S)
    (chunks : Reading) (new : State S) (now n : ℕ) (piece got body : List ℕ) (us vs : List Asked) →
    0 < limits.max_head → 0 < n → n ≤ length piece →
    IsFed (Done n) piece got old.chunks chunks → IsToldAs tells body (old.body.bytes ++ got) →
    Closes old.head body now new us vs → Reads tells limits (Decoding old) new
    (stamped now (take n piece)) us vs
reads_coded_done tells limits old chunks new now n piece got body us vs h some within fed e c =
    reads tells limits (Decoding old) new (stamped now (take n piece)) us vs h
    (λ known z s. coded_done known tells limits old chunks new now n piece got body us vs z h
    some within fed e c s)

pub reads_coded_bad : {S : Type 0} (tells : Bool) (limits : Limits) (old : CodedPart S)
    (chunks : Reading) (new : State S) (now : ℕ) (piece got : List ℕ) (refusal : Refusal)
    (us vs : List Asked) → 0 < limits.max_head → new ≡ Over →
    IsFed (Wrong refusal) piece got old.chunks chunks →
    vs ≡ us ++ refused_body old.head refusal now ∷ [] →
    Reads tells limits (Decoding old) new (stamped now (take (length piece) piece)) us vs
reads_coded_bad tells limits old chunks new now piece got refusal us vs h over fed a =
    subst (λ s. Reads tells limits (Decoding old) s (stamped now (take (length piece) piece)) us vs)
    (sym over)
    (reads_all tells limits (Decoding old) Over now piece us vs
    (reads tells limits (Decoding old) Over (stamped now piece) us vs h
    (λ known z s. coded_bad known tells limits old chunks now piece got refusal us vs z h fed a
    s)))
