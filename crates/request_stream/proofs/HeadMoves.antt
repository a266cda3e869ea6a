-- A step of a head.
use Rattle.std.proofs.Common.{◌≡◌, ◌<◌, ◌+◌, ◌-◌, ℕ, zero, suc, Bool, false, List, [], ◌∷◌, ◌++◌}
use Rattle.std.proofs.Common.{length, take, drop, None, Some, refl, ap, sym, subst, ◌∙◌, arith}
use Rattle.std.proofs.Common.{length-append, inl, inr}
use Rattle.std.proofs.lemmas.List.{append-nil, drop_all, take_all}
use Rattle.request_stream.specs.Grammar.{Grammar}
use Rattle.request_stream.specs.declared.types.Limits.{Limits}
use Rattle.head_grammar.specs.Heads.{Head}
use Rattle.head_grammar.specs.declared.types.Framing.{Framing}
use Rattle.head_grammar.specs.declared.types.Framing.TheVariants.{Empty, Fixed, Chunked}
use Rattle.head_grammar.specs.declared.types.Parsed.{Parsed}
use Rattle.head_grammar.specs.declared.types.Parsed.TheVariants.{Blank, Good, Bad}
use Rattle.request_stream.specs.declared.state.State.{State}
use Rattle.request_stream.specs.declared.state.State.TheVariants.{Seeking, Filling, Decoding, Over}
use Rattle.request_stream.specs.declared.state.State.TheVariants.{Failed}
use Rattle.head_grammar.specs.Ends.{head_end}
use Rattle.request_stream.specs.Units.{coded_by, verdict_by, Asked, bytes_of, when, stamped}
use Rattle.request_stream.specs.Units.{body_of, ends, refusing, too_large, welcome, front_by_body}
use Rattle.request_stream.specs.Units.{front_by_head, units}
use Rattle.spill_buffer.specs.Buffer.{IsToldAs}
use Rattle.request_stream.specs.Reading.{is_over, Reads, StandsFor, HasTaken, HeadIs, IsSoundHead}
use Rattle.request_stream.specs.Reading.{OpensBy, LeadsBy, KeepsHead, EndsHead, SeeksOn}
use Rattle.request_stream.proofs.AskedLemmas.{asked_is, told_same}
use Rattle.request_stream.proofs.UnitLemmas.{length-bytes_of, window}
use Rattle.request_stream.proofs.LaterLemmas.{reads, units-waits, Moves}
use Rattle.request_stream.proofs.Ways.{when-stamped, bytes_of-more, none_closes, moves_waits}
use Rattle.request_stream.proofs.Ways.{moves_ends, moves_goes, moves_closes}
use Rattle.request_stream.proofs.Fronts.{head_of, body_front, front-none, front-large, empty_body}
use Rattle.request_stream.proofs.Fronts.{fixed_partial, fixed_whole, coded_body}

-- a head has just been read

-- steps of the whole

module _ (known : Grammar) where
  -- no head ends in what is there
  pub sought : {S : Type 0} (tells : Bool) (limits : Limits) (held more : List ℕ) (new : State S)
      (now : ℕ) (before after : List Asked) (z : List (ℕ × ℕ)) → 0 < limits.max_head →
      IsSoundHead limits held →
      head_end (take (limits.max_head - 1) (held ++ more)) ≡ None →
      KeepsHead limits (held ++ more) now new before after → bytes_of z ≡ held →
      Moves tells limits false new z (stamped now more) before after
  sought tells limits held more (Seeking kept) now before after z h o e k s =
      let b : bytes_of (z ++ stamped now more) ≡ held ++ more = bytes_of-more z now more
      ∙ ap (λ bs. bs ++ more) s in
      let short = k.1 in
      let none : head_end (held ++ more) ≡ None = ap head_end
      (sym (take_all (limits.max_head - 1) (held ++ more) (omega arith))) ∙ e in
      moves_waits known tells limits (Seeking kept) z (stamped now more) before after [] [] h refl
      (units-waits known limits z [] h (front-none limits z held s o.none o.short))
      (front-none limits (z ++ stamped now more) (held ++ more) b none short)
      (asked_is after (before ++ []) (k.2 ∙ sym (append-nil before))) (b ∙ sym k.0)
  sought tells limits held more (Filling part) now before after z h o e k s = absurd k
  sought tells limits held more (Decoding part) now before after z h o e k s = absurd k
  sought tells limits held more Failed now before after z h o e k s = absurd k
  sought tells limits held more Over now before after z h o e k s =
      let b : bytes_of (z ++ stamped now more) ≡ held ++ more = bytes_of-more z now more
      ∙ ap (λ bs. bs ++ more) s in
      let l : length z ≡ length held = sym (length-bytes_of z) ∙ ap length s in
      let short = o.short in
      let full : length (held ++ more) ≡ limits.max_head = k.0 in
      let count = length-append held more in
      let moment : when (z ++ stamped now more) (limits.max_head - 1) ≡ now =
      when-stamped z now more (limits.max_head - 1) (omega arith) (omega arith) in
      moves_ends known tells limits z (stamped now more) before after []
      (too_large limits now ∷ []) h refl
      (units-waits known limits z [] h (front-none limits z held s o.none o.short))
      (front-large limits (z ++ stamped now more) (held ++ more) b e (omega arith)
      ∙ ap (λ m. ends (too_large limits m ∷ [])) moment)
      (asked_is after (before ++ too_large limits now ∷ []) k.1)

  pub by_framing : {S : Type 0} (f : Framing) (tells : Bool) (limits : Limits) (new : State S)
      (z p : List (ℕ × ℕ)) (now : ℕ) (before after : List Asked) (head : Head) (n : ℕ) →
      0 < limits.max_head → units limits z ≡ [] → HeadIs limits (z ++ p) n head →
      n ≡ length (z ++ p) → drop n (bytes_of (z ++ p)) ≡ [] → when (z ++ p) (n - 1) ≡ now →
      head.framing ≡ f → OpensBy f limits head now new before after →
      Moves tells limits false new z p before after
  by_framing Empty tells limits new z p now before after head n h u is len none moment f o =
      moves_closes known tells limits new z p before after [] (welcome head) n 0 head [] [] now h
      (none_closes head) u refl
      (body_front limits (z ++ p) n head is ∙ ap (front_by_body (z ++ p) n head)
      (ap (λ g. body_of limits g (drop n (bytes_of (z ++ p)))) f
      ∙ empty_body limits (drop n (bytes_of (z ++ p)))))
      (omega arith) (ap (when (z ++ p)) (let e : n + 0 - 1 ≡ n - 1 = omega arith in e) ∙ moment)
      (told_same []) o
  by_framing (Fixed zero) tells limits new z p now before after head n h u is len none moment f o =
      moves_closes known tells limits new z p before after [] (welcome head) n 0 head [] [] now h
      (none_closes head) u refl
      (body_front limits (z ++ p) n head is ∙ ap (front_by_body (z ++ p) n head)
      (ap (λ g. body_of limits g (drop n (bytes_of (z ++ p)))) f
      ∙ (ap (body_of limits (Fixed 0)) none ∙ fixed_whole limits 0 [] refl)))
      (omega arith) (ap (when (z ++ p)) (let e : n + 0 - 1 ≡ n - 1 = omega arith in e) ∙ moment)
      (told_same []) o
  by_framing (Fixed (suc m)) tells limits (Filling part) z p now before after head n h u is len none
      moment f o =
      let same = o.0.0 in let nothing = o.0.1 in let left = o.0.2 in
      let there : length part.body.bytes ≡ 0 = ap length nothing in
      let sum : suc m ≡ length part.body.bytes + part.left = omega arith in
      moves_waits known tells limits (Filling part) z p before after [] (welcome head) h
      (none_closes head) u
      (body_front limits (z ++ p) n head is ∙ ap (front_by_body (z ++ p) n head)
      (ap (λ g. body_of limits g (drop n (bytes_of (z ++ p)))) f
      ∙ (ap (body_of limits (Fixed (suc m))) none
      ∙ fixed_partial limits (suc m) [] (omega arith))))
      (asked_is after (before ++ welcome head) o.1)
      (record {
        size = n;
        head = subst (HeadIs limits (z ++ p) n) (sym same) is;
        framing =
            ap (λ g. g.framing) same ∙ (f ∙ ap Fixed sum);
        body =
            subst (IsToldAs tells part.body.bytes) (nothing ∙ sym none) (told_same part.body.bytes);
      })
  by_framing (Fixed (suc m)) tells limits (Seeking part) z p now before after head n h u is len none
      moment f o = absurd o.0
  by_framing (Fixed (suc m)) tells limits (Decoding part) z p now before after head n h u is len
      none moment f o = absurd o.0
  by_framing (Fixed (suc m)) tells limits Over z p now before after head n h u is len none moment f
      o = absurd o.0
  by_framing (Fixed (suc m)) tells limits Failed z p now before after head n h u is len none moment
      f o = absurd o.0
  by_framing Chunked tells limits (Decoding part) z p now before after head n h u is len none moment
      f o =
      let same = o.0.0 in let nothing = o.0.1 in let taken = o.0.2 in
      moves_waits known tells limits (Decoding part) z p before after [] (welcome head) h
      (none_closes head) u
      (body_front limits (z ++ p) n head is ∙ ap (front_by_body (z ++ p) n head)
      (ap (λ g. body_of limits g (drop n (bytes_of (z ++ p)))) f
      ∙ (coded_body limits (drop n (bytes_of (z ++ p)))
      ∙ (ap (coded_by limits) none ∙ known.no_body limits))))
      (asked_is after (before ++ welcome head) o.1)
      (record {
        size = n;
        head = subst (HeadIs limits (z ++ p) n) (sym same) is;
        framing = ap (λ g. g.framing) same ∙ f;
        content = [];
        taken = subst (λ bs. HasTaken limits part.chunks bs []) (sym none) (record {
          reads = taken;
          part = known.no_body limits;
        });
        body = subst (IsToldAs tells part.body.bytes) nothing (told_same part.body.bytes);
      })
  by_framing Chunked tells limits (Seeking part) z p now before after head n h u is len none moment
      f o = absurd o.0
  by_framing Chunked tells limits (Filling part) z p now before after head n h u is len none moment
      f o = absurd o.0
  by_framing Chunked tells limits Over z p now before after head n h u is len none moment f o =
      absurd o.0
  by_framing Chunked tells limits Failed z p now before after head n h u is len none moment f o =
      absurd o.0

  pub by_verdict : {S : Type 0} (v : Parsed) (tells : Bool) (limits : Limits) (new : State S)
      (z p : List (ℕ × ℕ)) (now : ℕ) (before after : List Asked) (n : ℕ) → 0 < limits.max_head →
      units limits z ≡ [] → head_end (window limits (z ++ p)) ≡ Some n →
      n ≡ length (z ++ p) → drop n (bytes_of (z ++ p)) ≡ [] → when (z ++ p) (n - 1) ≡ now →
      verdict_by limits (take n (bytes_of (z ++ p))) ≡ v →
      LeadsBy v limits now new before after → Moves tells limits false new z p before after
  by_verdict Blank tells limits new z p now before after n h u e len none moment v l =
      moves_goes known tells limits new z p before after [] [] n h refl u
      (head_of limits (z ++ p) n e ∙ ap (front_by_head limits (z ++ p) n) v) len
      (asked_is after (before ++ []) (l.1 ∙ sym (append-nil before))) l.0
  by_verdict (Bad r w b) tells limits new z p now before after n h u e len none moment v l =
      subst (λ s. Moves tells limits false s z p before after) (sym l.0)
      (moves_ends known tells limits z p before after [] (refusing r w b now ∷ []) h refl u
      (head_of limits (z ++ p) n e ∙ (ap (front_by_head limits (z ++ p) n) v
      ∙ ap (λ m. ends (refusing r w b m ∷ [])) moment))
      (asked_is after (before ++ refusing r w b now ∷ []) l.1))
  by_verdict (Good head) tells limits new z p now before after n h u e len none moment v l =
      by_framing head.framing tells limits new z p now before after head n h u
      (record { end = e; says = v }) len none moment refl l

  -- the piece ends the head that is sought
  pub head_whole : {S : Type 0} (tells : Bool) (limits : Limits) (held more : List ℕ)
      (new : State S) (now : ℕ) (before after : List Asked) (z : List (ℕ × ℕ)) →
      0 < limits.max_head → IsSoundHead limits held → 0 < length more →
      EndsHead limits held more now new before after → bytes_of z ≡ held →
      Moves tells limits false new z (stamped now more) before after
  head_whole tells limits held more new now before after z h o some l s =
      let n : ℕ = length (held ++ more) in
      let b : bytes_of (z ++ stamped now more) ≡ held ++ more = bytes_of-more z now more
      ∙ ap (λ bs. bs ++ more) s in
      let count : length (held ++ more) ≡ length held + length more = length-append held more in
      let short = l.short in
      let lz : length z ≡ length held = sym (length-bytes_of z) ∙ ap length s in
      let len : n ≡ length (z ++ stamped now more) = sym (ap length b)
      ∙ length-bytes_of (z ++ stamped now more) in
      let w : window limits (z ++ stamped now more) ≡ held ++ more =
      ap (take (limits.max_head - 1)) b ∙ take_all (limits.max_head - 1) (held ++ more)
      (omega arith) in
      let whole_head : take n (bytes_of (z ++ stamped now more)) ≡ held ++ more =
      ap (take n) b ∙ take_all n (held ++ more) (omega arith) in
      by_verdict (verdict_by limits (held ++ more)) tells limits new z
      (stamped now more) now before after n h
      (units-waits known limits z [] h (front-none limits z held s o.none o.short))
      (ap head_end w ∙ l.end) len (ap (drop n) b ∙ drop_all n (held ++ more) (omega arith))
      (when-stamped z now more (n - 1) (omega arith) (omega arith))
      (ap (verdict_by limits) whole_head) l.leads

pub reads_seek : {S : Type 0} (tells : Bool) (limits : Limits) (old new : State S)
    (held more : List ℕ) (now : ℕ) (before after : List Asked) → 0 < limits.max_head →
    is_over old ≡ false →
    ((z : List (ℕ × ℕ)) → StandsFor tells limits old z → bytes_of z ≡ held) →
    IsSoundHead limits held → 0 < length more → SeeksOn limits held more now new before after →
    Reads tells limits old new (stamped now more) before after
reads_seek tells limits old new held more now before after h over is o some k =
    reads tells limits old new (stamped now more) before after h
    (λ known z s. subst (λ b. Moves tells limits b new z (stamped now more) before after) (sym over)
    (elim k [
      | inl e ↦ head_whole known tells limits held more new now before after z h o some e (is z s)
      | inr e ↦ sought known tells limits held more new now before after z h o e.none e.keeps
          (is z s)
    ]))
