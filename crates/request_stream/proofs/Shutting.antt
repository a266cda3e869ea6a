-- Behind which units nothing more is given.
use Rattle.std.proofs.Common.{◌≡◌, ℕ, zero, suc, Bool, true, false, List, [], ◌∷◌, ◌++◌, refl, ap}
use Rattle.std.proofs.Common.{sym, ◌∙◌, cond, inl, inr, take, Ok, Err}
use Rattle.std.specs.Prelude.{◌||◌, Result, IfOk}
use Rattle.std.specs.List.{list_any}
use Rattle.std.proofs.lemmas.List.Folds.{list_any-append}
use Rattle.head_grammar.specs.declared.types.Framing.{Framing}
use Rattle.head_grammar.specs.declared.types.Framing.TheVariants.{Empty, Fixed, Chunked}
use Rattle.head_grammar.specs.Heads.{Head}
use Rattle.head_grammar.specs.declared.types.Parsed.{Parsed}
use Rattle.head_grammar.specs.declared.types.Parsed.TheVariants.{Blank, Good, Bad}
use Rattle.request_stream.specs.Reading.{Closes, GoesOn, IsFilling, IsDecoding, KeepsHead, LeadsBy}
use Rattle.request_stream.specs.Reading.{OpensBy, SeeksOn, Shuts, is_over}
use Rattle.request_stream.specs.Units.{Asked, closing, continued, welcome}
use Rattle.request_stream.specs.declared.state.State.{State}
use Rattle.request_stream.specs.declared.state.Step.{Step}
use Rattle.request_stream.specs.declared.state.State.TheVariants.{Seeking, Filling, Decoding, Over}
use Rattle.request_stream.specs.declared.state.State.TheVariants.{Failed}
use Rattle.request_stream.specs.declared.types.Limits.{Limits}

or_false : (a : Bool) → (a || false) ≡ a
or_false true = refl
or_false false = refl

or_true : (a : Bool) → (a || true) ≡ true
or_true true = refl
or_true false = refl

welcome_by : (b : Bool) → list_any closing (cond b (continued ∷ []) []) ≡ false
welcome_by true = refl
welcome_by false = refl

-- a request closes where its head does, and 100 Continue never
welcomed : (head : Head) (before : List Asked) → list_any closing (before ++ welcome head)
    ≡ list_any closing before
welcomed head before = list_any-append closing before (welcome head)
    ∙ (ap (λ b. list_any closing before || b) (welcome_by head.expects)
    ∙ or_false (list_any closing before))

module _ {S : Type 0} where
  abbrev IsShut : State S → List Asked → List Asked → Type 0
  IsShut state before after = list_any closing after ≡ (list_any closing before || is_over state)

  goes_over : (b : Bool) (state : State S) → GoesOn b state → is_over state ≡ b
  goes_over true Over h = refl
  goes_over true (Seeking bytes) h = absurd h
  goes_over true (Filling part) h = absurd h
  goes_over true (Decoding part) h = absurd h
  goes_over true Failed h = absurd h
  goes_over false Over h = absurd h
  goes_over false (Seeking bytes) h = refl
  goes_over false (Filling part) h = absurd h
  goes_over false (Decoding part) h = absurd h
  goes_over false Failed h = absurd h

  -- nothing that closes was given, and the state goes on
  still : (state : State S) (before after : List Asked) → list_any closing after
      ≡ list_any closing before → is_over state ≡ false → IsShut state before after
  still state before after same open' = same ∙ (sym (or_false (list_any closing before))
      ∙ ap (λ b. list_any closing before || b) (sym open'))

  closes_shut : (head : Head) (body : List ℕ) (now : ℕ) (state : State S)
      (before mid after : List Asked) → list_any closing mid ≡ list_any closing before →
      Closes head body now state mid after → IsShut state before after
  closes_shut head body now state before mid after same h =
      ap (list_any closing) h.given ∙ (list_any-append closing mid _
      ∙ (ap (λ b. b || (head.closes || false)) same
      ∙ ap (λ b. list_any closing before || b) (or_false head.closes
      ∙ sym (goes_over head.closes state h.goes))))

  filling_open : (head : Head) (n : ℕ) (state : State S) → IsFilling head n state →
      is_over state ≡ false
  filling_open head n (Filling part) h = refl
  filling_open head n (Seeking bytes) h = absurd h
  filling_open head n (Decoding part) h = absurd h
  filling_open head n Over h = absurd h
  filling_open head n Failed h = absurd h

  decoding_open : (limits : Limits) (head : Head) (state : State S) → IsDecoding limits head state →
      is_over state ≡ false
  decoding_open limits head (Decoding part) h = refl
  decoding_open limits head (Seeking bytes) h = absurd h
  decoding_open limits head (Filling part) h = absurd h
  decoding_open limits head Over h = absurd h
  decoding_open limits head Failed h = absurd h

  opens_shut : (framing : Framing) (limits : Limits) (head : Head) (now : ℕ) (state : State S)
      (before after : List Asked) → OpensBy framing limits head now state before after →
      IsShut state before after
  opens_shut Empty limits head now state before after h =
      closes_shut head [] now state before (before ++ welcome head) after (welcomed head before) h
  opens_shut (Fixed zero) limits head now state before after h =
      closes_shut head [] now state before (before ++ welcome head) after (welcomed head before) h
  opens_shut (Fixed (suc n)) limits head now state before after h =
      still state before after (ap (list_any closing) h.1 ∙ welcomed head before)
      (filling_open head (suc n) state h.0)
  opens_shut Chunked limits head now state before after h =
      still state before after (ap (list_any closing) h.1 ∙ welcomed head before)
      (decoding_open limits head state h.0)

  -- a refusal closes
  pub refused_shut : (unit : Asked) (state : State S) (before after : List Asked) →
      closing unit ≡ true → is_over state ≡ true → after ≡ before ++ unit ∷ [] →
      IsShut state before after
  refused_shut unit state before after closes over e =
      ap (list_any closing) e ∙ (list_any-append closing before (unit ∷ [])
      ∙ ap (λ b. list_any closing before || b) (ap (λ b. b || false) closes ∙ sym over))

  leads_shut : (parsed : Parsed) (limits : Limits) (now : ℕ) (state : State S)
      (before after : List Asked) → LeadsBy parsed limits now state before after →
      IsShut state before after
  leads_shut Blank limits now state before after h =
      still state before after (ap (list_any closing) h.1) (goes_over false state h.0)
  leads_shut (Bad refusal version bodyless) limits now state before after h =
      refused_shut _ state before after refl (ap is_over h.0) h.1
  leads_shut (Good head) limits now state before after h =
      opens_shut head.framing limits head now state before after h

  keeps_shut : (limits : Limits) (bytes : List ℕ) (now : ℕ) (state : State S)
      (before after : List Asked) → KeepsHead limits bytes now state before after →
      IsShut state before after
  keeps_shut limits bytes now (Seeking kept) before after h =
      still (Seeking kept) before after (ap (list_any closing) h.2) refl
  keeps_shut limits bytes now (Filling part) before after h = absurd h
  keeps_shut limits bytes now (Decoding part) before after h = absurd h
  keeps_shut limits bytes now Over before after h = refused_shut _ Over before after refl refl h.1
  keeps_shut limits bytes now Failed before after h = absurd h

  pub shuts_from : (old new : State S) (before after : List Asked) → is_over old ≡ false →
      IsShut new before after → Shuts old new before after
  shuts_from old new before after open' h = record {
    over = λ e. let no : false ≡ true =
        sym open' ∙ e in cc;
    going = λ _. h;
  }

  pub shuts_seek : (limits : Limits) (held more : List ℕ) (now : ℕ) (old state : State S)
      (before after : List Asked) → is_over old ≡ false →
      SeeksOn limits held more now state before after → Shuts old state before after
  shuts_seek limits held more now old state before after open' h =
      shuts_from old state before after open' (elim h [
        | inl e ↦ leads_shut _ limits now state before after e.leads
        | inr e ↦ keeps_shut limits _ now state before after e.keeps
      ])

  pub shuts_closes : (head : Head) (body : List ℕ) (now : ℕ) (old state : State S)
      (before after : List Asked) → is_over old ≡ false → Closes head body now state before after →
      Shuts old state before after
  shuts_closes head body now old state before after open' h =
      shuts_from old state before after open' (closes_shut head body now state before before after
      refl h)

  pub shuts_none : (old state : State S) (before : List Asked) → is_over old ≡ false →
      is_over state ≡ false → Shuts old state before before
  shuts_none old state before open' goes = shuts_from old state before before open'
      (still state before before refl goes)

  pub shuts_refl : (state : State S) (before : List Asked) → Shuts state state before before
  shuts_refl state before = record {
    over = λ e. (e, refl);
    going =
        λ open'. still state before before refl open';
  }

  going_by : (b : Bool) (old mid new : State S) (x y z : List Asked) → is_over mid ≡ b →
      Shuts old mid x y → Shuts mid new y z → is_over old ≡ false → IsShut new x z
  going_by true old mid new x y z e h k open' =
      let behind = k.over e in
      ap (list_any closing) behind.1 ∙ (h.going open'
      ∙ ap (λ b. list_any closing x || b) (e ∙ sym behind.0))
  going_by false old mid new x y z e h k open' =
      k.going e ∙ ap (λ b. b || is_over new) (h.going open'
      ∙ (ap (λ b. list_any closing x || b) e ∙ or_false (list_any closing x)))

  pub shuts_trans : (old mid new : State S) (x y z : List Asked) → Shuts old mid x y →
      Shuts mid new y z → Shuts old new x z
  shuts_trans old mid new x y z h k = record {
    over = λ e. let first = h.over e in let next = k.over first.0 in (next.0, next.1 ∙ first.1);
    going = going_by (is_over mid) old mid new x y z refl h k;
  }

  pub shuts_seeks : {E : Type 0} (r : Result (Step S) E) (limits : Limits) (held piece : List ℕ)
      (now : ℕ) (old : State S) (before after : List Asked) → is_over old ≡ false →
      IfOk r (λ s. SeeksOn limits held (take s.taken piece) now s.state before after) →
      IfOk r (λ s. Shuts old s.state before after)
  shuts_seeks (Ok s) limits held piece now old before after open' h =
      shuts_seek limits held (take s.taken piece) now old s.state before after open' h
  shuts_seeks (Err e) limits held piece now old before after open' h = tt

  -- a refusal of a body
  pub shuts_refused : (unit : Asked) (old state : State S) (before after : List Asked) →
      is_over old ≡ false → closing unit ≡ true → is_over state ≡ true →
      after ≡ before ++ unit ∷ [] → Shuts old state before after
  shuts_refused unit old state before after open' closes over e =
      shuts_from old state before after open' (refused_shut unit state before after closes over e)
