-- The ways in which a stream goes on.
use Rattle.std.proofs.Common.{◌≡◌, ◌≤◌, ◌<◌, ◌+◌, ◌-◌, ℕ, zero, suc, Bool, true, false, List, []}
use Rattle.std.proofs.Common.{◌∷◌, ◌++◌, length, drop, refl, ap, sym, subst, ◌∙◌, cond, arith}
use Rattle.std.proofs.Common.{append_assoc}
use Rattle.std.proofs.lemmas.List.{append-nil, drop_all, length-map}
use Rattle.request_stream.specs.Grammar.{Grammar}
use Rattle.request_stream.specs.declared.types.Limits.{Limits}
use Rattle.head_grammar.specs.Heads.{Head}
use Rattle.request_stream.specs.declared.state.State.{State}
use Rattle.request_stream.specs.declared.state.State.TheVariants.{Seeking, Filling, Decoding, Over}
use Rattle.request_stream.specs.declared.state.State.TheVariants.{Failed}
use Rattle.chunk_body.specs.Bodies.{whole}
use Rattle.std.specs.List.{list_any}
use Rattle.std.specs.Prelude.{◌||◌}
use Rattle.std.proofs.lemmas.List.Folds.{list_any-append}
use Rattle.request_stream.specs.Units.{Asked, continued, request, closing, bytes_of, when, stamped}
use Rattle.request_stream.specs.Units.{waits, ends, goes, welcome, front_by_body, front, units}
use Rattle.request_stream.specs.Asks.{AreAskedAs}
use Rattle.request_stream.specs.Reading.{is_over, GoAlike, StandsFor, GoesOn, Closes}
use Rattle.spill_buffer.specs.Buffer.{IsToldAs}
use Rattle.request_stream.proofs.AskedLemmas.{asked_request}
use Rattle.request_stream.proofs.UnitLemmas.{bytes_of-append, units-nil}
use Rattle.request_stream.proofs.LaterLemmas.{later_of, alike-same, alike-goes, units-waits}
use Rattle.request_stream.proofs.LaterLemmas.{units-ends, units-goes, later-ends, Moves}

pub bytes_of-stamped : (now : ℕ) (piece : List ℕ) → bytes_of (stamped now piece) ≡ piece
bytes_of-stamped now [] = refl
bytes_of-stamped now (b ∷ piece) = ap (λ xs. b ∷ xs) (bytes_of-stamped now piece)

pub length-stamped : (now : ℕ) (piece : List ℕ) → length (stamped now piece) ≡ length piece
length-stamped now piece = length-map {B = ℕ × ℕ} piece (λ (b : ℕ). (now, b))

-- the moments of bytes that came later
pub when-stamped : (x : List (ℕ × ℕ)) (now : ℕ) (piece : List ℕ) (i : ℕ) → length x ≤ i →
    i < length x + length piece → when (x ++ stamped now piece) i ≡ now
when-stamped [] now [] i low high = absurd (omega arith)
when-stamped [] now (b ∷ piece) zero low high = refl
when-stamped [] now (b ∷ piece) (suc i) low high =
    when-stamped [] now piece i (omega arith) (omega arith)
when-stamped (a ∷ x) now piece zero low high = absurd (omega arith)
when-stamped (a ∷ x) now piece (suc i) low high = when-stamped x now piece i (omega arith)
    (omega arith)

-- the bytes of what came, and of one more piece
pub bytes_of-more : (x : List (ℕ × ℕ)) (now : ℕ) (piece : List ℕ) →
    bytes_of (x ++ stamped now piece) ≡ bytes_of x ++ piece
bytes_of-more x now piece = bytes_of-append x (stamped now piece)
    ∙ ap (λ ys. bytes_of x ++ ys) (bytes_of-stamped now piece)

pub goes_on : {S : Type 0} (s : State S) → GoesOn false s → is_over s ≡ false
goes_on (Seeking part) g = refl
goes_on (Filling part) g = refl
goes_on (Decoding part) g = refl
goes_on Over g = absurd g
goes_on Failed g = refl

pub greets : (t : Bool) → list_any closing (cond t (continued ∷ []) []) ≡ false
greets true = refl
greets false = refl

pub none_closes : (head : Head) → list_any closing (welcome head) ≡ false
none_closes head = greets head.expects

pub or_false : (b : Bool) → (b || false) ≡ b
or_false true = refl
or_false false = refl

pub any_push : (f : Asked → Bool) (us : List Asked) (u : Asked) → list_any f us ≡ false →
    list_any f (us ++ u ∷ []) ≡ f u
any_push f us u e = list_any-append f us (u ∷ []) ∙ (ap (λ b. b || (f u || false)) e
    ∙ or_false (f u))

-- the three ways to go on

pub starts : {S : Type 0} (tells : Bool) (limits : Limits) (new : State S) → GoesOn false new →
    StandsFor tells limits new []
starts tells limits (Seeking part) g = sym g
starts tells limits (Filling part) g = absurd g
starts tells limits (Decoding part) g = absurd g
starts tells limits Over g = absurd g
starts tells limits Failed g = absurd g

pub stops : {S : Type 0} (new : State S) → GoesOn true new → new ≡ Over
stops (Seeking part) g = absurd g
stops (Filling part) g = absurd g
stops (Decoding part) g = absurd g
stops Over g = refl
stops Failed g = absurd g

module _ (known : Grammar) where
  pub moves_waits : {S : Type 0} (tells : Bool) (limits : Limits) (new : State S)
      (z p : List (ℕ × ℕ)) (before after us vs : List Asked) → 0 < limits.max_head →
      list_any closing vs ≡ is_over new →
      units limits z ≡ us → front limits (z ++ p) ≡ waits (us ++ vs) →
      AreAskedAs tells after (before ++ vs) → StandsFor tells limits new (z ++ p) →
      Moves tells limits false new z p before after
  moves_waits tells limits new z p before after us vs h q u e a s = record {
    next = z ++ p;
    alike = alike-same limits (z ++ p);
    stands = s;
    given = subst (λ ws. AreAskedAs tells after (before ++ ws))
        (sym (later_of limits z p us vs u (units-waits known limits (z ++ p) (us ++ vs) h e))) a;
    closed = ap (list_any closing) (later_of limits z p us vs u
        (units-waits known limits (z ++ p) (us ++ vs) h e)) ∙ q;
  }

  pub moves_ends : {S : Type 0} (tells : Bool) (limits : Limits) (z p : List (ℕ × ℕ))
      (before after us vs : List Asked) → 0 < limits.max_head → list_any closing vs ≡ true →
      units limits z ≡ us → front limits (z ++ p) ≡ ends (us ++ vs) →
      AreAskedAs tells after (before ++ vs) → Moves {S =
      S} tells limits false Over z p before after
  moves_ends tells limits z p before after us vs h q u e a = record {
    next = z ++ p;
    alike = alike-same limits (z ++ p);
    stands = λ y. later-ends known limits (z ++ p) y (us ++ vs) h e;
    given = subst (λ ws. AreAskedAs tells after (before ++ ws))
        (sym (later_of limits z p us vs u (units-ends known limits (z ++ p) (us ++ vs) h e))) a;
    closed = ap (list_any closing) (later_of limits z p us vs u
        (units-ends known limits (z ++ p) (us ++ vs) h e)) ∙ q;
  }

  pub moves_goes : {S : Type 0} (tells : Bool) (limits : Limits) (new : State S)
      (z p : List (ℕ × ℕ)) (before after us vs : List Asked) (n : ℕ) → 0 < limits.max_head →
      list_any closing vs ≡ false →
      units limits z ≡ us → front limits (z ++ p) ≡ goes (us ++ vs) n → n ≡ length (z ++ p) →
      AreAskedAs tells after (before ++ vs) → GoesOn false new →
      Moves tells limits false new z p before after
  moves_goes tells limits new z p before after us vs n h q u e len a g =
      let none : drop n (z ++ p) ≡ [] = drop_all n (z ++ p) (omega arith) in
      let all : units limits (z ++ p) ≡ us ++ vs = units-goes known limits (z ++ p) (us ++ vs) n h e
      ∙ (ap (λ w. (us ++ vs) ++ w) (ap (units limits) none ∙ units-nil known limits h)
      ∙ append-nil (us ++ vs)) in
      record {
        next = [];
        alike = subst (GoAlike limits (z ++ p)) none
            (alike-goes known limits (z ++ p) (us ++ vs) n h e);
        stands = starts tells limits new g;
        given = subst (λ ws. AreAskedAs tells after (before ++ ws))
            (sym (later_of limits z p us vs u all)) a;
        closed = ap (list_any closing) (later_of limits z p us vs u all)
            ∙ (q ∙ sym (goes_on new g));
      }

  -- a request is whole, and closes or not
  pub closes_by : {S : Type 0} (t : Bool) (tells : Bool) (limits : Limits) (new : State S)
      (z p : List (ℕ × ℕ)) (before after us vs ws : List Asked) (n : ℕ) → 0 < limits.max_head →
      list_any closing vs ≡ t →
      units limits z ≡ us → front limits (z ++ p) ≡ cond t (ends ws) (goes ws n) → ws ≡ us ++ vs →
      n ≡ length (z ++ p) → AreAskedAs tells after (before ++ vs) → GoesOn t new →
      Moves tells limits false new z p before after
  closes_by true tells limits new z p before after us vs ws n h q u e w len a g =
      subst (λ s. Moves tells limits false s z p before after) (sym (stops new g))
      (moves_ends tells limits z p before after us vs h q u (e ∙ ap ends w) a)
  closes_by false tells limits new z p before after us vs ws n h q u e w len a g =
      moves_goes tells limits new z p before after us vs n h q u (e
      ∙ ap (λ ys. goes ys n) w) len a g

  -- us were given before, and welcome head is us followed by vs
  pub moves_closes : {S : Type 0} (tells : Bool) (limits : Limits) (new : State S)
      (z p : List (ℕ × ℕ)) (before after us vs : List Asked) (n k : ℕ) (head : Head)
      (body content : List ℕ) (now : ℕ) → 0 < limits.max_head → list_any closing vs ≡ false →
      units limits z ≡ us → welcome head ≡ us ++ vs → front limits (z ++ p)
      ≡ front_by_body (z ++ p) n head (whole k content) → n + k ≡ length (z ++ p) →
      when (z ++ p) (n + k - 1) ≡ now →
      IsToldAs tells body content → Closes head body now new (before ++ vs) after →
      Moves tells limits false new z p before after
  moves_closes tells limits new z p before after us vs n k head body content now h q u w e len
      moment told c =
      let asked : AreAskedAs tells after ((before ++ vs) ++ request head content now ∷ []) =
      subst (λ ws. AreAskedAs tells ws ((before ++ vs) ++ request head content now ∷ []))
      (sym c.given) (asked_request (before ++ vs) head body content now told) in
      closes_by head.closes tells limits new z p before after us (vs ++ request head content now
      ∷ []) (welcome head ++ request head content (when (z ++ p) (n + k - 1)) ∷ []) (n + k) h
      (any_push closing vs (request head content now) q) u e
      (ap (λ m. welcome head ++ request head content m ∷ []) moment
      ∙ (ap (λ ys. ys ++ request head content now ∷ []) w
      ∙ append_assoc us vs (request head content now ∷ [])))
      len (subst (AreAskedAs tells after) (append_assoc before vs (request head content now ∷ []))
      asked) c.goes
