-- What more bytes add.
use Rattle.std.proofs.Common.{Bool, ◌≡◌, ◌≤◌, ◌<◌, ℕ, List, [], ◌++◌, length, drop, refl, ap, sym}
use Rattle.std.proofs.Common.{subst, ◌∙◌, append_assoc}
use Rattle.std.proofs.lemmas.List.{append-nil, append_cancel_left, drop_at, drop-append-le}
use Rattle.request_stream.specs.Grammar.{Grammar}
use Rattle.request_stream.specs.declared.types.Limits.{Limits}
use Rattle.request_stream.specs.declared.state.State.{State}
use Rattle.std.specs.List.{list_any}
use Rattle.std.specs.Prelude.{◌||◌}
use Rattle.std.proofs.lemmas.List.Folds.{list_any-append}
use Rattle.request_stream.specs.Units.{Asked, closing, waits, ends, goes, front, follow, units}
use Rattle.request_stream.specs.Asks.{AreAskedAs}
use Rattle.request_stream.specs.Reading.{is_over, later, GoAlike, HasRead, Reads, StandsFor}
use Rattle.request_stream.proofs.AskedLemmas.{asked_behind, asked_trans}
use Rattle.request_stream.proofs.Growing.{units-begin}
use Rattle.request_stream.proofs.UnitLemmas.{units-step, front-settled, front-takes, IsFixed, Takes}

pub later_of : (limits : Limits) (x y : List (ℕ × ℕ)) (us vs : List Asked) → units limits x ≡ us →
    units limits (x ++ y) ≡ us ++ vs → later limits x y ≡ vs
later_of limits x y us vs e f =
    ap (λ ws. drop (length ws) (units limits (x ++ y))) e
    ∙ (ap (drop (length us)) f ∙ drop_at us vs (length us) refl)

pub alike-trans : (limits : Limits) (x y z : List (ℕ × ℕ)) → GoAlike limits x y →
    GoAlike limits y z → GoAlike limits x z
alike-trans limits x y z g h = record { alike = λ w. g.alike w ∙ h.alike w }

pub alike-same : (limits : Limits) (x : List (ℕ × ℕ)) → GoAlike limits x x
alike-same limits x = record { alike = λ y. refl }

-- one step, of the bytes that aren't a whole unit yet
pub record Moves {S : Type 0} (tells : Bool) (limits : Limits) (was : Bool) (new : State S)
    (z p : List (ℕ × ℕ)) (before after : List Asked) : Type 0 where
  pub next : List (ℕ × ℕ)
  pub alike : GoAlike limits (z ++ p) next
  pub stands : StandsFor tells limits new next
  pub given : AreAskedAs tells after (before ++ later limits z p)
  pub closed : (was || list_any closing (later limits z p)) ≡ is_over new

module _ (known : Grammar) where
  -- the units of more bytes are those of the first ones and the later ones
  pub later-is : (limits : Limits) (x y : List (ℕ × ℕ)) → 0 < limits.max_head →
      units limits (x ++ y) ≡ units limits x ++ later limits x y
  later-is limits x y h =
      let b = units-begin known limits x y h in
      b.whole ∙ ap (λ vs. units limits x ++ vs) (sym
      (later_of limits x y (units limits x) b.more refl b.whole))

  pub later-append : (limits : Limits) (x y z : List (ℕ × ℕ)) → 0 < limits.max_head →
      later limits x (y ++ z) ≡ later limits x y ++ later limits (x ++ y) z
  later-append limits x y z h =
      later_of limits x (y ++ z) (units limits x) (later limits x y ++ later limits (x ++ y) z) refl
      (ap (units limits) (sym (append_assoc x y z))
      ∙ (later-is limits (x ++ y) z h ∙ (ap (λ us. us ++ later limits (x ++ y) z)
      (later-is limits x y h) ∙ append_assoc (units limits x) (later limits x y)
      (later limits (x ++ y) z))))

  pub alike-append : (limits : Limits) (x z p : List (ℕ × ℕ)) → 0 < limits.max_head →
      GoAlike limits x z → GoAlike limits (x ++ p) (z ++ p)
  alike-append limits x z p h g = record {
    alike = λ y.
        append_cancel_left (later limits x p) (later limits (x ++ p) y) (later limits (z ++ p) y)
        (sym (later-append limits x p y h) ∙ (g.alike (p ++ y)
        ∙ (later-append limits z p y h ∙ ap (λ us. us ++ later limits (z ++ p) y)
        (sym (g.alike p)))));
  }

  pub units-waits : (limits : Limits) (x : List (ℕ × ℕ)) (us : List Asked) → 0 < limits.max_head →
      front limits x ≡ waits us → units limits x ≡ us
  units-waits limits x us h e = units-step known limits x h ∙ ap (follow (units limits) x) e

  pub units-ends : (limits : Limits) (x : List (ℕ × ℕ)) (us : List Asked) → 0 < limits.max_head →
      front limits x ≡ ends us → units limits x ≡ us
  units-ends limits x us h e = units-step known limits x h ∙ ap (follow (units limits) x) e

  -- behind an end nothing comes
  pub later-ends : (limits : Limits) (x y : List (ℕ × ℕ)) (us : List Asked) → 0 < limits.max_head →
      front limits x ≡ ends us → later limits x y ≡ []
  later-ends limits x y us h e =
      later_of limits x y us [] (units-ends limits x us h e)
      (units-ends limits (x ++ y) us h (front-settled known limits x y h (subst IsFixed (sym e) tt)
      ∙ e) ∙ sym (append-nil us))

  pub units-goes : (limits : Limits) (x : List (ℕ × ℕ)) (us : List Asked) (n : ℕ) →
      0 < limits.max_head → front limits x ≡ goes us n →
      units limits x ≡ us ++ units limits (drop n x)
  units-goes limits x us n h e = units-step known limits x h ∙ ap (follow (units limits) x) e

  -- behind a whole front an input goes on as what is left of it
  pub alike-goes : (limits : Limits) (x : List (ℕ × ℕ)) (us : List Asked) (n : ℕ) →
      0 < limits.max_head → front limits x ≡ goes us n → GoAlike limits x (drop n x)
  alike-goes limits x us n h e = record {
    alike = λ y.
        let there : (0 < n) × (n ≤ length x) = subst (Takes (length x)) e
        (front-takes known limits x) in
        let same : front limits (x ++ y) ≡ goes us n =
        front-settled known limits x y h (subst IsFixed (sym e) tt) ∙ e in
        later_of limits x y (us ++ units limits (drop n x)) (later limits (drop n x) y)
        (units-goes limits x us n h e)
        (units-goes limits (x ++ y) us n h same ∙ (ap (λ z. us ++ units limits z)
        (drop-append-le n x y there.1)
        ∙ (ap (λ ws. us ++ ws) (later-is limits (drop n x) y h)
        ∙ sym (append_assoc us (units limits (drop n x)) (later limits (drop n x) y)))));
  }

-- is a step of the whole
pub reads : {S : Type 0} (tells : Bool) (limits : Limits) (old new : State S) (p : List (ℕ × ℕ))
    (before after : List Asked) → 0 < limits.max_head →
    (Grammar → (z : List (ℕ × ℕ)) → StandsFor tells limits old z →
    Moves tells limits (is_over old) new z p before after) →
    Reads tells limits old new p before after
reads tells limits old new p before after h f = record {
  each = λ known x r.
      let m = f known r.rest r.stands in
      record {
        read = record {
          rest = m.next;
          alike = alike-trans limits (x ++ p) (r.rest ++ p) m.next
              (alike-append known limits x r.rest p h r.alike) m.alike;
          stands = m.stands;
          closed =
              ap (list_any closing) (later-is known limits x p h)
              ∙ (list_any-append closing (units limits x) (later limits x p)
              ∙ (ap (λ b. b || list_any closing (later limits x p)) r.closed
              ∙ (ap (λ us. is_over old || list_any closing us) (r.alike.alike p) ∙ m.closed)));
        };
        given = subst (λ us. AreAskedAs tells after (before ++ us)) (sym (r.alike.alike p)) m.given;
      };
}

-- two steps after each other
pub reads-trans : {S : Type 0} (tells : Bool) (limits : Limits) (old mid new : State S)
    (p q : List (ℕ × ℕ)) (before between after : List Asked) → 0 < limits.max_head →
    Reads tells limits old mid p before between → Reads tells limits mid new q between after →
    Reads tells limits old new (p ++ q) before after
reads-trans tells limits old mid new p q before between after h a b = record {
  each = λ known x r.
      let first = a.each known x r in
      let second = b.each known (x ++ p) first.read in
      let both : (before ++ later limits x p) ++ later limits (x ++ p) q
      ≡ before ++ later limits x (p ++ q) =
      append_assoc before (later limits x p) (later limits (x ++ p) q)
      ∙ ap (λ us. before ++ us) (sym (later-append known limits x p q h)) in
      record {
        read = subst (HasRead tells limits new) (append_assoc x p q) second.read;
        given =
            subst (AreAskedAs tells after) both
            (asked_trans after (between ++ later limits (x ++ p) q) ((before ++ later limits x p)
            ++ later limits (x ++ p) q) second.given
            (asked_behind between (before ++ later limits x p)
            (later limits (x ++ p) q) first.given));
      };
}
