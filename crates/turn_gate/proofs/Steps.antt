-- The steps of each end keep the rule of the gate.
use Rattle.std.proofs.Common.{◌≡◌, ◌⊎◌, ℕ, zero, suc, true, false, List, [], ◌∷◌, ◌++◌, sym, refl}
use Rattle.std.proofs.Common.{ap, ◌∙◌, subst, inl, inr, Some}
use mathlib.Core.Option.{some, some-injective, some-ne-none}
use lib.ListN.{get_elem?}
use lib.Seq.{set-get_or}
use Rattle.atomic_table.specs.Table.{keeps, rest, Allows}
use Rattle.atomic_table.specs.declared.shared.Seat.{Seat}
use Rattle.atomic_table.proofs.Lists.{set_again}
use Rattle.turn_gate.specs.declared.board.Entries.{Entries}
use Rattle.turn_gate.specs.declared.board.Shelf.{Shelf}
use Rattle.turn_gate.specs.declared.board.Side.{Side}
use Rattle.turn_gate.specs.declared.board.Side.TheVariants.{Vacant, Filling, Whole, Left, Right}
use Rattle.turn_gate.specs.declared.board.View.{View}
use Rattle.turn_gate.specs.Ends.{End, in_hand, left_end, right_end, after_turn}
use Rattle.turn_gate.specs.Gate.{alone, Phase, free, left_has, right_has, Two, Opening, vacant}
use Rattle.turn_gate.specs.Gate.{filling, whole, Kept, took, ended, looked}
use Rattle.turn_gate.proofs.Moments.{Moment, nobody, i_have, they_have, Seen, st₀, swaps}
use Rattle.turn_gate.proofs.Moments.{turn_taken, turn_ended, after}
use Rattle.turn_gate.proofs.Names.{GateState, Knows, Slot}

module _ {A : Type 0} where
  at_one : (a v : A) (i : ℕ) → get_elem? (a ∷ []) i ≡ some v → (i ≡ 0) × (a ≡ v)
  at_one a v zero e = (refl, some-injective a v e)
  at_one a v (suc i) e = absurd (some-ne-none v (sym e))

  pub at_two : (a b v : A) (i : ℕ) → get_elem? (a ∷ b ∷ []) i ≡ some v →
      (i ≡ 0) × (a ≡ v) ⊎ (i ≡ 1) × (b ≡ v)
  at_two a b v zero e = inl (refl, some-injective a v e)
  at_two a b v (suc zero) e = inr (refl, some-injective b v e)
  at_two a b v (suc (suc i)) e = absurd (some-ne-none v (sym e))

module _ {S L R F : Type 0} (agree : S → List L → List R → Type 0) (fixed : S → F) where
  abbrev V : Type 0
  V = View L R F

  abbrev St : Type 0
  St = GateState S L R F

  abbrev Me' : Type 0
  Me' = Knows S L R F

  abbrev Place : Type 0
  Place = Seat (Slot S L R) V

  abbrev Rule : St → Type 0
  Rule = Kept agree fixed

  abbrev lefts : List L → List R → List L
  lefts xs ys = xs

  abbrev rights : List L → List R → List R
  rights xs ys = ys

  abbrev in_order : V → V → List V
  in_order a b = a ∷ b ∷ []

  abbrev turned : V → V → List V
  turned a b = b ∷ a ∷ []

  abbrev SeenByLeft : St → V → V → Type 0
  SeenByLeft = Seen agree fixed lefts rights in_order Left Right

  abbrev SeenByRight : St → V → V → Type 0
  SeenByRight = Seen agree fixed rights lefts turned Right Left

  -- the rule, seen from each end
  by_left : (s : St) (l r : V) → Two agree fixed s l r → SeenByLeft s l r
  by_left s l r t = record {
    views = t.views;
    this_is = t.left;
    that_is = t.right;
    same = t.same;
    they_found = t.right_found;
    i_found = t.left_found;
    moment = go t.phase;
  }
    where
      go : Phase agree fixed s l r → Moment agree fixed lefts rights s l r
      go (free lh rh word c home x gone came) = nobody lh rh word c home
          (ap (λ (z : Entries L R). z.left) x.entries) (ap (λ (z : Entries L R). z.right) x.entries)
          x.fixed_is x.agrees gone came
      go (left_has lh rh word home all gone) = i_have lh rh word home all gone
      go (right_has lh rh word home all came) = they_have lh rh word home all came

  of_left : (s : St) (l r : V) → SeenByLeft s l r → Rule s
  of_left s l r t = inr record {
    l = l;
    r = r;
    two = record {
      views = t.views;
      left = t.this_is;
      right = t.that_is;
      same = t.same;
      left_found = t.i_found;
      right_found = t.they_found;
      phase = go t.moment;
    };
  }
    where
      go : Moment agree fixed lefts rights s l r → Phase agree fixed s l r
      go (nobody lh rh word c home own found fx ag gone came) =
          free lh rh word c home record {
            entries = λ j. record { left = own j; right = found j };
            fixed_is = fx;
            agrees = ag;
          } gone came
      go (i_have lh rh word home all gone) = left_has lh rh word home all gone
      go (they_have lh rh word home all came) = right_has lh rh word home all came

  by_right : (s : St) (l r : V) → Two agree fixed s l r → SeenByRight s r l
  by_right s l r t = record {
    views = t.views;
    this_is = t.right;
    that_is = t.left;
    same =
        sym t.same;
    they_found = t.left_found;
    i_found = t.right_found;
    moment = go t.phase;
  }
    where
      go : Phase agree fixed s l r → Moment agree fixed rights lefts s r l
      go (free lh rh word c home x gone came) =
          nobody rh lh word c home (ap (λ (z : Entries L R). z.right) x.entries)
          (ap (λ (z : Entries L R). z.left) x.entries) (x.fixed_is ∙ sym t.same) x.agrees came
          gone
      go (left_has lh rh word home all gone) = they_have rh lh word home all gone
      go (right_has lh rh word home all came) = i_have rh lh word home all came

  of_right : (s : St) (r l : V) → SeenByRight s r l → Rule s
  of_right s r l t = inr record {
    l = l;
    r = r;
    two = record {
      views = t.views;
      left = t.that_is;
      right = t.this_is;
      same = sym t.same;
      left_found =
          t.they_found;
      right_found = t.i_found;
      phase = go t.moment;
    };
  }
    where
      go : Moment agree fixed rights lefts s r l → Phase agree fixed s l r
      go (nobody rh lh word c home own found fx ag gone came) =
          free lh rh word c home record {
            entries = λ j. record { left = found j; right = own j };
            fixed_is = fx ∙ sym t.same;
            agrees = ag;
          } came gone
      go (i_have rh lh word home all gone) = right_has lh rh word home all gone
      go (they_have rh lh word home all came) = left_has lh rh word home all came

  -- a view of one side is no view of another
  apart : (v w : V) (a b : Side) → v ≡ w → v.side ≡ a → w.side ≡ b → a ≡ b
  apart v w a b e p q = sym p ∙ (ap (λ (z : V). z.side) e ∙ q)

  -- before the split the one seat is of no end
  abbrev IsEnd : V → Type 0
  IsEnd v = (v.side ≡ Left) ⊎ (v.side ≡ Right)

  pub lone : (id : ℕ) (v w : V) (vs : List V) → get_elem? vs id ≡ some v → vs ≡ w ∷ [] →
      (id ≡ 0) × (w ≡ v)
  lone id v w vs at e = at_one w v id (subst (λ (zs : List V). get_elem? zs id ≡ some v) e at)

  not_alone : (s : St) (id : ℕ) (v : V) → get_elem? s.views id ≡ some v → IsEnd v →
      Opening agree fixed s → ⊥
  not_alone s id v at (inl side) (vacant f views word home) = let x : Vacant ≡ Left =
      apart (alone Vacant f) v Vacant Left (lone id v (alone Vacant f) s.views at views).1 refl side
      in cc
  not_alone s id v at (inr side) (vacant f views word home) = let x : Vacant ≡ Right =
      apart (alone Vacant f) v Vacant Right (lone id v (alone Vacant f) s.views at views).1 refl
      side in cc
  not_alone s id v at (inl side) (filling f views word home) = let x : Filling ≡ Left =
      apart (alone Filling f) v Filling Left (lone id v (alone Filling f) s.views at views).1 refl
      side in cc
  not_alone s id v at (inr side) (filling f views word home) = let x : Filling ≡ Right =
      apart (alone Filling f) v Filling Right (lone id v (alone Filling f) s.views at views).1 refl
      side in cc
  not_alone s id v at (inl side) (whole f views word c home x) = let x : Whole ≡ Left =
      apart (alone Whole f) v Whole Left (lone id v (alone Whole f) s.views at views).1 refl side in
      cc
  not_alone s id v at (inr side) (whole f views word c home x) = let x : Whole ≡ Right =
      apart (alone Whole f) v Whole Right (lone id v (alone Whole f) s.views at views).1 refl side
      in cc

  -- the seat of the left view is the first of two
  is_left : (s : St) (id : ℕ) (v : V) → get_elem? s.views id ≡ some v → v.side ≡ Left → Rule s →
      (id ≡ 0) × (r : V) × SeenByLeft s v r
  is_left s id v at side (inl a) = absurd (not_alone s id v at (inl side) a)
  is_left s id v at side (inr p) = go (at_two p.l p.r v id
      (subst (λ (vs : List V). get_elem? vs id ≡ some v) p.two.views at))
    where
      go : (id ≡ 0) × (p.l ≡ v) ⊎ (id ≡ 1) × (p.r ≡ v) → (id ≡ 0) × (r : V) × SeenByLeft s v r
      go (inl e) = (e.0, p.r, subst (λ (z : V). SeenByLeft s z p.r) e.1 (by_left s p.l p.r p.two))
      go (inr e) = absurd (let x : Right ≡ Left = apart p.r v Right Left e.1 p.two.right side in cc)

  is_right : (s : St) (id : ℕ) (v : V) → get_elem? s.views id ≡ some v → v.side ≡ Right → Rule s →
      (id ≡ 1) × (l : V) × SeenByRight s v l
  is_right s id v at side (inl a) = absurd (not_alone s id v at (inr side) a)
  is_right s id v at side (inr p) = go (at_two p.l p.r v id
      (subst (λ (vs : List V). get_elem? vs id ≡ some v) p.two.views at))
    where
      go : (id ≡ 0) × (p.l ≡ v) ⊎ (id ≡ 1) × (p.r ≡ v) → (id ≡ 1) × (l : V) × SeenByRight s v l
      go (inl e) = absurd (let x : Left ≡ Right = apart p.l v Left Right e.1 p.two.left side in cc)
      go (inr e) = (e.0, p.l, subst (λ (z : V). SeenByRight s z p.l) e.1 (by_right s p.l p.r p.two))

  pub takes_left : (slots id a b : ℕ) (me : Me') → me.0.side ≡ Left → me.0.has ≡ false → me.1 ≡ [] →
      a ≡ 0 → b ≡ 1 → Allows Rule slots id me 0 (λ n. swaps agree fixed lefts rights a b n)
      (took agree fixed (st₀ agree fixed lefts rights) me)
  takes_left slots id a b me side idle bare = turn_taken agree fixed lefts rights in_order Left
      Right Rule 0 (λ _ _ _. refl) is_left of_left slots id a b me side idle bare
      (λ c w won. record {
        side = won.side;
        same = won.same;
        has = won.has;
        refused = won.refused;
        left = λ _. (won.own_is, won.found_is);
        right = λ z. absurd (let x : Left ≡ Right = sym side ∙ z in cc);
        fixed_is = won.fixed_is;
        agrees = won.agrees;
      })

  pub takes_right : (slots id a b : ℕ) (me : Me') → me.0.side ≡ Right → me.0.has ≡ false →
      me.1 ≡ [] → a ≡ 0 → b ≡ 1 → Allows Rule slots id me 0
      (λ n. swaps agree fixed lefts rights a b n) (took agree fixed (st₀ agree fixed lefts rights)
      me)
  takes_right slots id a b me side idle bare = turn_taken agree fixed rights lefts turned Right Left
      Rule 1 (λ _ _ _. refl) is_right of_right slots id a b me side idle bare
      (λ c w won. record {
        side = won.side;
        same = won.same;
        has = won.has;
        refused = won.refused;
        left = λ z. absurd (let x : Right ≡ Left = sym side ∙ z in cc);
        right = λ _. (won.own_is, won.found_is);
        fixed_is = won.fixed_is;
        agrees = won.agrees;
      })

  -- the end of a turn: the shelf has one entry more
  pub ends_left : (slots id n : ℕ) (seat : Place) (me : Me') (c : Shelf S L R) (e : L)
      (d : End L R F) → left_end seat ≡ d → seat.me.0.side ≡ Left →
      seat.me.1 ≡ in_hand seat.me.0.has
      → me ≡ (seat.me.0, (0, Some c) ∷ rest seat.me.1) → d.has ≡ true →
      c.entries.value ≡ record { left = seat.me.0.left ++ e ∷ []; right = seat.me.0.right } →
      fixed c.state.value ≡ d.fixed
      → agree c.state.value (d.own ++ e ∷ []) d.found → n ≡ 0 →
      Allows Rule slots id me 0 (λ _. n) (λ _. ended (st₀ agree fixed lefts rights) me n)
  ends_left slots id n seat me c e d is side hand now has en fx ag =
      turn_ended agree fixed lefts rights in_order Left Right Rule 0 (λ _ _ _. refl) is_left of_left
      slots id n seat me c e d is side hand now has
      (ap (λ (z : Entries L R). z.left) en) (ap (λ (z : Entries L R). z.right) en) fx
      (subst (λ (z : Entries L R). agree c.state.value z.left z.right) (sym en)
      (subst (λ (x : End L R F). agree c.state.value (x.own ++ e ∷ []) x.found) (sym is) ag))

  pub ends_right : (slots id n : ℕ) (seat : Place) (me : Me') (c : Shelf S L R) (e : R)
      (d : End R L F) → right_end seat ≡ d → seat.me.0.side ≡ Right →
      seat.me.1 ≡ in_hand seat.me.0.has
      → me ≡ (seat.me.0, (0, Some c) ∷ rest seat.me.1) → d.has ≡ true →
      c.entries.value ≡ record { left = seat.me.0.left; right = seat.me.0.right ++ e ∷ [] } →
      fixed c.state.value ≡ d.fixed
      → agree c.state.value d.found (d.own ++ e ∷ []) → n ≡ 0 →
      Allows Rule slots id me 0 (λ _. n) (λ _. ended (st₀ agree fixed lefts rights) me n)
  ends_right slots id n seat me c e d is side hand now has en fx ag =
      turn_ended agree fixed rights lefts turned Right Left Rule 1 (λ _ _ _. refl) is_right of_right
      slots id n seat me c e d is side hand now has
      (ap (λ (z : Entries L R). z.right) en) (ap (λ (z : Entries L R). z.left) en) fx
      (subst (λ (z : Entries L R). agree c.state.value z.left z.right) (sym en)
      (subst (λ (x : End R L F). agree c.state.value x.found (x.own ++ e ∷ [])) (sym is) ag))

  pub left_after : (seat mid seat' : Place) (c : Shelf S L R) (e : L) (d : End L R F) →
      left_end seat ≡ d → seat.me.1 ≡ in_hand seat.me.0.has → d.has ≡ true
      → mid.table_id ≡ seat.table_id → mid.id ≡ seat.id →
      mid.me ≡ (seat.me.0, (0, Some c) ∷ rest seat.me.1) →
      c.entries.value ≡ record { left = seat.me.0.left ++ e ∷ []; right = seat.me.0.right }
      → seat'.table_id ≡ mid.table_id → seat'.id ≡ mid.id →
      ended (st₀ agree fixed lefts rights) mid.me 0 seat'.me
      → (left_end seat' ≡ after_turn d e) × (seat'.me.0.side ≡ seat.me.0.side)
      × (seat'.me.1 ≡ in_hand seat'.me.0.has)
  left_after seat mid seat' c e d is hand has z₀ i₀ now en =
      after agree fixed lefts rights seat mid seat' c e d is hand has z₀ i₀ now
      (ap (λ (z : Entries L R). z.left) en) (ap (λ (z : Entries L R). z.right) en)

  pub right_after : (seat mid seat' : Place) (c : Shelf S L R) (e : R) (d : End R L F) →
      right_end seat ≡ d → seat.me.1 ≡ in_hand seat.me.0.has → d.has ≡ true
      → mid.table_id ≡ seat.table_id → mid.id ≡ seat.id →
      mid.me ≡ (seat.me.0, (0, Some c) ∷ rest seat.me.1) →
      c.entries.value ≡ record { left = seat.me.0.left; right = seat.me.0.right ++ e ∷ [] }
      → seat'.table_id ≡ mid.table_id → seat'.id ≡ mid.id →
      ended (st₀ agree fixed lefts rights) mid.me 0 seat'.me
      → (right_end seat' ≡ after_turn d e) × (seat'.me.0.side ≡ seat.me.0.side)
      × (seat'.me.1 ≡ in_hand seat'.me.0.has)
  right_after seat mid seat' c e d is hand has z₀ i₀ now en =
      after agree fixed rights lefts seat mid seat' c e d is hand has z₀ i₀ now
      (ap (λ (z : Entries L R). z.right) en) (ap (λ (z : Entries L R). z.left) en)

  -- a load, which tells nothing
  pub looks : (slots id : ℕ) (me : Me') → Allows Rule slots id me 0 (λ n. n)
      (looked (st₀ agree fixed lefts rights) me)
  looks slots id me s k _ at _ = (
    me.0,
    keeps,
    tt,
    subst Rule (λ j. record {
      words = sym (set-get_or s.words 0 0) j;
      homes = s.homes;
      views =
          sym (set_again s.views id me.0 at) j;
    }) k,
    refl,
  )
