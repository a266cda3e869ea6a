-- The gate seen from one of its ends: `mine` and `others` pick, of the left and the right entries,
-- those of this end and those of the other. So each step is proved once for both ends.
use Rattle.std.proofs.Common.{◌≡◌, ℕ, eqb, true, false, List, [], ◌∷◌, ◌++◌, append_assoc, get_or}
use Rattle.std.proofs.Common.{set, sym, refl, ap, ◌∙◌, subst, Option, Some, None}
use mathlib.Core.Option.{some, none}
use mathlib.Core.List.{IsPrefix, append-nil}
use lib.ListN.{get_elem?}
use prog.Atomic.{either}
use Rattle.atomic_table.specs.Table.{Step, step, Act, keeps, takes, gives, Valid, rest}
use Rattle.atomic_table.specs.Table.{carried_after, homes_after, stepped, Allows}
use Rattle.atomic_table.specs.declared.shared.Seat.{Seat}
use Rattle.turn_gate.specs.declared.board.Shelf.{Shelf}
use Rattle.turn_gate.specs.declared.board.Side.{Side}
use Rattle.turn_gate.specs.declared.board.View.{View}
use Rattle.turn_gate.specs.Ends.{End, in_hand, after_turn}
use Rattle.turn_gate.specs.Gate.{refuse, shelved, Found, took, ended}
use Rattle.turn_gate.proofs.Names.{GateState, Homes, Knows, Slot}

longer : {A : Type 0} (xs ys zs : List A) → IsPrefix xs ys → IsPrefix ys zs → IsPrefix xs zs
longer {A} xs ys zs p q = (
  p.0 ++ q.0,
  sym (append_assoc xs p.0 q.0) ∙
      (ap (λ (z : List A). z ++ q.0) p.1 ∙ q.1),
)

module _ {S L R : Type 0} where
  abbrev shelf_or : Shelf S L R → Option (Shelf S L R) → Shelf S L R
  shelf_or d None = d
  shelf_or d (Some c) = c

  abbrev first_shelf : Shelf S L R → List (ℕ × Option (Shelf S L R)) → Shelf S L R
  first_shelf d [] = d
  first_shelf d (x ∷ xs) = shelf_or d x.1

module _ {S L R F O E : Type 0} (agree : S → List L → List R → Type 0) (fixed : S → F)
    (mine : List L → List R → List O) (others : List L → List R → List E) where
  abbrev V : Type 0
  V = View L R F

  abbrev St : Type 0
  St = GateState S L R F

  abbrev Me' : Type 0
  Me' = Knows S L R F

  abbrev own : V → List O
  own v = mine v.left v.right

  abbrev found : V → List E
  found v = others v.left v.right

  abbrev own_at : Shelf S L R → List O
  own_at c = mine c.entries.value.left c.entries.value.right

  abbrev found_at : Shelf S L R → List E
  found_at c = others c.entries.value.left c.entries.value.right

  abbrev AgreesAt : Shelf S L R → Type 0
  AgreesAt c = agree c.state.value c.entries.value.left c.entries.value.right

  -- where the word and the slot are, by which end has the turn
  pub data Moment : St → V → V → Type 0 where
    nobody : {s : St} {me them : V} → me.has ≡ false → them.has ≡ false → s.words ≡ 0 ∷ [] →
        (c : Shelf S L R) → s.homes ≡ some (Some c) ∷ []
        → own_at c ≡ own me → found_at c ≡ found them → fixed c.state.value ≡ me.fixed →
        AgreesAt c → them.turned_away ≡ me.refused → me.turned_away ≡ them.refused →
        Moment s me them
    i_have : {s : St} {me them : V} → me.has ≡ true → them.has ≡ false → s.words ≡ 1 ∷ [] →
        s.homes ≡ none ∷ [] → found me ≡ found them → them.turned_away ≡ me.refused →
        Moment s me them
    they_have : {s : St} {me them : V} → me.has ≡ false → them.has ≡ true → s.words ≡ 1 ∷ [] →
        s.homes ≡ none ∷ [] → own them ≡ own me → me.turned_away ≡ them.refused → Moment s me them

  -- what a take finds that won
  pub record Won (v : V) (c : Shelf S L R) (w : V) : Type 0 where
    pub side : w.side ≡ v.side
    pub same : w.fixed ≡ v.fixed
    pub has : w.has ≡ true
    pub refused : w.refused ≡ v.refused
    pub own_is : own w ≡ own v
    pub found_is : IsPrefix (found v) (found w)
    pub fixed_is : fixed c.state.value ≡ v.fixed
    pub agrees : agree c.state.value w.left w.right

  -- what each step tells does not depend on it
  abbrev pub st₀ : Step (Slot S L R)
  st₀ = step 0 0 0 0 none

  abbrev pub swaps : ℕ → ℕ → ℕ → ℕ
  swaps a b n = either (eqb n a) b n

  abbrev pub Place : Type 0
  Place = Seat (Slot S L R) V

  -- the end of a seat, as contracts see it
  abbrev pub end_of : Place → End O E F
  end_of seat = record {
    gate = seat.table_id;
    seat = seat.id;
    own = own seat.me.0;
    found =
        found seat.me.0;
    fixed = seat.me.0.fixed;
    has = seat.me.0.has;
    refused = seat.me.0.refused;
  }

  module _ (place : V → V → List V) (this that : Side) where
    pub record Seen (s : St) (me them : V) : Type 0 where
      pub views : s.views ≡ place me them
      pub this_is : me.side ≡ this
      pub that_is : them.side ≡ that
      pub same : them.fixed ≡ me.fixed
      pub they_found : IsPrefix (own them) (own me)
      pub i_found : IsPrefix (found me) (found them)
      pub moment : Moment s me them

    -- i: the number of this end's seat
    module _ (Rule : St → Type 0) (i : ℕ) (puts : (a b w : V) → set (place a b) i w ≡ place w b)
        (sees : (s : St) (id : ℕ) (v : V) → get_elem? s.views id ≡ some v → v.side ≡ this → Rule s →
        (id ≡ i) × (w : V) × Seen s v w)
        (obeys : (s : St) (v w : V) → Seen s v w → Rule s) where
      placed : (s : St) (id : ℕ) (v w them : V) → id ≡ i → s.views ≡ place v them →
          set s.views id w ≡ place w them
      placed s id v w them e t = ap (λ (k : ℕ). set s.views k w) e ∙
          (ap (λ (vs : List V). set vs i w) t ∙ puts v them w)

      abbrev Takes : ℕ → Me' → St → Type 0
      Takes id me s = (w : V) × (a : Act (Slot S L R)) × Valid s.homes me.1 a × Rule
          (stepped s 0 (swaps 0 1 (get_or s.words 0 0)) id me.1 w a)
          × took agree fixed st₀ me (get_or s.words 0 0) (w, carried_after me.1 a)

      takes_held : (slots id : ℕ) (me : Me') → me.0.side ≡ this → me.0.has ≡ false → me.1 ≡ [] →
          ((c : Shelf S L R) (w : V) → Won me.0 c w → Found agree fixed me.0 c w)
          → Allows Rule slots id me 0 (swaps 0 1) (took agree fixed st₀ me)
      takes_held slots id me side idle bare tells s k _ at _ = let h =
          sees s id me.0 at side k in let t = go h.0 h.1 h.2 h.2.moment in t
        where
          go : id ≡ i → (them : V) → Seen s me.0 them → Moment s me.0 them → Takes id me s
          go e them t (nobody mh th word c home own_is found_is fx ag gone came) =
              let w : V = record me.0 {
                left = c.entries.value.left;
                right = c.entries.value.right;
                has = true;
              } in
              let zero_is : get_or s.words 0 0 ≡ 0 = ap (λ (ws : List ℕ). get_or ws 0 0) word in (
                w,
                takes 0 (Some c),
                ap (λ (hs : Homes S L R). get_elem? hs 0) home,
                obeys (stepped s 0 (swaps 0 1 (get_or s.words 0 0)) id me.1 w (takes 0 (Some c))) w
                    them record {
                      views = placed s id me.0 w them e t.views;
                      this_is = side;
                      that_is = t.that_is;
                      same = t.same;
                      they_found = (t.they_found.0, t.they_found.1 ∙ sym own_is);
                      i_found = ([], append-nil (found_at c) ∙ found_is);
                      moment = i_have refl th (ap (λ (ws : List ℕ).
                          set ws 0 (swaps 0 1 (get_or ws 0 0))) word)
                          (ap (λ (hs : Homes S L R). set hs 0 none) home) found_is gone;
                    },
                (
                  (λ _. (
                    c,
                    ap (λ (cs : List (ℕ × Slot S L R)). (0, Some c) ∷ cs) bare,
                    tells c w record {
                      side = refl;
                      same = refl;
                      has = refl;
                      refused = refl;
                      own_is = own_is;
                      found_is = (t.i_found.0, t.i_found.1 ∙ sym found_is);
                      fixed_is = fx;
                      agrees = ag;
                    },
                  )),
                  λ ne. absurd (ne zero_is),
                ),
              )
          go e them t (i_have mh th word home all gone) =
              absurd (let x : true ≡ false = sym mh ∙ idle in cc)
          go e them t (they_have mh th word home all came) =
              let w : V = refuse me.0 in
              let one_is : get_or s.words 0 0 ≡ 1 = ap (λ (ws : List ℕ). get_or ws 0 0) word in (
                w,
                keeps,
                tt,
                obeys (stepped s 0 (swaps 0 1 (get_or s.words 0 0)) id me.1 w keeps) w them record {
                  views = placed s id me.0 w them e t.views;
                  this_is = side;
                  that_is = t.that_is;
                  same = t.same;
                  they_found = t.they_found;
                  i_found = t.i_found;
                  moment = they_have mh th (ap (λ (ws : List ℕ).
                      set ws 0 (swaps 0 1 (get_or ws 0 0))) word) home all came;
                },
                ((λ z. absurd (let x : 0 ≡ 1 = sym z ∙ one_is in cc)), λ _. refl),
              )

      -- a take, which has to look for 0 and to write 1
      pub turn_taken : (slots id a b : ℕ) (me : Me') → me.0.side ≡ this → me.0.has ≡ false →
          me.1 ≡ [] → ((c : Shelf S L R) (w : V) → Won me.0 c w → Found agree fixed me.0 c w) →
          a ≡ 0 → b ≡ 1
          → Allows Rule slots id me 0 (swaps a b) (took agree fixed st₀ me)
      turn_taken slots id a b me side idle bare tells zero_is one_is =
          subst (λ (x : ℕ × ℕ). Allows Rule slots id me 0 (swaps x.0 x.1) (took agree fixed st₀ me))
          (λ j. (sym zero_is j, sym one_is j)) (takes_held slots id me side idle bare tells)

      ends_at_zero : (slots id : ℕ) (me : Me') (c : Shelf S L R) (e : O) → me.0.side ≡ this →
          me.0.has ≡ true → me.1 ≡ (0, Some c) ∷ [] → own_at c ≡ own me.0 ++ e ∷ []
          → found_at c ≡ found me.0 → fixed c.state.value ≡ me.0.fixed → AgreesAt c →
          Allows Rule slots id me 0 (λ _. 0) (λ _. ended st₀ me 0)
      ends_at_zero slots id me c e side has hand more kept fx ag s k _ at _ = let h =
          sees s id me.0 at side k in go h.0 h.1 h.2 h.2.moment
        where
          go : id ≡ i → (them : V) → Seen s me.0 them → Moment s me.0 them
              → (w : V) × (a : Act (Slot S L R)) × Valid s.homes me.1 a
              × Rule (stepped s 0 0 id me.1 w a)
              × ended st₀ me 0 (w, carried_after me.1 a)
          go n them t (nobody mh th word c' home own_is found_is fx' ag' gone came) =
              absurd (let x : true ≡ false = sym has ∙ mh in cc)
          go n them t (they_have mh th word home all came) =
              absurd (let x : true ≡ false = sym has ∙ mh in cc)
          go n them t (i_have mh th word home all gone) = let w : V =
              shelved me.0 c them.refused in (
                w,
                gives,
                tt,
                obeys (stepped s 0 0 id me.1 w gives) w them record {
                  views = placed s id me.0 w them n t.views;
                  this_is = side;
                  that_is = t.that_is;
                  same = t.same;
                  they_found = longer (own them) (own me.0) (own_at c) t.they_found
                      (e ∷ [], sym more);
                  i_found = ([], append-nil (found_at c) ∙ (kept ∙ all));
                  moment = nobody refl th (ap (λ (ws : List ℕ). set ws 0 0) word) c
                      (ap (λ (cs : List (ℕ × Slot S L R)). homes_after s.homes cs gives) hand ∙
                      ap (λ (hs : Homes S L R). set hs 0 (some (Some c))) home)
                      refl (kept ∙ all) fx ag gone refl;
                },
                (λ c' hand'. let same : c ≡ c' = ap (first_shelf c) (sym hand ∙ hand') in let bare :
                    carried_after me.1 gives ≡ [] =
                    ap (λ (cs : List (ℕ × Slot S L R)). carried_after cs gives) hand in
                    (them.refused, λ j. (shelved me.0 (same j) them.refused, bare j))),
              )

      -- the end of a turn, which has to write 0
      pub turn_ended : (slots id n : ℕ) (seat : Place) (me : Me') (c : Shelf S L R) (e : O)
          (d : End O E F) → end_of seat ≡ d → seat.me.0.side ≡ this →
          seat.me.1 ≡ in_hand seat.me.0.has
          → me ≡ (seat.me.0, (0, Some c) ∷ rest seat.me.1) → d.has ≡ true →
          own_at c ≡ own seat.me.0 ++ e ∷ [] → found_at c ≡ found seat.me.0 →
          fixed c.state.value ≡ d.fixed → AgreesAt c → n ≡ 0
          → Allows Rule slots id me 0 (λ _. n) (λ _. ended st₀ me n)
      turn_ended slots id n seat me c e d is side hand now has more kept fx ag zero_is =
          let has' : seat.me.0.has ≡ true = ap (λ (x : End O E F). x.has) is ∙ has in
          subst (λ (x : ℕ). Allows Rule slots id me 0 (λ _. x) (λ _. ended st₀ me x)) (sym zero_is)
          (ends_at_zero slots id me c e (ap (λ (m : Me'). m.0.side) now ∙ side)
          (ap (λ (m : Me'). m.0.has) now ∙ has')
          (ap (λ (m : Me'). m.1) now ∙ ap (λ (cs : List (ℕ × Slot S L R)). (0, Some c) ∷ rest cs)
          (hand ∙ ap in_hand has'))
          (more ∙ sym (ap (λ (m : Me'). own m.0 ++ e ∷ []) now))
          (kept ∙ sym (ap (λ (m : Me'). found m.0) now))
          (fx ∙ sym (ap (λ (m : Me'). m.0.fixed) now ∙ ap (λ (x : End O E F). x.fixed) is)) ag)

  -- a seat after its turn, and its end
  pub after : (seat mid seat' : Place) (c : Shelf S L R) (e : O) (d : End O E F) → end_of seat ≡ d →
      seat.me.1 ≡ in_hand seat.me.0.has → d.has ≡ true
      → mid.table_id ≡ seat.table_id → mid.id ≡ seat.id →
      mid.me ≡ (seat.me.0, (0, Some c) ∷ rest seat.me.1) → own_at c ≡ own seat.me.0 ++ e ∷ [] →
      found_at c ≡ found seat.me.0
      → seat'.table_id ≡ mid.table_id → seat'.id ≡ mid.id → ended st₀ mid.me 0 seat'.me
      → (end_of seat' ≡ after_turn d e) × (seat'.me.0.side ≡ seat.me.0.side)
      × (seat'.me.1 ≡ in_hand seat'.me.0.has)
  after seat mid seat' c e d is hand has z₀ i₀ now more kept z₁ i₁ done =
      let full : mid.me.1 ≡ (0, Some c) ∷ [] = ap (λ (m : Me'). m.1) now ∙
      ap (λ (cs : List (ℕ × Slot S L R)). (0, Some c) ∷ rest cs)
      (hand ∙ ap in_hand (ap (λ (x : End O E F). x.has) is ∙ has)) in
      let told = done c full in
      let w : seat'.me ≡ (shelved seat.me.0 c told.0, []) = told.1 ∙
      ap (λ (m : Me'). (shelved m.0 c told.0, [])) now in (
        (λ j. record {
          gate = (z₁ ∙ z₀) j;
          seat = (i₁ ∙ i₀) j;
          own = own (w j).0;
          found = found (w j).0;
          fixed = (w j).0.fixed;
          has = (w j).0.has;
          refused = (w j).0.refused;
        }) ∙ ((λ j. record {
          gate = seat.table_id;
          seat = seat.id;
          own = more j;
          found = kept j;
          fixed = seat.me.0.fixed;
          has = false;
          refused = seat.me.0.refused;
        }) ∙ ap (λ (x : End O E F). after_turn x e) is),
        ap (λ (m : Me'). m.0.side) w,
        ap (λ (m : Me'). m.1) w ∙ sym (ap (λ (m : Me'). in_hand m.0.has) w),
      )
