-- The rule of the gate, and what each step tells.
use Rattle.std.specs.Prelude.{◌≡◌, ◌≢◌, ◌⊎◌, ℕ, ◌+◌, true, false, List, [], ◌∷◌, Option, Some, None}
use mathlib.Core.Option.{some, none}
use mathlib.Core.List.{IsPrefix}
use Rattle.atomic_table.specs.Table.{State, Me, Step}
use Rattle.turn_gate.specs.declared.board.Shelf.{Shelf}
use Rattle.turn_gate.specs.declared.board.Side.{Side}
use Rattle.turn_gate.specs.declared.board.Side.TheVariants.{Vacant, Filling, Whole, Left, Right}
use Rattle.turn_gate.specs.declared.board.View.{View}

module _ {L R F : Type 0} where
  -- the one view before the split, of no entries
  abbrev pub alone : Side → F → View L R F
  alone side f = record {
    side = side;
    left = [];
    right = [];
    fixed = f;
    has = false;
    refused = 0;
    turned_away = 0;
  }

  -- the view after a take that failed
  abbrev pub refuse : View L R F → View L R F
  refuse v = record v { refused = v.refused + 1 }

module _ {S L R F : Type 0} where
  -- the view after a turn that left this on the shelf, when so many takes of the other end had
  -- failed
  abbrev pub shelved : View L R F → Shelf S L R → ℕ → View L R F
  shelved v c count = record v {
    left = c.entries.value.left;
    right = c.entries.value.right;
    has =
        false;
    turned_away = count;
  }

module _ {S L R F : Type 0} (agree : S → List L → List R → Type 0) (fixed : S → F) where
  -- what stands on the shelf: these entries, this fixed part of the state, and the state agrees
  -- with them
  pub record Holds (c : Shelf S L R) (left : List L) (right : List R) (f : F) : Type 0 where
    pub entries : c.entries.value ≡ record { left = left; right = right }
    pub fixed_is : fixed c.state.value ≡ f
    pub agrees : agree c.state.value c.entries.value.left c.entries.value.right

  -- Where the word and the slot are, by which end has the turn. The turns of an end without the
  -- turn have turned away just those takes of the other that failed
  pub data Phase : State (Option (Shelf S L R)) (View L R F) → View L R F → View L R F →
      Type 0 where
    free : {s : State (Option (Shelf S L R)) (View L R F)} {l r : View L R F} → l.has ≡ false →
        r.has ≡ false → s.words ≡ 0 ∷ []
        → (c : Shelf S L R) → s.homes ≡ some (Some c) ∷ [] → Holds c l.left r.right l.fixed →
        r.turned_away ≡ l.refused → l.turned_away ≡ r.refused → Phase s l r
    left_has : {s : State (Option (Shelf S L R)) (View L R F)} {l r : View L R F} → l.has ≡ true →
        r.has ≡ false → s.words ≡ 1 ∷ [] → s.homes ≡ none ∷ [] → l.right ≡ r.right →
        r.turned_away ≡ l.refused → Phase s l r
    right_has : {s : State (Option (Shelf S L R)) (View L R F)} {l r : View L R F} → l.has ≡ false →
        r.has ≡ true → s.words ≡ 1 ∷ [] → s.homes ≡ none ∷ [] → r.left ≡ l.left →
        l.turned_away ≡ r.refused → Phase s l r

  -- both views after the split
  pub record Two (s : State (Option (Shelf S L R)) (View L R F)) (l r : View L R F) : Type 0 where
    pub views : s.views ≡ l ∷ r ∷ []
    pub left : l.side ≡ Left
    pub right : r.side ≡ Right
    pub same : r.fixed ≡ l.fixed
    pub left_found : IsPrefix l.right r.right
    pub right_found : IsPrefix r.left l.left
    pub phase : Phase s l r

  pub record Paired (s : State (Option (Shelf S L R)) (View L R F)) : Type 0 where
    pub l : View L R F
    pub r : View L R F
    pub two : Two s l r

  -- before the split: the slot is vacant, out with the one seat, or filled
  pub data Opening : State (Option (Shelf S L R)) (View L R F) → Type 0 where
    vacant : {s : State (Option (Shelf S L R)) (View L R F)} → (f : F) →
        s.views ≡ alone Vacant f ∷ [] → s.words ≡ 1 ∷ [] → s.homes ≡ some None ∷ [] → Opening s
    filling : {s : State (Option (Shelf S L R)) (View L R F)} → (f : F) →
        s.views ≡ alone Filling f ∷ [] → s.words ≡ 1 ∷ [] → s.homes ≡ none ∷ [] → Opening s
    whole : {s : State (Option (Shelf S L R)) (View L R F)} → (f : F) →
        s.views ≡ alone Whole f ∷ [] → s.words ≡ 0 ∷ []
        → (c : Shelf S L R) → s.homes ≡ some (Some c) ∷ [] → Holds c [] [] f → Opening s

  abbrev pub Kept : State (Option (Shelf S L R)) (View L R F) → Type 0
  Kept s = Opening s ⊎ Paired s

  -- what a take finds that won: the shelf c, and the view afterwards
  pub record Found (v : View L R F) (c : Shelf S L R) (w : View L R F) : Type 0 where
    pub side : w.side ≡ v.side
    pub same : w.fixed ≡ v.fixed
    pub has : w.has ≡ true
    pub refused : w.refused ≡ v.refused
    pub left : v.side ≡ Left → (w.left ≡ v.left) × IsPrefix v.right w.right
    pub right : v.side ≡ Right → (w.right ≡ v.right) × IsPrefix v.left w.left
    pub fixed_is : fixed c.state.value ≡ v.fixed
    pub agrees : agree c.state.value w.left w.right

  -- a take: where it found 0 it won, and else it was refused
  abbrev pub took : Step (Option (Shelf S L R)) → Me (Option (Shelf S L R)) (View L R F) → ℕ →
      Me (Option (Shelf S L R)) (View L R F) → Type 0
  took st m n m' = (n ≡ 0 → (c : Shelf S L R) × (m'.1 ≡ (0, Some c) ∷ []) × Found m.0 c m'.0)
      × (n ≢ 0 → m' ≡ (refuse m.0, m.1))

module _ {S L R F : Type 0} where
  -- the vacant slot comes to the first seat
  abbrev pub began : Step (Option (Shelf S L R)) → Me (Option (Shelf S L R)) (View L R F) → ℕ →
      Me (Option (Shelf S L R)) (View L R F) → Type 0
  began st m n m' = m' ≡ (record m.0 { side = Filling }, (0, None) ∷ [])

  -- the slot goes home with the first state
  abbrev pub filled : Step (Option (Shelf S L R)) → Me (Option (Shelf S L R)) (View L R F) → ℕ →
      Me (Option (Shelf S L R)) (View L R F) → Type 0
  filled st m n m' = m' ≡ (record m.0 { side = Whole }, [])

  -- the slot goes home at the end of a turn
  abbrev pub ended : Step (Option (Shelf S L R)) → Me (Option (Shelf S L R)) (View L R F) → ℕ →
      Me (Option (Shelf S L R)) (View L R F) → Type 0
  ended st m n m' = (c : Shelf S L R) → m.1 ≡ (0, Some c) ∷ [] →
      (count : ℕ) × (m' ≡ (shelved m.0 c count, []))

  -- a load that tells nothing
  abbrev pub looked : Step (Option (Shelf S L R)) → Me (Option (Shelf S L R)) (View L R F) → ℕ →
      Me (Option (Shelf S L R)) (View L R F) → Type 0
  looked st m n m' = m' ≡ m

module _ {L R F : Type 0} where
  abbrev pub left_part : View L R F → View L R F
  left_part v = record v { side = Left }

  abbrev pub right_part : View L R F → View L R F
  right_part v = record v { side = Right }
