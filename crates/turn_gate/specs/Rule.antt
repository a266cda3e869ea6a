-- What the rule keeps, once a gate is open.
use Rattle.std.specs.Prelude.{◌≡◌, ◌≢◌, ◌⊎◌, true, false, List, [], ◌∷◌, Option, Some}
use mathlib.Core.Logic.{◌↔◌}
use mathlib.Core.Option.{some, none}
use mathlib.Core.List.{IsPrefix}
use Rattle.atomic_table.specs.Table.{State}
use Rattle.turn_gate.specs.declared.board.Shelf.{Shelf}
use Rattle.turn_gate.specs.declared.board.Side.TheVariants.{Left, Right}
use Rattle.turn_gate.specs.declared.board.View.{View}

module _ {S L R F : Type 0} where
  -- the gate's one word says that no end has the turn
  abbrev pub IsFree : State (Option (Shelf S L R)) (View L R F) → Type 0
  IsFree s = s.words ≡ 0 ∷ []

  -- the gate is being opened, and there is one seat
  pub record IsOpening (s : State (Option (Shelf S L R)) (View L R F)) : Type 0 where
    pub view : View L R F
    pub views : s.views ≡ view ∷ []

  module _ (agree : S → List L → List R → Type 0) (fixed : S → F) where
    -- The one slot is at home. It has the own lists of both ends, and a state that agrees with them
    -- and has the fixed part of each.
    pub record IsHome (s : State (Option (Shelf S L R)) (View L R F)) (left right : View L R F) :
        Type 0 where
      pub shelf : Shelf S L R
      pub home : s.homes ≡ some (Some shelf) ∷ []
      pub entries : shelf.entries.value ≡ record { left = left.left; right = right.right }
      pub agrees : agree shelf.state.value left.left right.right
      pub left_fixed : fixed shelf.state.value ≡ left.fixed
      pub right_fixed : fixed shelf.state.value ≡ right.fixed

    -- the sentences that hold of both ends between any two steps
    pub record KeepsRule (s : State (Option (Shelf S L R)) (View L R F)) (left right : View L R F) :
        Type 0 where
      pub left_side : left.side ≡ Left
      pub right_side : right.side ≡ Right
      pub same_fixed : right.fixed ≡ left.fixed
      -- at most one end has the turn
      pub one_turn : ¬ ((left.has ≡ true) × (right.has ≡ true))
      -- where the word says free, neither has it and the state is home; where it doesn't, one has
      -- it
      pub free : IsFree s ↔ (left.has ≡ false) × (right.has ≡ false)
      pub home : IsFree s → IsHome s left right
      pub out : ¬ IsFree s → s.homes ≡ none ∷ []
      -- what an end found is the beginning of the other's own list, and the whole of it while it
      -- has the turn
      pub left_found : IsPrefix left.right right.right
      pub right_found : IsPrefix right.left left.left
      pub left_found_all : left.has ≡ true → left.right ≡ right.right
      pub right_found_all : right.has ≡ true → right.left ≡ left.left
      -- an end is refused by a turn of the other and by nothing else: while the other has no turn,
      -- it was refused as often as the turns of the other have turned it away
      pub left_refused : right.has ≡ false → left.refused ≡ right.turned_away
      pub right_refused : left.has ≡ false → right.refused ≡ left.turned_away

    -- there are two ends, and they have these sentences
    pub record HasTwoEnds (s : State (Option (Shelf S L R)) (View L R F)) : Type 0 where
      pub left : View L R F
      pub right : View L R F
      pub views : s.views ≡ left ∷ right ∷ []
      pub keeps : KeepsRule s left right

    -- each state that meets the rule is one of the opening, or has two ends with these sentences
    abbrev pub Keeps : (State (Option (Shelf S L R)) (View L R F) → Type 0) → Type 0
    Keeps rule = (s : State (Option (Shelf S L R)) (View L R F)) → rule s →
        IsOpening s ⊎ HasTwoEnds s

  -- a step of one end that changes how often it was refused is one while the other has the turn, so
  -- the word is held
  abbrev pub RefusesWhereHeld : (State (Option (Shelf S L R)) (View L R F) → Type 0) → Type 0
  RefusesWhereHeld rule = (s t : State (Option (Shelf S L R)) (View L R F))
      (left right w : View L R F) → rule s → rule t → s.views ≡ left ∷ right ∷ []
      → (t.views ≡ w ∷ right ∷ [] → w.refused ≢ left.refused → right.has ≡ true)
      × (t.views ≡ left ∷ w ∷ [] → w.refused ≢ right.refused → left.has ≡ true)
