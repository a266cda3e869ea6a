-- An end of the gate, as contracts see it.
use Rattle.std.specs.Prelude.{◌≡◌, ℕ, ◌+◌, Bool, true, false, List, [], ◌∷◌, ◌++◌, Option, None}
use Rattle.std.specs.Prelude.{Some, refl}
use Rattle.std.specs.Coded.{Coded, code_by, coded×, coded_ℕ, coded_bool, coded_list}
use mathlib.Core.List.{IsPrefix}
use Rattle.atomic_table.specs.Seated.{TableId, table_id_coded}
use Rattle.atomic_table.specs.declared.shared.Seat.{Seat}
use Rattle.turn_gate.specs.declared.board.Shelf.{Shelf}
use Rattle.turn_gate.specs.declared.board.View.{View}
use Rattle.turn_gate.specs.declared.board.Side.{Side}
use Rattle.turn_gate.specs.Gate.{alone}

-- Which gate and which end it is, its own entries, those of the other that it found last, what no
-- turn changes, whether it has the turn, and how many takes of it found the gate held
pub record End (O E F : Type 0) : Type 0 where
  pub gate : TableId
  pub seat : ℕ
  pub own : List O
  pub found : List E
  pub fixed : F
  pub has : Bool
  pub refused : ℕ

abbrev pub end_coded : {O E F : Type 0} → Coded O → Coded E → Coded F → Coded (End O E F)
end_coded {O} {E} {F} o e f = code_by (TableId × (ℕ × (List O × (List E × (F × (Bool × ℕ))))))
    (coded× table_id_coded (coded× coded_ℕ (coded× (coded_list o)
    (coded× (coded_list e) (coded× f (coded× coded_bool coded_ℕ))))))
    (λ d. (d.gate, (d.seat, (d.own, (d.found, (d.fixed, (d.has, d.refused)))))))
    (λ p. record {
      gate = p.0;
      seat = p.1.0;
      own = p.1.1.0;
      found = p.1.1.1.0;
      fixed = p.1.1.1.1.0;
      has = p.1.1.1.1.1.0;
      refused = p.1.1.1.1.1.1;
    }) (λ _. refl)

-- the state, and the end that took it, read as a left end and as a right end
pub record InTurn (S L R F : Type 0) : Type 0 where
  pub state : S
  pub by_left : End L R F
  pub by_right : End R L F

abbrev pub in_turn_coded : {S L R F : Type 0} → Coded S → Coded L → Coded R → Coded F →
    Coded (InTurn S L R F)
in_turn_coded {S} {L} {R} {F} s l r f = code_by (S × (End L R F × End R L F))
    (coded× s (coded× (end_coded l r f) (end_coded r l f)))
    (λ d. (d.state, (d.by_left, d.by_right)))
    (λ p. record { state = p.0; by_left = p.1.0; by_right = p.1.1 }) (λ _. refl)

-- the turn, once its state was written
abbrev pub with_state : {S L R F : Type 0} → InTurn S L R F → S → InTurn S L R F
with_state t w = record t { state = w }

-- What a seat carries between two calls: the empty slot while it has the turn. The rule says that
-- the slot is out then, and this says that it is out with the end that has the turn
abbrev pub in_hand : {X : Type 0} → Bool → List (ℕ × Option X)
in_hand true = (0, None) ∷ []
in_hand false = []

module _ {S L R : Type 0} where
  -- the one slot is out with a seat, and has a state
  abbrev pub HasShelf : List (ℕ × Option (Shelf S L R)) → Type 0
  HasShelf hand = (shelf : Shelf S L R) × (hand ≡ (0, Some shelf) ∷ [])

  -- it has this state
  abbrev pub IsOnShelf : List (ℕ × Option (Shelf S L R)) → S → Type 0
  IsOnShelf hand state = (shelf : Shelf S L R) → hand ≡ (0, Some shelf) ∷ [] →
      shelf.state.value ≡ state

module _ {S L R F : Type 0} where
  abbrev pub left_end : Seat (Option (Shelf S L R)) (View L R F) → End L R F
  left_end s = record {
    gate = s.table_id;
    seat = s.id;
    own = s.me.0.left;
    found = s.me.0.right;
    fixed = s.me.0.fixed;
    has = s.me.0.has;
    refused = s.me.0.refused;
  }

  abbrev pub right_end : Seat (Option (Shelf S L R)) (View L R F) → End R L F
  right_end s = record {
    gate = s.table_id;
    seat = s.id;
    own = s.me.0.right;
    found = s.me.0.left;
    fixed = s.me.0.fixed;
    has = s.me.0.has;
    refused = s.me.0.refused;
  }

  -- a seat of this table with no slot, which knows what a new gate begins with
  pub record IsNew (s : Seat (Option (Shelf S L R)) (View L R F)) (table : TableId) (side : Side)
      (f : F) : Type 0 where
    pub table_is : s.table_id ≡ table
    pub me_is : s.me ≡ (alone side f, [])

module _ {O E F : Type 0} where
  -- an end of no entries, without the turn
  abbrev pub new_end : TableId → ℕ → F → End O E F
  new_end table seat f = record {
    gate = table;
    seat = seat;
    own = [];
    found = [];
    fixed = f;
    has =
        false;
    refused = 0;
  }

  -- the end after one more take that found the gate held
  abbrev pub refused_once : End O E F → End O E F
  refused_once e = record e { refused = e.refused + 1 }

  -- the end after its turn, of which the entry says what it did
  abbrev pub after_turn : End O E F → O → End O E F
  after_turn e entry = record e { own = e.own ++ entry ∷ []; has = false }

  -- the end has won the turn, and has found what the other did since
  pub record Wins (old new : End O E F) : Type 0 where
    pub gate : new.gate ≡ old.gate
    pub seat : new.seat ≡ old.seat
    pub own : new.own ≡ old.own
    pub found : IsPrefix old.found new.found
    pub fixed : new.fixed ≡ old.fixed
    pub has : new.has ≡ true

  -- the end has won one turn, with no take refused, and has ended it with this entry
  pub record MakesTurn (old new : End O E F) (entry : O) : Type 0 where
    pub gate : new.gate ≡ old.gate
    pub seat : new.seat ≡ old.seat
    pub own : new.own ≡ old.own ++ entry ∷ []
    pub found : IsPrefix old.found new.found
    pub fixed : new.fixed ≡ old.fixed
    pub has : new.has ≡ false
    pub refused : new.refused ≡ old.refused
