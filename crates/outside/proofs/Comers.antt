-- The comers of a net in memory: who is due, and what stays where one is given.
use Rattle.std.proofs.Common.{◌≡◌, ◌<◌, ◌≤◌, ◌+◌, ◌++◌, ◌∷◌, [], ℕ, suc, inl, inr, List, length}
use Rattle.std.proofs.Common.{map, take, drop, None, false, get_or, nat_lt, arith, refl, sym, ◌∙◌}
use Rattle.std.proofs.Common.{ap}
use Rattle.std.proofs.Math.Logic.{∥∥₁_map}
use Rattle.std.specs.List.{All, Contains, remove, position_or_len, take-map, drop-map}
use Rattle.std.specs.Prelude.{cond, Some}
use Rattle.std.proofs.lemmas.Bool.{cases_lt}
use Rattle.std.proofs.lemmas.List.{map-append, length-map, get_or-map}
use Rattle.std.proofs.lemmas.List.Edits.{get_or-remove_below, get_or-remove_above, length-remove}
use Rattle.std.proofs.lemmas.List.Elements.{All-contains_itself}
use Rattle.std.proofs.lemmas.List.Quantifiers.{position-Some}
use Rattle.std.proofs.lemmas.List.Sorted.{IsPermutation-more, IsPermutation-refl}
use Rattle.std.proofs.lemmas.List.Sums.{fails_before_first}
use Rattle.outside.specs.MemNet.{AreComers, first_due, seat_of}
use Rattle.outside.specs.declared.plans.Comer.{Comer}
use Rattle.outside.specs.declared.plans.LinkPlan.{LinkPlan}
use Rattle.outside.specs.declared.plans.NetPlan.{NetPlan}
use Rattle.outside.specs.declared.types.Peer.{Peer}

-- at first all comers of the plan wait, and nobody else
pub all_come : (plan : NetPlan) (waiting : List Comer) → waiting ≡ plan.comers →
    All (Contains plan.comers) waiting
all_come plan waiting all = rw all (All-contains_itself plan.comers)

pub nobody_given : (plan : NetPlan) (given : List (Peer × LinkPlan)) (waiting : List Comer) →
    given ≡ [] → waiting ≡ plan.comers → AreComers plan given waiting
nobody_given plan given waiting nobody all =
    rw (nobody, all) (∣ IsPermutation-refl (map seat_of plan.comers) ∣₁)

past_end : (m n : ℕ) → cond (nat_lt m n) (Some m) None ≡ None → n ≤ m
past_end m n none = grind (arith, none)

-- where nobody is due, all come later
pub none_due : (waiting : List Comer) (polls : ℕ) → first_due waiting polls ≡ None →
    All (λ comer. polls ≤ comer.turn) waiting
none_due waiting polls none k d within =
    let past : length waiting ≤ position_or_len (λ (c : Comer). nat_lt c.turn polls) waiting =
    past_end _ _ none in
    let later : nat_lt (get_or waiting k d).turn polls ≡ false =
    fails_before_first (λ (c : Comer). nat_lt c.turn polls) waiting k d
    (omega (arith, past, within)) in
    grind (arith, later)

-- the place of the first who is due is in the list
pub due_within : (waiting : List Comer) (polls place : ℕ) (comer : Comer) →
    first_due waiting polls ≡ Some place → place < length waiting
due_within waiting polls place comer first =
    let due = position-Some (λ (c : Comer). nat_lt c.turn polls) waiting place comer first in
    due.0

-- what holds of all who wait still does where one of them is given
pub all_left : (P : Comer → Type 0) (place : ℕ) (waiting : List Comer) → place < length waiting →
    All P waiting → All P (remove waiting place)
all_left P place waiting within holds k d inside =
    elim (cases_lt k place) [
      | inl before ↦ rw (get_or-remove_below waiting place d k before within)
          (holds k d (omega (arith, before, within)))
      | inr behind ↦ rw (get_or-remove_above waiting place d k behind within)
          (holds (k + 1) d (omega (arith, inside, length-remove waiting place within)))
    ]

map-remove : (waiting : List Comer) (place : ℕ) →
    map seat_of (remove waiting place) ≡ remove (map seat_of waiting) place
map-remove waiting place =
    rw (
      map-append seat_of (take place waiting) (drop (suc place) waiting),
      take-map seat_of place waiting,
      drop-map seat_of (suc place) waiting,
    ) refl

-- one who is given moves from those waiting to those given
pub comers_left : (plan : NetPlan) (given : List (Peer × LinkPlan)) (waiting : List Comer)
    (place : ℕ) (comer : Comer) → place < length waiting → comer ≡ get_or waiting place comer →
    AreComers plan given waiting →
    AreComers plan (given ++ seat_of comer ∷ []) (remove waiting place)
comers_left plan given waiting place comer within is comers =
    let seat : seat_of comer ≡ get_or (map seat_of waiting) place (seat_of comer) =
    ap seat_of is ∙ sym (get_or-map seat_of waiting place comer (seat_of comer) within) in
    let inside : place < length (map seat_of waiting) = rw (length-map waiting seat_of) within in
    ∥∥₁_map comers (λ moved. rw (map-remove waiting place)
    (IsPermutation-more (map seat_of plan.comers) given (map seat_of waiting) place
    (seat_of comer) inside seat moved))
