-- A take that won and the end of its turn, together.
use Rattle.std.proofs.Common.{◌≡◌, List, [], ◌∷◌, ◌++◌, ap, ◌∙◌, subst, sym}
use mathlib.Core.List.{IsPrefix}
use Rattle.turn_gate.specs.Ends.{End, after_turn, Wins, MakesTurn}

module _ {O E F : Type 0} where
  pub turn_made : (old mid new : End O E F) (entry : O) → Wins old mid → mid.refused ≡ old.refused →
      new ≡ after_turn mid entry → MakesTurn old new entry
  turn_made old mid new entry won refused done = record {
    gate = ap (λ (e : End O E F). e.gate) done ∙ won.gate;
    seat = ap (λ (e : End O E F). e.seat) done ∙ won.seat;
    own = ap (λ (e : End O E F). e.own) done ∙ ap (λ (xs : List O). xs ++ entry ∷ []) won.own;
    found = subst (λ (ys : List E). IsPrefix old.found ys)
        (sym (ap (λ (e : End O E F). e.found) done)) won.found;
    fixed = ap (λ (e : End O E F). e.fixed) done ∙ won.fixed;
    has = ap (λ (e : End O E F). e.has) done;
    refused = ap (λ (e : End O E F). e.refused) done ∙ refused;
  }
