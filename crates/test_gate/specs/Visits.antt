-- Which ends have had a turn.
use Rattle.std.specs.Prelude.{◌≡◌, Bool, true, false, List, [], ◌∷◌}
use Rattle.test_gate.specs.declared.visits.Visited.{Visited}

abbrev pub has_any : {A : Type 0} → List A → Bool
has_any [] = false
has_any (x ∷ xs) = true

-- an end has had a turn where it has an entry
pub record IsVisitedBy (s : Visited) (left : List (Unit {0})) (right : List (Unit {0})) : Type 0
  where
    pub by_left : s.left ≡ has_any left
    pub by_right : s.right ≡ has_any right
