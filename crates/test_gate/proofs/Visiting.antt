-- A visit keeps the record of who has had a turn.
use Rattle.std.proofs.Common.{◌≡◌, true, List, [], ◌∷◌, ◌++◌, refl, ◌∙◌}
use Rattle.test_gate.specs.declared.visits.Visited.{Visited}
use Rattle.test_gate.specs.Visits.{has_any, IsVisitedBy}

has_more : (xs : List (Unit {0})) (e : Unit {0}) → true ≡ has_any (xs ++ e ∷ [])
has_more [] e = refl
has_more (x ∷ xs) e = refl

pub left_visits : (s t : Visited) (xs ys : List (Unit {0})) (e : Unit {0}) → IsVisitedBy s xs ys →
    t.left ≡ true → t.right ≡ s.right → IsVisitedBy t (xs ++ e ∷ []) ys
left_visits s t xs ys e was now same = record {
  by_left = now ∙ has_more xs e;
  by_right = same ∙
      was.by_right;
}

pub right_visits : (s t : Visited) (xs ys : List (Unit {0})) (e : Unit {0}) → IsVisitedBy s xs ys →
    t.left ≡ s.left → t.right ≡ true → IsVisitedBy t xs (ys ++ e ∷ [])
right_visits s t xs ys e was same now = record {
  by_left = same ∙ was.by_left;
  by_right = now ∙
      has_more ys e;
}
