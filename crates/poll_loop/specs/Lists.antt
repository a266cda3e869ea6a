-- Lists whose items are changed or judged one by one.
use Rattle.std.specs.Prelude.{◌≡◌, ℕ, zero, suc, List, [], ◌∷◌}

-- each item is so
abbrev pub EachIs : {X : Type 0} → (X → Type 0) → List X → Type 0
EachIs P [] = Unit {0}
EachIs P (x ∷ xs) = P x × EachIs P xs

-- both lists go together, item by item
abbrev pub Both : {X Y : Type 0} → (X → Y → Type 0) → List X → List Y → Type 0
Both R [] [] = Unit {0}
Both R [] (y ∷ ys) = ⊥
Both R (x ∷ xs) [] = ⊥
Both R (x ∷ xs) (y ∷ ys) = R x y × Both R xs ys

-- each of the first list goes with the item at its place in the second
abbrev pub Paired : {W X : Type 0} → (W → X → Type 0) → List W → List X → Type 0
Paired R [] xs = Unit {0}
Paired R (w ∷ ws) [] = ⊥
Paired R (w ∷ ws) (x ∷ xs) = R w x × Paired R ws xs

-- the first so many were changed so, and the others are as before
abbrev pub UpTo : {W X : Type 0} → (W → X → X → Type 0) → ℕ → List W → List X → List X → Type 0
UpTo R zero ws os ns = ns ≡ os
UpTo R (suc i) [] os ns = ⊥
UpTo R (suc i) (w ∷ ws) [] ns = ⊥
UpTo R (suc i) (w ∷ ws) (o ∷ os) [] = ⊥
UpTo R (suc i) (w ∷ ws) (o ∷ os) (n ∷ ns) = R w o n × UpTo R i ws os ns
