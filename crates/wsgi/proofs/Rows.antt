-- Lists to which pairs were added, one behind the other.
use Rattle.std.proofs.Common.{◌≡◌, List, [], ◌∷◌, ◌++◌, arith}
use Rattle.std.proofs.lemmas.Grind.{common_steps}

pub four : {N V : Type 0} (start : List (N × V)) {first second third : List (N × V)} (a b c d : N)
    {v w x y v' w' x' y' : V} →
    first ≡ start ++ (a, v) ∷ [] → second ≡ first ++ (b, w) ∷ [] → third ≡ second ++ (c, x) ∷ [] →
    v ≡ v' → w ≡ w' → x ≡ x' → y ≡ y' →
    third ++ (d, y) ∷ [] ≡ start ++ (a, v') ∷ (b, w') ∷ (c, x') ∷ (d, y') ∷ []
four start a b c d p q r i j k l = grind (arith, common_steps)

pub five : {N V : Type 0} (start : List (N × V)) {first second third fourth : List (N × V)}
    (a b c d e : N) {v w x y z v' w' x' y' z' : V} →
    first ≡ start ++ (a, v) ∷ [] → second ≡ first ++ (b, w) ∷ [] → third ≡ second ++ (c, x) ∷ [] →
    fourth ≡ third ++ (d, y) ∷ [] →
    v ≡ v' → w ≡ w' → x ≡ x' → y ≡ y' → z ≡ z' →
    fourth ++ (e, z) ∷ [] ≡ start ++ (a, v') ∷ (b, w') ∷ (c, x') ∷ (d, y') ∷ (e, z') ∷ []
five start a b c d e p q r s i j k l m = grind (arith, common_steps)
