-- The first place in a list that is made from another.
use Rattle.std.proofs.Common.{◌≡◌, Bool, not, cond, List, [], ◌∷◌, map, refl, ap, ◌+◌}
use Rattle.std.specs.List.{position, prefix_len}
use Rattle.std.proofs.lemmas.List.{length-map}

prefix_len_map : {X Y : Type 0} (q : Y → Bool) (f : X → Y) (xs : List X) →
    prefix_len q (map f xs) ≡ prefix_len (λ x. q (f x)) xs
prefix_len_map q f [] = refl
prefix_len_map q f (x ∷ xs) = ap (λ n. cond (q (f x)) (1 + n) 0) (prefix_len_map q f xs)

pub position_map : {X Y : Type 0} (p : Y → Bool) (f : X → Y) (xs : List X) →
    position p (map f xs) ≡ position (λ x. p (f x)) xs
position_map p f xs = simp (prefix_len_map (λ y. not (p y)) f xs, length-map xs f)
