-- The kinds of some rows.
use Rattle.std.proofs.Common.{◌≡◌, ℕ, Bool, true, List, [], ◌∷◌, map, refl, ap}
use Rattle.std.specs.Prelude.{◌||◌}
use Rattle.std.specs.List.{filter, list_any}
use Rattle.outside.specs.declared.types.Kind.{Kind}
use Rattle.adjust.specs.Lists.{is_among, parts}

pub any_map : {X Y : Type 0} (p : Y → Bool) (f : X → Y) (xs : List X) →
    list_any p (map f xs) ≡ list_any (λ x. p (f x)) xs
any_map p f [] = refl
any_map p f (x ∷ xs) = ap (λ t. p (f x) || t) (any_map p f xs)

abbrev pub kinds_among : List ℕ → List (List ℕ × Kind) → List Kind
kinds_among text rows = map (λ row. row.1) (filter (λ row. is_among (parts true text) row.0) rows)
