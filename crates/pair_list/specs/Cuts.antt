-- Internal: pairs of texts that stand one behind the other in one text.
use Rattle.std.specs.Prelude.{ℕ, ◌+◌, List, [], ◌∷◌, take, drop}

-- the pairs, by how long the first and the second text of each are
abbrev pub cut : List ℕ → List (ℕ × ℕ) → List (List ℕ × List ℕ)
cut text [] = []
cut text (size ∷ sizes) =
    (take size.0 text, take size.1 (drop size.0 text)) ∷ cut (drop size.1 (drop size.0 text)) sizes

-- how long they are together
abbrev pub total : List (ℕ × ℕ) → ℕ
total [] = 0
total (size ∷ sizes) = size.0 + (size.1 + total sizes)
