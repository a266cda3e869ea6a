-- Pairs that are found by their names.
use Rattle.std.specs.Prelude.{ℕ, List, Option, find, option_map}
use Rattle.std.specs.Str.{bytes_eq}

-- the value of the first pair with this name
abbrev pub first_value : List ℕ → List (List ℕ × List ℕ) → Option (List ℕ)
first_value name pairs = option_map (λ pair. pair.1) (find (λ pair. bytes_eq pair.0 name) pairs)
