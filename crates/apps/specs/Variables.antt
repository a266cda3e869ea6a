-- Variables of an environ.
use Rattle.std.specs.Prelude.{ℕ, List, [], unwrap_or}
use Rattle.wsgi.specs.Environ.{first_value}

-- the value of a variable, which may be left out where it is empty (PEP 3333, 'environ Variables')
abbrev pub variable : List ℕ → List (List ℕ × List ℕ) → List ℕ
variable name environ = unwrap_or (first_value name environ) []
