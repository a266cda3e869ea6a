-- Internal: whether what is given is kept.
use Rattle.std.specs.Prelude.{◌≡◌, ℕ, false, List, Option, Some, None}
use Rattle.head_grammar.specs.declared.types.Field.{Field}
use Rattle.task_core.specs.Starts.{is_valid}
use Rattle.task_core.specs.declared.starts.Given.{Given}

-- it is kept as it is, exactly where it is valid
abbrev pub GivesValid : List ℕ → List Field → Option Given → Type 0
GivesValid status fields (Some given) = (given.status ≡ status) × (given.fields ≡ fields)
GivesValid status fields None = is_valid status fields ≡ false
