-- Internal: what is left of a list of steps.
use Rattle.std.specs.Prelude.{◌≤◌, ◌-◌, ℕ, List, length, drop}
use Rattle.std.proofs.Math.Nat.{le_of_eq}
use Rattle.std.proofs.lemmas.List.{length-drop}
use Rattle.wsgi.specs.declared.step.Step.{Step}

pub rest_is_counted : (given : ℕ) (steps : List Step) → length (drop given steps) ≤ length steps
    - given
rest_is_counted given steps = le_of_eq (length-drop given steps)
