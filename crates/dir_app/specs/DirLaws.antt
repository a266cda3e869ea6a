-- Internal: of two that tell both do.
use Rattle.std.specs.Prelude.{Bool, true, false, ◌&&◌, IsTrue, refl}
use Rattle.std.proofs.lemmas.Bool.{false≢true}

pub first_tells : (a b : Bool) → IsTrue (a && b) → IsTrue a
first_tells true b both = refl
first_tells false b both = both

pub second_tells : (a b : Bool) → IsTrue (a && b) → IsTrue b
second_tells true b both = both
second_tells false b both = absurd (false≢true both)
