-- Internal: what is done with what a connection leaves.
use Rattle.std.specs.Prelude.{◌≡◌, ℕ, Bool, true, false, List, [], ◌∷◌, ◌++◌, Option, None, Some}
use Rattle.outside.specs.Causes.{added}
use Rattle.outside.specs.declared.types.End.{End}
use Rattle.poll_loop.specs.declared.seat.Mark.{Mark}
use Rattle.poll_loop.specs.declared.seat.Mark.TheVariants as mark

-- a seat is over by this end, or open
abbrev pub EndsAt : Mark → Option End → Type 0
EndsAt (mark.Over end) result = result ≡ Some end
EndsAt mark.Rests result = result ≡ None
EndsAt mark.Works result = result ≡ None

-- the faults of what is handed back are added to a count
abbrev pub Settles : {T : Type 0} → (T → ℕ) → Option T → ℕ → ℕ → Type 0
Settles faults None old new = new ≡ old
Settles faults (Some x) old new = new ≡ added old (faults x)

-- one more is kept, where there is one
abbrev pub Keeps : {T : Type 0} → Option T → List T → List T → Type 0
Keeps None olds news = news ≡ olds
Keeps (Some x) olds news = news ≡ olds ++ x ∷ []

-- a run is kept, or else its spill is settled
abbrev pub PutsRun : {R : Type 0} → Bool → (R → ℕ) → Option R → List R → List R → ℕ → ℕ → Type 0
PutsRun true faults run olds news old new = Keeps run olds news × (new ≡ old)
PutsRun false faults run olds news old new = (news ≡ olds) × Settles faults run old new
