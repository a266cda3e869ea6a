-- Faults that are counted one after the other.
use Rattle.std.proofs.Common.{◌≡◌, ◌≤◌, ℕ, List, ◌∷◌, length, ap, subst, arith}
use Rattle.std.specs.Prelude.{All, ◌<◌}
use Rattle.std.proofs.lemmas.List.Elements.{All-head, All-tail}
use Rattle.outside.specs.Causes.{added}

-- what is counted behind the first of these runs makes the whole
pub count_more : {R : Type 0} (faults : R → ℕ) (run : R) (runs rest : List R)
    (old mid now : ℕ) → runs ≡ run ∷ rest → mid ≡ added old (faults run) →
    (All (λ r. 0 < faults r) rest → added mid (length rest) ≤ now) →
    All (λ r. 0 < faults r) runs → added old (length runs) ≤ now
count_more faults run runs rest old mid now is settled after all =
    let here : All (λ r. 0 < faults r) (run ∷ rest) =
    subst (λ l. All (λ r. 0 < faults r) l) is all in
    let some = All-head (λ r. 0 < faults r) run rest here in
    let later = after (All-tail (λ r. 0 < faults r) run rest here) in
    let whole : length runs ≡ length (run ∷ rest) = ap length is in
    omega (arith, some, later, whole, settled)

-- no runs are left
pub count_none : {R : Type 0} (runs : List R) (old : ℕ) → length runs ≡ 0 →
    added old (length runs) ≤ old
count_none runs old none = omega (arith, none)
