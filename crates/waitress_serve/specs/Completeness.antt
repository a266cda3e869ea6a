-- What a server does to which nothing happens.
use Rattle.std.specs.Prelude.{◌≡◌, ◌≤◌, ◌+◌, ◌⊎◌, ℕ, List, IfSome}
use Rattle.channel.specs.Output.{Input}
use Rattle.channel.specs.Views.{Owed}
use Rattle.outside.specs.Causes.{Rose}
use Rattle.outside.specs.Link.{LinkState}
use Rattle.outside.specs.Net.{NetState, last_moment}
use Rattle.outside.specs.declared.retired.Retired.{Retired}
use Rattle.outside.specs.declared.types.End.TheVariants as over
use Rattle.outside.specs.declared.types.Peer.{Peer}
use Rattle.waitress_serve.specs.Headline.{Added}

-- the count did not rise
abbrev pub IsStill : ℕ → ℕ → Type 0
IsStill before now = Rose before now → ⊥

-- from the first to the last moment of the net it isn't longer than so many seconds
abbrev pub IsBrief : {L P : Type 0} → ℕ → NetState L P → Type 0
IsBrief timeout net = IfSome net.first (λ first. last_moment net.last ≤ first + timeout)

-- it was sent all that it is owed, or was refused memory, unless its link failed
abbrev pub IsAnswered : {L : Type 0} → (L → LinkState) → (L → ℕ) → (Peer → Input → Owed) →
    Retired L → Type 0
IsAnswered state faults owed entry = faults entry.link ≡ 0 →
    (entry.end ≡ over.NoMemory) ⊎ ((entry.end ≡ over.Done)
    × ((state entry.link).sent ≡ (owed entry.peer (state entry.link).arrivals).output))

-- The status is 0, or 5 for want of memory; with 0 each connection was answered.
pub record Completes {L : Type 0} (state : L → LinkState) (faults : L → ℕ)
    (owed : Peer → Input → Owed)
    (status : ℕ) (old new : List (Retired L)) : Type 0 where
  pub status_is : (status ≡ 0) ⊎ (status ≡ 5)
  pub answered : status ≡ 0 → Added (IsAnswered state faults owed) old new
