-- What a command leaves of the connections that came.
use Rattle.std.specs.Prelude.{◌≡◌, ◌≢◌, ◌≤◌, ◌+◌, ◌-◌, ◌⊎◌, ℕ, List, ◌++◌, length, Option, None}
use Rattle.std.specs.Prelude.{Some, IsPermutation}
use Rattle.outside.specs.Causes.{Rose, added}
use Rattle.outside.specs.Net.{NetState, Poll}
use Rattle.outside.specs.declared.retired.Retired.{Retired}
use Rattle.outside.specs.declared.types.End.TheVariants as over
use Rattle.outside.specs.declared.types.Peer.{Peer}
use Rattle.poll_loop.specs.Accounts.{IsShutDown, retired_of}
use Rattle.poll_loop.specs.Entries.{Grounds, app_faults, spill_faults}
use Rattle.poll_loop.specs.Lists.{EachIs}
use Rattle.waitress_serve.specs.Status.{ToldStop}

-- a list grew by items that all hold
pub record Added {E : Type 0} (Holds : E → Type 0) (old new : List E) : Type 0 where
  pub entries : List E
  pub whole : new ≡ old ++ entries
  pub each : EachIs Holds entries

-- why the whole server went down, and why a run of the application broke
abbrev pub grounds : Type 0 → Type 0 → Grounds
grounds down broke = record { shutdown = down; broke = broke }

-- Why the whole server may go down while a connection is open: a poll told to stop, or the net
-- failed, or memory was refused, or the text that says so could not be written.
abbrev pub WentDown : {L P : Type 0} → ℕ → NetState L P → NetState L P → ℕ → ℕ → Type 0
WentDown status old new before now =
    ToldStop old new ⊎ ((status ≡ 4) ⊎ ((status ≡ 5) ⊎ ((status ≡ 6) × Rose before now)))

-- For each that was retired for a fault of a spill, such a spill was settled, and is counted.
pub record SettlesSpills {L : Type 0} (before now : ℕ) (old new : List (Retired L)) : Type 0 where
  pub entries : List (Retired L)
  pub whole : new ≡ old ++ entries
  pub counted : added before (spill_faults entries) ≤ now

-- For each that was retired for a fault of the application, the entry of its run was settled, and
-- is counted.
pub record SettlesRuns {L : Type 0} (before now : ℕ) (old new : List (Retired L)) : Type 0 where
  pub entries : List (Retired L)
  pub whole : new ≡ old ++ entries
  pub counted : added before (app_faults entries) ≤ now

-- The links that came are those that were retired, each with its own peer and plan.
pub record RetiresGiven {L P : Type 0} (plan : L → P) (old new : NetState L P) : Type 0 where
  pub given : List (Peer × P)
  pub entries : List (Retired L)
  pub came : new.given ≡ old.given ++ given
  pub retired : new.closed ≡ old.closed ++ entries
  pub same : IsPermutation given (retired_of plan entries)

-- no more connections came than are to be served at all
abbrev pub KeepsLimit : {L P : Type 0} → Option ℕ → NetState L P → NetState L P → Type 0
KeepsLimit None old new = Unit {0}
KeepsLimit (Some limit) old new = length new.given ≤ length old.given + limit

-- Those that were shut down come last. They were open when serving ended: the last poll found them
-- open, or they were accepted since.
pub record ShutLast {L P : Type 0} (old new : NetState L P) : Type 0 where
  pub poll : Poll P
  pub last : new.last ≡ Some poll
  pub accepted : length poll.given ≤ length new.given
  pub before : List (Retired L)
  pub after : List (Retired L)
  pub whole : new.closed ≡ old.closed ++ (before ++ after)
  pub earlier : EachIs (λ e. e.end ≢ over.ShutDown) before
  pub shut : EachIs IsShutDown after
  pub were_open : length after + old.live ≤ poll.live + (length new.given - length poll.given)
