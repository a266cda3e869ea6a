-- What serving leaves of the net: who came, who was retired, and who is open.
use Rattle.std.specs.Prelude.{◌≡◌, ◌≤◌, ◌+◌, ◌-◌, ◌⊎◌, ℕ, IsTrue, List, [], ◌++◌, length, map}
use Rattle.std.specs.Prelude.{Option, Some, Result, Ok, Err, IsPermutation}
use Rattle.outside.specs.Causes.{Rose, added}
use Rattle.outside.specs.Net.{NetState, Poll, last_moment}
use Rattle.outside.specs.declared.retired.Retired.{Retired}
use Rattle.outside.specs.declared.types.End.TheVariants as over
use Rattle.outside.specs.declared.types.Peer.{Peer}
use Rattle.poll_loop.specs.Entries.{app_faults, spill_faults}
use Rattle.poll_loop.specs.Lists.{EachIs}
use Rattle.poll_loop.specs.declared.settings.Going.{Going}
use Rattle.poll_loop.specs.declared.settings.Going.TheVariants as going
use Rattle.poll_loop.specs.declared.settings.ServeFault.{ServeFault}
use Rattle.poll_loop.specs.declared.settings.ServeFault.TheVariants as fault

-- What is known at a moment: the net, the faults of the spills that were settled, how many runs
-- broke, and who is open, by peer and plan.
pub record Books (L P : Type 0) : Type 0 where
  pub net : NetState L P
  pub spills : ℕ
  pub fallen : ℕ
  pub who : List (Peer × P)

abbrev pub books : {L P : Type 0} → NetState L P → ℕ → ℕ → List (Peer × P) → Books L P
books net spills fallen who = record { net = net; spills = spills; fallen = fallen; who = who }

-- the peers of some entries, and what their links were made from
abbrev pub retired_of : {L P : Type 0} → (L → P) → List (Retired L) → List (Peer × P)
retired_of plan entries = map (λ e. (e.peer, plan e.link)) entries

-- the first moment stays, and the last one never falls
pub record TimeGoesOn {L P : Type 0} (old new : NetState L P) : Type 0 where
  pub first : (moment : ℕ) → old.first ≡ Some moment → new.first ≡ Some moment
  pub later : last_moment old.last ≤ last_moment new.last

-- Who was open or came since was retired or is open, each with its own peer and plan; a spill was
-- settled for each fault of one, and a run kept for each fault of the application.
pub record Accounts {L P : Type 0} (Holds : NetState L P → Retired L → Type 0) (plan : L → P)
    (old new : Books L P) : Type 0 where
  pub entries : List (Retired L)
  pub closed : new.net.closed ≡ old.net.closed ++ entries
  pub each : EachIs (Holds new.net) entries
  pub since : List (Peer × P)
  pub given : new.net.given ≡ old.net.given ++ since
  pub same : IsPermutation (old.who ++ since) (retired_of plan entries ++ new.who)
  pub live : new.net.live + length old.who ≡ old.net.live + length new.who
  pub spilled : added old.spills (spill_faults entries) ≤ new.spills
  pub fell : new.fallen ≡ old.fallen + app_faults entries
  pub bound : new.net.bound ≡ old.net.bound
  pub quiet : new.net.quiet ≡ old.net.quiet
  pub polls : old.net.polls ≤ new.net.polls
  pub time : TimeGoesOn old.net new.net

-- no more links are open than the last poll found, or were accepted since
pub record LastKnows {L P : Type 0} (net : NetState L P) : Type 0 where
  pub poll : Poll P
  pub last : net.last ≡ Some poll
  pub accepted : length poll.given ≤ length net.given
  pub open' : net.live ≤ poll.live + (length net.given - length poll.given)

-- it was shut down with the server
abbrev pub IsShutDown : {L : Type 0} → Retired L → Type 0
IsShutDown entry = entry.end ≡ over.ShutDown

-- ---- why serving ended

-- only a poll or accept that failed raises the net's count of them
abbrev pub ServeCause : Result Going ServeFault → ℕ → ℕ → Type 0
ServeCause (Err fault.Net) before now = Rose before now
ServeCause (Err fault.NoMemory) before now = now ≡ before
ServeCause (Ok going) before now = now ≡ before

-- the last poll told to stop, behind which nobody was accepted; a quiet net told so while nothing
-- was open
pub record Stops {L P : Type 0} (old new : NetState L P) : Type 0 where
  pub stopped : IsTrue new.stopped
  pub polled : Rose old.polls new.polls
  pub poll : Poll P
  pub last : new.last ≡ Some poll
  pub told : IsTrue poll.turn.stop
  pub given : new.given ≡ poll.given
  pub empty : IsTrue old.quiet → poll.live ≡ 0

-- so many connections as are to be served were accepted; before is how many were accepted earlier
pub record IsMet {L P : Type 0} (limit : Option ℕ) (before : ℕ) (old new : NetState L P) : Type 0
  where
    pub count : ℕ
    pub limited : limit ≡ Some count
    pub met : length old.given + count ≡ before + length new.given

-- a poll that told to stop, or a met limit; where neither ended it, no poll told to stop
abbrev pub ServeEnds : {L P : Type 0} → Result Going ServeFault → Option ℕ → ℕ → NetState L P →
    NetState L P → Type 0
ServeEnds (Ok going.Stopped) limit before old new = Stops old new
ServeEnds (Ok going.LimitMet) limit before old new =
    IsMet limit before old new × (IsTrue new.stopped → IsTrue old.stopped)
ServeEnds (Ok going.On) limit before old new = IsTrue new.stopped → IsTrue old.stopped
ServeEnds (Err why) limit before old new = IsTrue new.stopped → IsTrue old.stopped

-- nobody was shut down, where serving did not end by a stop or a fault
abbrev pub NobodyShut : {L : Type 0} → Result Going ServeFault → List (Retired L) → Type 0
NobodyShut (Ok going.LimitMet) after = after ≡ []
NobodyShut (Ok going.Stopped) after = Unit {0}
NobodyShut (Ok going.On) after = ⊥
NobodyShut (Err why) after = Unit {0}

-- Serving ended: nobody is open of those that were, and those that came; the last ones were shut
-- down.
pub record Served {L P : Type 0} (result : Result Going ServeFault)
    (Holds Last : NetState L P → Retired L → Type 0) (plan : L → P) (old new : Books L P) : Type 0
  where
    pub before : List (Retired L)
    pub after : List (Retired L)
    pub closed : new.net.closed ≡ old.net.closed ++ (before ++ after)
    pub each : EachIs (Holds new.net) before
    pub last : EachIs (Last new.net) after
    pub shut : EachIs IsShutDown after
    pub nobody : NobodyShut result after
    pub since : List (Peer × P)
    pub given : new.net.given ≡ old.net.given ++ since
    pub same : IsPermutation (old.who ++ since) (retired_of plan (before ++ after))
    pub live : new.net.live + length old.who ≡ old.net.live
    pub spilled : added old.spills (spill_faults (before ++ after)) ≤ new.spills
    pub fell : new.fallen ≡ old.fallen + app_faults (before ++ after)
    pub bound : new.net.bound ≡ old.net.bound
    pub quiet : new.net.quiet ≡ old.net.quiet
    pub polls : old.net.polls ≤ new.net.polls
    pub time : TimeGoesOn old.net new.net
    -- those that were shut down were open at the last poll, or came since
    pub knows : (old.who ≡ []) ⊎ LastKnows old.net →
        (new.net.closed ≡ old.net.closed) ⊎ LastKnows (record new.net
        { live = new.net.live + length after })
