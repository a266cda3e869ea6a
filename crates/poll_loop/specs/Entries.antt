-- What a server owes to each connection that it retired.
use Rattle.std.specs.Prelude.{◌≡◌, ◌≤◌, ◌<◌, ℕ, Bool, IsTrue, true, false, List, length, filter}
use Rattle.std.specs.Prelude.{Some}
use Rattle.channel.specs.Output.{Input, IsPrefix}
use Rattle.channel.specs.Views.{IsServed, Owed, Telling, WaitedTooLong}
use Rattle.outside.specs.Link.{LinkState}
use Rattle.outside.specs.Net.{NetState, last_moment}
use Rattle.outside.specs.declared.retired.Retired.{Retired}
use Rattle.outside.specs.declared.types.End.{End}
use Rattle.outside.specs.declared.types.End.TheVariants as over
use Rattle.outside.specs.declared.types.Peer.{Peer}
use Rattle.poll_loop.specs.Lists.{EachIs}

-- a moment lies between the first and the last moment of a net
pub record IsWithin {L P : Type 0} (net : NetState L P) (moment : ℕ) : Type 0 where
  pub first : ℕ
  pub began : net.first ≡ Some first
  pub since : first ≤ moment
  pub until : moment ≤ last_moment net.last

-- what came, and the last touch, lie between the first and the last moment of the net
pub record IsTimely {L P : Type 0} (net : NetState L P) (link : LinkState) : Type 0 where
  pub came : EachIs (λ p. IsWithin net p.0) link.arrivals
  pub touched : IsWithin net link.touched

-- What connections are served by: which of its parts tell, after how long an idle one ends, and
-- what a peer is owed for what it sent.
pub record Service : Type 0 where
  pub tells : Telling
  pub timeout : ℕ
  pub owed : Peer → Input → Owed

-- Why serving may end connections that are not done, and did nothing: the whole server went down,
-- or the run of an application broke.
pub record Grounds : Type 1 where
  pub shutdown : Type 0
  pub broke : Type 0

-- Why a link was retired. A fault of a spill is counted by the spills.
abbrev pub EndHolds : {L P : Type 0} → Service → Grounds → NetState L P → LinkState → ℕ → Owed →
    End → Type 0
EndHolds service grounds net link faults owed over.Done = IsTrue service.tells.all →
    IsServed link owed
EndHolds service grounds net link faults owed over.LinkFault = 0 < faults
EndHolds service grounds net link faults owed over.SpillFault = Unit {0}
EndHolds service grounds net link faults owed over.AppFault = grounds.broke
EndHolds service grounds net link faults owed over.NoMemory = Unit {0}
EndHolds service grounds net link faults owed (over.TimedOut touched now) =
    WaitedTooLong service.tells service.timeout link owed touched now × (now ≤ last_moment net.last)
EndHolds service grounds net link faults owed over.ShutDown = grounds.shutdown

-- A retired link was sent a prefix of what is owed for what arrived there, at moments of the net,
-- and its end has its cause.
pub record EntryHolds {L P : Type 0} (service : Service) (grounds : Grounds) (state : L → LinkState)
    (faults : L → ℕ) (net : NetState L P) (entry : Retired L) : Type 0 where
  pub prefix : IsTrue service.tells.all →
      IsPrefix (state entry.link).sent (service.owed entry.peer (state entry.link).arrivals).output
  pub timely : IsTrue service.tells.link → IsTimely net (state entry.link)
  pub cause : EndHolds service grounds net (state entry.link) (faults entry.link)
      (service.owed entry.peer (state entry.link).arrivals) entry.end

-- ---- counts of ends

abbrev pub is_spill_fault : End → Bool
is_spill_fault over.SpillFault = true
is_spill_fault over.Done = false
is_spill_fault over.LinkFault = false
is_spill_fault over.NoMemory = false
is_spill_fault over.ShutDown = false
is_spill_fault over.AppFault = false
is_spill_fault (over.TimedOut touched now) = false

abbrev pub is_app_fault : End → Bool
is_app_fault over.AppFault = true
is_app_fault over.SpillFault = false
is_app_fault over.Done = false
is_app_fault over.LinkFault = false
is_app_fault over.NoMemory = false
is_app_fault over.ShutDown = false
is_app_fault (over.TimedOut touched now) = false

-- how many were retired for a fault of a spill
abbrev pub spill_faults : {L : Type 0} → List (Retired L) → ℕ
spill_faults entries = length (filter (λ e. is_spill_fault e.end) entries)

-- how many were retired for a fault of the application
abbrev pub app_faults : {L : Type 0} → List (Retired L) → ℕ
app_faults entries = length (filter (λ e. is_app_fault e.end) entries)
