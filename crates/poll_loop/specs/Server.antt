-- A server between two turns.
use Rattle.std.specs.Prelude.{◌≡◌, ◌≤◌, ◌<◌, ◌+◌, ◌⊎◌, ℕ, All, IsTrue, List, [], false, ◌++◌}
use Rattle.std.specs.Prelude.{filter, length, map, nat_le, vec_capacity, Option, None, Some, Result}
use Rattle.std.specs.Prelude.{Ok, Err}
use Rattle.channel.specs.Views.{View, is_late}
use Rattle.outside.specs.Net.{NetState}
use Rattle.outside.specs.declared.link.Link.{Ghosts as Links}
use Rattle.outside.specs.declared.net.Net.{Ghosts as Nets}
use Rattle.outside.specs.declared.spill.Spill.{Ghosts as Spills}
use Rattle.outside.specs.declared.spill.Spills.{Ghosts as Stores}
use Rattle.outside.specs.declared.types.Peer.{Peer}
use Rattle.outside.specs.declared.types.Turn.{Turn}
use Rattle.outside.specs.declared.types.Want.{Want}
use Rattle.outside.specs.declared.retired.Retired.{Retired}
use Rattle.wsgi.specs.declared.app.App.{Ghosts as Apps}
use Rattle.wsgi.specs.declared.app.AppRun.{Ghosts as Runs}
use Rattle.poll_loop.specs.Accounts.{Accounts, Books, IsMet, LastKnows, ServeCause, Served, Stops}
use Rattle.poll_loop.specs.Accounts.{books}
use Rattle.poll_loop.specs.Connections.{CameMore, Counted, IsOpenedBy, SamePolls, holds_down}
use Rattle.poll_loop.specs.Connections.{holds_on, is_kept}
use Rattle.poll_loop.specs.Lists.{EachIs}
use Rattle.poll_loop.specs.NoIdle.{Answers, Asks, Case, IsFresh, Serving, checked_after, checked_by}
use Rattle.poll_loop.specs.NoIdle.{kept, views, who}
use Rattle.poll_loop.specs.Seat.{Eyes, Labours, SeatRests, eyes_of}
use Rattle.poll_loop.specs.Settings.{AreUsable, is_below}
use Rattle.poll_loop.specs.declared.seat.Seat.{Seat}
use Rattle.poll_loop.specs.declared.server.Server.{Server}
use Rattle.poll_loop.specs.declared.settings.Going.{Going}
use Rattle.poll_loop.specs.declared.settings.Going.TheVariants as going
use Rattle.poll_loop.specs.declared.settings.ServeFault.{ServeFault}
use Rattle.poll_loop.specs.declared.turning.Why.{Why}
use Rattle.poll_loop.specs.declared.turning.Why.TheVariants as why

-- a server as contracts see it
abbrev pub serving : {N A P L M B R S : Type 0} → Server N A P L M B R S → Serving L A R
serving s = record {
  app = s.app.now;
  settings = s.settings.now;
  open' = map (λ seat. seat.lane) s.connections.seats.items;
  accepted = s.connections.accepted;
  retired = s.connections.retired;
  checked = s.checked;
  fallen = s.connections.fallen.items;
}

-- Between two turns each connection rests on what the settings ask, and no more are open than may
-- be.
pub record Stands {N A P L M B R S : Type 0} (e : Eyes L B) (run_faults : R → ℕ)
    (s : Server N A P L M B R S) : Type 0 where
  pub usable : AreUsable s.settings.now
  pub rest : EachIs (SeatRests e s.settings.now.window) s.connections.seats.items
  pub by : EachIs (IsOpenedBy s.settings.now s.app.now) s.connections.seats.items
  pub room : length s.connections.fallen.items + length s.connections.seats.items ≤ vec_capacity
      s.connections.fallen
  pub broke : All (λ run. 0 < run_faults run) s.connections.fallen.items
  pub recv : length s.rooms.recv.items ≡ s.settings.now.window.recv_bytes
  pub within : length s.connections.seats.items ≤ s.settings.now.connection_limit
  pub counted : Counted s.settings.now.serve_limit s.connections.accepted s.connections.retired
      (length s.connections.seats.items)

-- ---- what serving leaves

-- the books of a server and the net that it is lent
abbrev pub booked : {L P A R : Type 0} → Eyes L P → NetState L P → ℕ → Serving L A R → Books L P
booked e net spills s = books net spills (length s.fallen) (who e s)

-- ---- the parts of a turn

-- what a turn doesn't change
pub record IsSameServer {N A P L M B R S : Type 0} (old new : Server N A P L M B R S) : Type 0 where
  pub app : new.app ≡ old.app
  pub settings : new.settings ≡ old.settings

-- the last poll found what was open before, and nothing was retired; or it knows who is open
pub record KnowsStill {L P : Type 0} (old new : Books L P) : Type 0 where
  pub still : LastKnows old.net → LastKnows new.net
  pub either : ((new.net.closed ≡ old.net.closed) × (new.who ≡ old.who)) ⊎ LastKnows new.net

-- how a turn ended serving
abbrev pub answer_of : Why → Result Going ServeFault
answer_of why.Stopped = Ok going.Stopped
answer_of why.LimitMet = Ok going.LimitMet
answer_of (why.Failed fault) = Err fault

-- only a poll or accept that failed raises the net's count of them
abbrev pub StepCause : Option Why → ℕ → ℕ → Type 0
StepCause None before now = now ≡ before
StepCause (Some why) before now = ServeCause (answer_of why) before now

-- why serving ends with a turn; before is how many were accepted earlier
abbrev pub StepEnds : {L P : Type 0} → Option Why → Option ℕ → ℕ → Books L P → Books L P → Type 0
StepEnds None limit before old new = (new.net.stopped ≡ false) × LastKnows new.net
StepEnds (Some why.Stopped) limit before old new = Stops old.net new.net
StepEnds (Some why.LimitMet) limit before old new =
    IsMet limit before old.net new.net × (new.net.stopped ≡ false) × (new.who ≡ [])
StepEnds (Some (why.Failed fault)) limit before old new = IsTrue new.net.stopped →
    IsTrue old.net.stopped

-- What is told of a turn, whether or not serving ends with it; before and now are how many were
-- accepted.
pub record Steps {L P : Type 0} (result : Option Why) (Holds : NetState L P → Retired L → Type 0)
    (plan : L → P)
    (limit : Option ℕ) (before now : ℕ) (old new : Books L P) : Type 0 where
  pub accounts : Accounts Holds plan old new
  pub knows : KnowsStill old new
  pub ends : StepEnds result limit before old new
  pub came_more : CameMore limit before now (length old.net.given) (length new.net.given)

-- what serving doesn't change of a server
pub record IsSameServing {L A R : Type 0} (old new : Serving L A R) : Type 0 where
  pub app : new.app ≡ old.app
  pub settings : new.settings ≡ old.settings

-- what serving leaves of a net but for what is told: and no count of spills falls
pub record LeavesRest {N K L P M S : Type 0} (net : Nets N L P M) (stores : Stores K S) (n n' : N)
    (k k' : K) : Type 0 where
  pub bind : net.bind_faults n' ≡ net.bind_faults n
  pub plan : net.plan n' ≡ net.plan n
  pub spills : stores.faults k ≤ stores.faults k'

-- ---- what is told of a server, by the kinds of links, of spills, of the application and its runs

-- a part of a turn behind which serving goes on
abbrev pub KeepsAccounts : {L P S A R F : Type 0} → Links L P → Spills S → Apps A S R → Runs R S →
    Serving L A F → Serving L A F → NetState L P → NetState L P → ℕ → ℕ → Type 0
KeepsAccounts link spill app run old new net net' faults faults' =
    Accounts (holds_on link spill app run old.settings old.app) link.plan
    (booked (eyes_of link) net faults old) (booked (eyes_of link) net' faults' new)

-- a turn, whether or not serving ends with it
abbrev pub StepAccounts : {L P S A R F : Type 0} → Option Why → Links L P → Spills S →
    Apps A S R → Runs R S → Serving L A F → Serving L A F → NetState L P → NetState L P → ℕ → ℕ →
    Type 0
StepAccounts result link spill app run old new net net' faults faults' =
    Steps result (holds_on link spill app run old.settings old.app) link.plan
    old.settings.serve_limit old.accepted new.accepted
    (booked (eyes_of link) net faults old) (booked (eyes_of link) net' faults' new)

-- the end of serving
abbrev pub EndsAccounts : {L P S A R F : Type 0} → Result Going ServeFault → Links L P → Spills S →
    Apps A S R → Runs R S → Serving L A F → Serving L A F → NetState L P → NetState L P → ℕ → ℕ →
    Type 0
EndsAccounts result link spill app run old new net net' faults faults' =
    Served result (holds_on link spill app run old.settings old.app)
    (holds_down link spill app run old.settings old.app) link.plan
    (booked (eyes_of link) net faults old) (booked (eyes_of link) net' faults' new)

-- Each connection that the poll was asked for had its part, and who is over has no seat any more.
pub record WorksOff {N A P L M B R S : Type 0} (e : Eyes L B) (now : ℕ) (wants : List Want)
    (old new : Server N A P L M B R S) : Type 0 where
  pub news : List (Seat L A S B R)
  pub labours : Labours (nat_le (checked_by now old.checked + old.settings.now.cleanup_interval)
      now) e now
      old.settings.now.window wants old.connections.seats.items news
  pub kept : new.connections.seats.items ≡ filter is_kept news
  pub checked : new.checked ≡ checked_after now old.checked old.settings.now.cleanup_interval

-- What a turn does behind its poll, but for what its poll tells.
pub record Carries {L P A R : Type 0} (e : Eyes L P) (wants : List Want) (turn : Turn)
    (before now : Serving L A R) (nobody : Type 0) (old new : NetState L P) : Type 0 where
  pub cases : List Case
  pub were : map (λ c. c.old) cases ≡ views e before
  pub asked : map (λ c. c.ready) cases ≡ wants
  pub each : EachIs (Asks turn.now before.settings.window) cases
  pub came : List View
  pub are : views e now ≡ kept cases ++ came
  pub fresh : EachIs (IsFresh turn.now) came
  pub since : List (Peer × P)
  pub given_since : new.given ≡ old.given ++ since
  pub few : length came ≤ length since
  pub answers : IsTrue turn.come → Answers old new
  -- where somebody came, the net was asked until nobody was left, unless so many came as there is
  -- room for or are to be served
  pub all : IsTrue turn.come → nobody ⊎
      ((before.settings.connection_limit ≤ length before.open' + length since) ⊎
      (is_below before.settings.serve_limit now.accepted ≡ false))
  -- nobody is accepted whom no poll told
  pub uncalled : turn.come ≡ false → new.given ≡ old.given
  pub on_time : checked_by turn.now before.checked + before.settings.cleanup_interval ≤ turn.now →
      EachIs (λ v. is_late turn.now before.settings.window v.shown ≡ false) (views e now)
  pub checked : now.checked ≡ checked_after turn.now before.checked before.settings.cleanup_interval
  pub within : length now.open' ≤ before.settings.connection_limit
  pub unmet : IsTrue (is_below before.settings.serve_limit now.retired)
  pub polls : SamePolls old new
