-- Internal: what the parts of a turn do to the connections.
use Rattle.std.specs.Prelude.{◌≡◌, ◌≤◌, ◌<◌, ◌+◌, ◌⊎◌, ℕ, Bool, true, false, IsTrue, List, [], ◌∷◌}
use Rattle.std.specs.Prelude.{◌++◌, length, map, take, Option, None, Some, IsPermutation}
use Rattle.std.specs.Prelude.{vec_capacity}
use Rattle.std.specs.List.{list_any}
use Rattle.channel.specs.Owed.{owed_by}
use Rattle.channel.specs.Output.{Script}
use Rattle.channel.specs.Views.{fresh, Telling, telling}
use Rattle.outside.specs.Causes.{Rose}
use Rattle.outside.specs.Link.{opened}
use Rattle.outside.specs.Net.{NetState, asked_of, last_moment}
use Rattle.outside.specs.declared.link.Link.{Ghosts as Links}
use Rattle.outside.specs.declared.net.Net.{Ghosts as Nets}
use Rattle.outside.specs.declared.retired.Retired.{Retired}
use Rattle.outside.specs.declared.spill.Spill.{Ghosts as Spills}
use Rattle.outside.specs.declared.spill.Spills.{Ghosts as Stores}
use Rattle.wsgi.specs.declared.app.App.{Ghosts as Apps}
use Rattle.wsgi.specs.declared.app.AppRun.{Ghosts as Runs}
use Rattle.outside.specs.declared.types.Peer.{Peer}
use Rattle.outside.specs.declared.types.Want.{Want}
use Rattle.poll_loop.specs.Accounts.{Accounts, IsShutDown, books, retired_of}
use Rattle.poll_loop.specs.Entries.{EntryHolds, Grounds, IsTimely, IsWithin, Service}
use Rattle.poll_loop.specs.Lists.{EachIs}
use Rattle.poll_loop.specs.NoIdle.{Answers, Nudges}
use Rattle.poll_loop.specs.Seat.{Eyes, SeatRests, eyes_of, is_open}
use Rattle.poll_loop.specs.Settings.{AreUsable, fixed_by, is_below}
use Rattle.poll_loop.specs.declared.accepting.Opening.{Opening}
use Rattle.poll_loop.specs.declared.connections.Came.{Came}
use Rattle.poll_loop.specs.declared.connections.Came.TheVariants as came
use Rattle.poll_loop.specs.declared.connections.Connections.{Connections}
use Rattle.poll_loop.specs.declared.seat.Mark.{Mark}
use Rattle.poll_loop.specs.declared.seat.Mark.TheVariants as mark
use Rattle.poll_loop.specs.declared.seat.Seat.{Seat}
use Rattle.poll_loop.specs.declared.settings.ServeFault.{ServeFault}
use Rattle.poll_loop.specs.declared.settings.ServeFault.TheVariants as fault
use Rattle.poll_loop.specs.declared.settings.Settings.{Settings}

-- ---- by what connections are judged

-- what a server with these settings and this application serves by
abbrev pub service_by : {A : Type 0} → Telling → (A → Script) → Settings → A → Service
service_by tells script settings app = record {
  tells = tells;
  timeout = settings.window.timeout;
  owed = λ peer x. owed_by script (fixed_by settings app peer) x;
}

-- some run has failed to reach what it reads or writes
abbrev pub HasBroken : {R : Type 0} → (R → ℕ) → Type 0
HasBroken {R} faults = (run : R) × (0 < faults run)

-- nobody is shut down while serving goes on
abbrev pub going_on : Type 0 → Grounds
going_on broke = record { shutdown = ⊥; broke = broke }

abbrev pub shutting_down : Type 0 → Grounds
shutting_down broke = record { shutdown = Unit {0}; broke = broke }

-- What holds of an entry while serving goes on, and where the server goes down: by the kinds of
-- links, of spills, of the application and of its runs.
abbrev pub holds_on : {L P S A R : Type 0} → Links L P → Spills S → Apps A S R → Runs R S →
    Settings → A → NetState L P → Retired L → Type 0
holds_on link spill app run settings a =
    EntryHolds (service_by (telling link.tells spill.tells app.tells) app.script settings a)
    (going_on (HasBroken run.faults)) link.state link.faults

abbrev pub holds_down : {L P S A R : Type 0} → Links L P → Spills S → Apps A S R → Runs R S →
    Settings → A → NetState L P → Retired L → Type 0
holds_down link spill app run settings a =
    EntryHolds (service_by (telling link.tells spill.tells app.tells) app.script settings a)
    (shutting_down (HasBroken run.faults)) link.state link.faults

-- ---- the seats

-- who has a seat, by peer and plan
abbrev pub seated : {L P A S R : Type 0} → Eyes L P → List (Seat L A S P R) → List (Peer × P)
seated e seats = map (λ seat. (seat.lane.peer, e.plan seat.lane.link)) seats

abbrev pub is_kept : {L P A S R : Type 0} → Seat L A S P R → Bool
is_kept seat = is_open seat.mark

-- its channel was opened by these settings and this application
abbrev pub IsOpenedBy : {L P A S R : Type 0} → Settings → A → Seat L A S P R → Type 0
IsOpenedBy settings app seat = seat.lane.fixed ≡ fixed_by settings app seat.lane.peer

-- what came on its link, and the last touch, are of moments of the net
abbrev pub SeatIsTimely : {L P A S R : Type 0} → Eyes L P → NetState L P → Seat L A S P R → Type 0
SeatIsTimely e net seat = IsTrue e.tells → IsTimely net (e.state seat.lane.link)

-- ---- counts

-- how many came and went, where that is limited
abbrev pub Counted : Option ℕ → ℕ → ℕ → ℕ → Type 0
Counted None accepted retired open' = Unit {0}
Counted (Some limit) accepted retired open' = (accepted ≤ limit) × (retired + open' ≡ accepted)

-- so many more came, where that is limited
abbrev pub CameMore : Option ℕ → ℕ → ℕ → ℕ → ℕ → Type 0
CameMore None before now given given' = Unit {0}
CameMore (Some limit) before now given given' = now + given ≡ before + given'

-- ---- the net

-- nothing was polled
pub record SamePolls {L P : Type 0} (old new : NetState L P) : Type 0 where
  pub polls : new.polls ≡ old.polls
  pub stopped : new.stopped ≡ old.stopped
  pub first : new.first ≡ old.first
  pub last : new.last ≡ old.last

-- only retire was called
pub record OnlyRetires {L P : Type 0} (old new : NetState L P) : Type 0 where
  pub same : new ≡ record old { closed = new.closed; live = new.live }
  pub fewer : new.live ≤ old.live

-- a poll or accept failed, or memory was refused
abbrev pub FaultCause : Option ServeFault → ℕ → ℕ → Type 0
FaultCause (Some fault.Net) before now = Rose before now
FaultCause (Some fault.NoMemory) before now = now ≡ before
FaultCause None before now = now ≡ before

-- ---- accepting

-- connections came and have seats
pub record Takes {L P A S R : Type 0} (e : Eyes L P) (settings : Settings) (app : A) (now : ℕ)
    (olds news : List (Seat L A S P R)) : Type 0 where
  pub came : List (Seat L A S P R)
  pub are : news ≡ olds ++ came
  pub rest : EachIs (SeatRests e settings.window) came
  pub by : EachIs (IsOpenedBy settings app) came
  pub opened : EachIs (λ seat. IsTrue e.tells → e.state seat.lane.link ≡ opened now) came
  pub faultless : EachIs (λ seat. e.faults seat.lane.link ≡ 0) came
  pub shown : EachIs (λ seat. seat.lane.shown ≡ fresh now) came

-- one more connection has a seat
pub record SeatsOne {L P A S R : Type 0} (e : Eyes L P) (settings : Settings) (app : A) (now : ℕ)
    (link : L)
    (peer : Peer) (olds news : List (Seat L A S P R)) : Type 0 where
  pub seat : Seat L A S P R
  pub are : news ≡ olds ++ seat ∷ []
  pub link_is : seat.lane.link ≡ link
  pub peer_is : seat.lane.peer ≡ peer
  pub shown : seat.lane.shown ≡ fresh now
  pub rests : SeatRests e settings.window seat
  pub by : IsOpenedBy settings app seat

-- the net was asked: a connection came, or it put off
abbrev pub CameBy : {L P : Type 0} → Came → NetState L P → NetState L P → Type 0
CameBy came.One old new = Rose old.asked new.asked × (length old.given < length new.given)
    × (new.put_off ≡ old.put_off)
CameBy came.Nobody old new = Rose old.asked new.asked × Rose old.put_off new.put_off
CameBy came.Failed old new = Unit {0}
CameBy came.NoMemory old new = Unit {0}

-- the same of all that came in a turn
abbrev pub CameAll : {L P : Type 0} → Came → NetState L P → NetState L P → Type 0
CameAll came.One old new = Answers old new
CameAll came.Nobody old new = Answers old new
CameAll came.Failed old new = Unit {0}
CameAll came.NoMemory old new = Unit {0}

-- nobody waits behind an accept that gave nobody
abbrev pub LeavesNobody : Came → Type 0 → Type 0
LeavesNobody came.Nobody nobody = nobody
LeavesNobody came.One nobody = Unit {0}
LeavesNobody came.Failed nobody = Unit {0}
LeavesNobody came.NoMemory nobody = Unit {0}

-- The net was asked until nobody was left, unless so many came as there was room for beside those
-- that were open, or all that are to be served were accepted.
abbrev pub AcceptsAll : {L P : Type 0} → Settings → Type 0 → ℕ → ℕ → NetState L P → NetState L P →
    Type 0
AcceptsAll settings nobody open' accepted old new = nobody
    ⊎ ((settings.connection_limit + length old.given ≤ open' + length new.given)
    ⊎ (is_below settings.serve_limit accepted ≡ false))

-- the same unless accepting failed
abbrev pub CameUntil : {L P : Type 0} → Came → Settings → Type 0 → ℕ → ℕ → NetState L P →
    NetState L P → Type 0
CameUntil came.One settings nobody open' accepted old new =
    AcceptsAll settings nobody open' accepted old new
CameUntil came.Nobody settings nobody open' accepted old new =
    AcceptsAll settings nobody open' accepted old new
CameUntil came.Failed settings nobody open' accepted old new = Unit {0}
CameUntil came.NoMemory settings nobody open' accepted old new = Unit {0}

-- the count of poll and accept rises only where accept failed
abbrev pub CameCause : Came → ℕ → ℕ → Type 0
CameCause came.Failed before now = Rose before now
CameCause came.One before now = now ≡ before
CameCause came.Nobody before now = now ≡ before
CameCause came.NoMemory before now = now ≡ before

-- the room for a run of each that is open
abbrev pub HasShelf : {L A S P R : Type 0} → Connections L A S P R → Type 0
HasShelf connections =
    length connections.fallen.items + length connections.seats.items ≤ vec_capacity
    connections.fallen

-- how many came and went is how many are open, where that is limited
abbrev pub IsCounted : {L A S P R : Type 0} → Settings → Connections L A S P R → Type 0
IsCounted settings connections = Counted settings.serve_limit connections.accepted
    connections.retired (length connections.seats.items)

-- so many more came as were counted
abbrev pub CountsMore : {N L A S P R : Type 0} → Settings → Connections L A S P R →
    Connections L A S P R → NetState N P → NetState N P → Type 0
CountsMore settings old new net net' = CameMore settings.serve_limit old.accepted new.accepted
    (length net.given) (length net'.given)

-- what accepting asks of the settings, of the moment and of those that are open
pub record CanAdmit {L A S P R : Type 0} (tells : Bool) (opening : Opening A) (net : NetState L P)
    (connections : Connections L A S P R) : Type 0 where
  pub usable : AreUsable opening.settings.now
  pub shelf : HasShelf connections
  pub within : IsTrue tells → IsWithin net opening.moment
  pub counted : IsCounted opening.settings.now connections

-- the accounts of accepting, by the kinds of links, of spills, of the application and of its runs
abbrev pub Admits : {L P S A R : Type 0} → Links L P → Spills S → Apps A S R → Runs R S →
    Opening A → Connections L A S P R → Connections L A S P R → NetState L P → NetState L P → ℕ →
    ℕ → Type 0
Admits link spill app run opening old new net net' faults faults' =
    Accounts (holds_on link spill app run opening.settings.now opening.app.now) link.plan
    (books net faults (length old.fallen.items) (seated (eyes_of link) old.seats.items))
    (books net' faults' (length new.fallen.items) (seated (eyes_of link) new.seats.items))

-- what accepting leaves as it was, and room for a run of each that is open
pub record Stays {N K M L A S P R : Type 0} (net : Nets N L M P) (stores : Stores K S)
    (old new : Connections L A S P R) (n n' : N) (k k' : K) : Type 0 where
  pub bind : net.bind_faults n' ≡ net.bind_faults n
  pub plan : net.plan n' ≡ net.plan n
  pub moment : net.moment n' ≡ net.moment n
  pub shelf : HasShelf new
  pub fallen : new.fallen.items ≡ old.fallen.items
  pub spills : stores.faults k' ≡ stores.faults k

-- ---- shutting down

-- Those that were open were shut down, and nothing else was done.
pub record ShutsDown {L P : Type 0} (Holds : Retired L → Type 0) (plan : L → P)
    (who : List (Peer × P)) (old new : NetState L P) : Type 0 where
  pub entries : List (Retired L)
  pub state : new ≡ record old { closed = old.closed ++ entries; live = new.live }
  pub each : EachIs Holds entries
  pub shut : EachIs IsShutDown entries
  pub same : IsPermutation who (retired_of plan entries)
  pub live : new.live + length entries ≡ old.live

-- ---- a turn

abbrev pub works : Mark → Bool
works mark.Works = true
works mark.Rests = false
works (mark.Over end) = false

-- the wants of all, and one that asks nothing where one of them has a step to make
pub record Gathers {L A S P R : Type 0} (seats : List (Seat L A S P R)) (wants : List Want) : Type 0
  where
    pub nudge : List Want
    pub are : wants ≡ map (λ seat. seat.want) seats ++ nudge
    pub nudges : Nudges (list_any (λ seat. works seat.mark) seats) nudge

-- this is the moment of the last turn, and lies behind the first
pub record IsNow {L P : Type 0} (net : NetState L P) (now : ℕ) : Type 0 where
  pub last : last_moment net.last ≡ now
  pub within : IsWithin net now

-- the first so many wants are those of the seats, as a poll left them
pub record IsAsked {L A S P R : Type 0} (seats : List (Seat L A S P R)) (asked : ℕ)
    (wants : List Want) : Type 0 where
  pub all : asked ≡ length seats
  pub asks : map asked_of (take asked wants) ≡ map (λ seat. asked_of seat.want) seats
