-- No turn is idle: what a turn does that lets serving go on.
use Rattle.std.specs.Prelude.{◌≡◌, ◌≤◌, ◌<◌, ◌+◌, ◌⊎◌, ◌&&◌, ℕ, Bool, true, false, IsTrue, List, []}
use Rattle.std.specs.Prelude.{◌∷◌, ◌++◌, length, map, nat_le, nat_lt, Option, None, Some, IfSome}
use Rattle.std.specs.Prelude.{if◌then◌else◌}
use Rattle.std.specs.List.{list_any}
use Rattle.channel.specs.Views.{Heard, LinkGoes, Moves, Seen, Spoke, Stamps, Steps, Stirs, View}
use Rattle.channel.specs.Views.{fresh, is_done, is_due, is_late, is_writable, want_of}
use Rattle.channel.specs.declared.types.Window.{Window}
use Rattle.outside.specs.Causes.{Rose, raised}
use Rattle.outside.specs.Link.{opened}
use Rattle.outside.specs.Net.{NetState, Poll, asked_of}
use Rattle.outside.specs.declared.types.Peer.{Peer}
use Rattle.outside.specs.declared.types.Want.{Want}
use Rattle.poll_loop.specs.Entries.{IsTimely}
use Rattle.poll_loop.specs.Lists.{EachIs}
use Rattle.poll_loop.specs.Seat.{Eyes, viewed}
use Rattle.poll_loop.specs.Settings.{is_below}
use Rattle.poll_loop.specs.declared.settings.Settings.{Settings}

-- ---- a server

-- A server as contracts see it: what it goes by, its open connections in the order in which they
-- came, how many it accepted and retired, the moment of its last idle check, or else of its first
-- turn, and the runs that broke.
pub record Serving (L A R : Type 0) : Type 0 where
  pub app : A
  pub settings : Settings
  pub open' : List (Seen L A)
  pub accepted : ℕ
  pub retired : ℕ
  pub checked : Option ℕ
  pub fallen : List R

-- its open channels
abbrev pub views : {L P A R : Type 0} → Eyes L P → Serving L A R → List View
views e s = map (viewed e) s.open'

-- who is open, by peer and plan
abbrev pub who : {L P A R : Type 0} → Eyes L P → Serving L A R → List (Peer × P)
who e s = map (λ lane. (lane.peer, e.plan lane.link)) s.open'

-- whether a turn accepts
abbrev pub is_accepting : {L A R : Type 0} → Serving L A R → Bool
is_accepting s = nat_lt (length s.open') s.settings.connection_limit && is_below
    s.settings.serve_limit s.accepted

-- the moment from which the next idle check is due, in a turn of this moment
abbrev pub checked_by : ℕ → Option ℕ → ℕ
checked_by now None = now
checked_by now (Some moment) = moment

-- the moment from which the next idle check is counted, behind a turn of this moment: this one,
-- where a check was due
abbrev pub checked_after : ℕ → Option ℕ → ℕ → Option ℕ
checked_after now checked interval =
    Some (if nat_le (checked_by now checked + interval) now then now else checked_by now checked)

-- the server's connections are open on the net, and came and were touched at moments of it
pub record Hosts {L P A : Type 0} (e : Eyes L P) (net : NetState L P) (lanes : List (Seen L A)) :
    Type 0 where
  pub room : length lanes ≤ net.live
  pub timely : IsTrue e.tells → EachIs (λ lane. IsTimely net (e.state lane.link)) lanes

-- ---- a turn

-- One channel that was open when the turn began: its want as the poll left it, the channel then,
-- and the channel at the end of the turn, where it was not retired.
pub record Case : Type 0 where
  pub ready : Want
  pub old : View
  pub new : Option View

-- those that stay open
abbrev pub with_kept : Option View → List View → List View
with_kept None rest = rest
with_kept (Some v) rest = v ∷ rest

abbrev pub kept : List Case → List View
kept [] = []
kept (c ∷ cs) = with_kept c.new (kept cs)

-- What a turn of this moment does to a channel that stays open.
pub record Serves (now : ℕ) (w : Window) (ready : Want) (old new : View) : Type 0 where
  pub key : new.key ≡ old.key
  -- it is retired where it was dead, where it was over, and where its link fails
  pub was_alive : old.shown.dead ≡ None
  pub was_undone : is_done old.shown ≡ false
  pub faultless : new.faults ≡ old.faults
  -- what is ready is asked, and puts off or moves
  pub heard : IsTrue ready.read → IsTrue ready.may_read → Heard old new
  pub spoke : IsTrue ready.write → IsTrue ready.may_write → Spoke old new
  -- what is due makes a step
  pub stepped : IsTrue (is_due w old.shown) → Steps old.shown new.shown
  -- what still waits to be sent was offered to the link, unless nothing was done
  pub offered : IsTrue (is_writable new.shown) → (new ≡ old) ⊎ Spoke old new
  -- what is neither ready nor due is left alone, but an idle check sends what waits to be sent
  pub rested : (ready.read && ready.may_read) ≡ false → (ready.write && ready.may_write) ≡ false →
      is_due w old.shown ≡ false →
      (new ≡ old) ⊎ Spoke old new
  -- what rises has its cause
  pub moves : Moves old.shown new.shown
  pub goes : LinkGoes old new
  -- what came bears the moment of the turn, and so does the last touch where it is new
  pub stamps : Stamps now old.link new.link

-- Each channel that was open wanted something, had something to do or was over; the poll got its
-- want.
pub record Asks (now : ℕ) (w : Window) (c : Case) : Type 0 where
  pub wants : asked_of c.ready ≡ want_of w c.old
  pub stirs : Stirs w c.old.shown
  pub serves : IfSome c.new (λ new. Serves now w c.ready c.old new)

-- A channel that came in a turn of this moment, and to which nothing has happened.
pub record IsFresh (now : ℕ) (v : View) : Type 0 where
  pub link : v.link ≡ opened now
  pub faultless : v.faults ≡ 0
  pub shown : v.shown ≡ fresh now

-- A want that asks nothing tells the net that work is waiting.
abbrev pub AsksNothing : Want → Type 0
AsksNothing want = (want.read ≡ false) × (want.write ≡ false)

-- a channel has a step to make
abbrev pub is_some_due : Window → List View → Bool
is_some_due w vs = list_any (λ v. is_due w v.shown) vs

-- the net is told so behind the wants of the channels, exactly where one has a step to make
abbrev pub Nudges : Bool → List Want → Type 0
Nudges true wants = (length wants ≡ 1) × EachIs AsksNothing wants
Nudges false wants = wants ≡ []

-- where somebody may have come, the net was asked: it put off, or a connection came
abbrev pub Answers : {L P : Type 0} → NetState L P → NetState L P → Type 0
Answers old new = Rose old.asked new.asked ×
    (Rose old.put_off new.put_off ⊎ (length old.closed + old.live < length new.closed + new.live))

-- A turn that lets serving go on. By nobody, nobody waits on the net at its end.
pub record NoIdle {L P A R : Type 0} (e : Eyes L P) (before now : Serving L A R) (nobody : Type 0)
    (old new : NetState L P) : Type 0 where
  -- the one poll: it found the net as the turn did, and did not tell to stop
  pub polled : new.polls ≡ raised old.polls
  pub poll : Poll P
  pub last : new.last ≡ Some poll
  pub unstopped : poll.turn.stop ≡ false
  pub given : poll.given ≡ old.given
  pub live : poll.live ≡ old.live
  pub accepting : poll.accepting ≡ is_accepting before
  -- the channels that were open, one by one, and those that came
  pub cases : List Case
  pub were : map (λ c. c.old) cases ≡ views e before
  pub nudge : List Want
  pub asked : poll.wants ≡ map (λ c. c.ready) cases ++ nudge
  pub nudges : Nudges (is_some_due before.settings.window (views e before)) nudge
  pub each : EachIs (Asks poll.turn.now before.settings.window) cases
  pub came : List View
  pub are : views e now ≡ kept cases ++ came
  -- whom only an idle check can have looked at
  pub fresh : EachIs (IsFresh poll.turn.now) came
  -- a channel that was not open comes by an accept
  pub since : List (Peer × P)
  pub given_since : new.given ≡ old.given ++ since
  pub few : length came ≤ length since
  pub answers : IsTrue poll.turn.come → Answers old new
  -- where somebody came, the net was asked until nobody was left, unless so many came as there is
  -- room for or are to be served
  pub all : IsTrue poll.turn.come → nobody ⊎
      ((before.settings.connection_limit ≤ length before.open' + length since) ⊎
      (is_below before.settings.serve_limit now.accepted ≡ false))
  -- nobody is accepted whom no poll told
  pub uncalled : poll.turn.come ≡ false → new.given ≡ old.given
  -- nobody who is left open waited for too long, where an idle check was due
  pub on_time : checked_by poll.turn.now before.checked + before.settings.cleanup_interval ≤
      poll.turn.now →
      EachIs (λ v. is_late poll.turn.now before.settings.window v.shown ≡ false) (views e now)
  pub checked : now.checked ≡ checked_after poll.turn.now before.checked
      before.settings.cleanup_interval
  -- no more are open than may be, and more are to be served
  pub within : length now.open' ≤ before.settings.connection_limit
  pub unmet : IsTrue (is_below before.settings.serve_limit now.retired)
