-- What contracts see of a channel of one thread, and what its calls do to it.
use Rattle.std.specs.Prelude.{◌≡◌, ◌≤◌, ◌<◌, ◌+◌, ◌*◌, ◌⊎◌, ◌&&◌, ◌||◌, ◌++◌, ℕ, Bool, true, false}
use Rattle.std.specs.Prelude.{not, IsTrue, List, length, nat_eq, nat_lt, nat_le, is_none, is_some}
use Rattle.std.specs.Prelude.{IsSome, Option, None, Some, if◌then◌else◌}
use Rattle.outside.specs.Causes.{Rose}
use Rattle.outside.specs.Link.{LinkState, stamped}
use Rattle.outside.specs.declared.types.End.{End}
use Rattle.outside.specs.declared.types.End.TheVariants as over
use Rattle.outside.specs.declared.types.Peer.{Peer}
use Rattle.channel.specs.Agreement.{end_by}
use Rattle.channel.specs.declared.shared.Fixed.{Fixed}
use Rattle.channel.specs.declared.types.Acted.{Acted}
use Rattle.channel.specs.declared.types.Acted.TheVariants as acted
use Rattle.channel.specs.declared.types.Progress.{Progress}
use Rattle.channel.specs.declared.types.Progress.TheVariants as progress
use Rattle.channel.specs.declared.types.Window.{Window}

-- ---- what is seen

-- What a channel shows, whether or not its link, its spills and its application tell.
pub record Shown : Type 0 where
  -- how many units were put, begun and answered so far
  pub put : ℕ
  pub begun : ℕ
  pub answered : ℕ
  -- how many are put and not begun, and whether one is begun and not answered
  pub ready : ℕ
  pub current : Bool
  -- how many steps the run of the current one may have left; 0 where there is none
  pub left : ℕ
  -- how many bytes of the answers wait to be sent
  pub output : ℕ
  -- the last answer closes
  pub closing : Bool
  -- the stream gives no further unit
  pub finished : Bool
  -- nothing more will come
  pub ended : Bool
  -- when bytes last came or were taken, or it was opened
  pub touched : ℕ
  pub dead : Option End

-- A channel as contracts see it: its link and its peer, what it was opened with, and what it shows.
pub record Seen (L A : Type 0) : Type 0 where
  pub link : L
  pub peer : Peer
  pub fixed : Fixed A
  pub shown : Shown

-- The same with what its link tells, and its link's count of faults and number.
pub record View : Type 0 where
  pub link : LinkState
  pub faults : ℕ
  pub key : ℕ
  pub shown : Shown

abbrev pub view : {L A : Type 0} → (L → LinkState) → (L → ℕ) → (L → ℕ) → Seen L A → View
view state faults key lane = record {
  link = state lane.link;
  faults = faults lane.link;
  key = key lane.link;
  shown = lane.shown;
}

-- a channel as it is opened
abbrev pub fresh : ℕ → Shown
fresh now = record {
  put = 0;
  begun = 0;
  answered = 0;
  ready = 0;
  current = false;
  left = 0;
  output = 0;
  closing = false;
  finished = false;
  ended = false;
  touched = now;
  dead = None;
}

-- ---- its state

abbrev pub current_of : Shown → ℕ
current_of s = if s.current then 1 else 0

abbrev pub units_of : Shown → ℕ
units_of s = s.ready + current_of s

-- a unit is ready or current
abbrev pub is_working : Shown → Bool
is_working s = nat_lt 0 (units_of s)

abbrev pub is_readable : Window → Shown → Bool
is_readable w s =
    not s.closing && not s.finished && not s.ended && nat_le (units_of s) w.lookahead
    && nat_eq s.output 0

abbrev pub is_writable : Shown → Bool
is_writable s = nat_lt 0 s.output

-- what it wants of a poll
abbrev pub want_of : Window → View → ℕ × Bool × Bool
want_of w v = (v.key, is_readable w v.shown, is_writable v.shown)

-- a step can be made
abbrev pub is_due : Window → Shown → Bool
is_due w s = is_none s.dead && is_working s && nat_le s.output w.high_watermark

-- all is answered and sent, and nothing more can come or is wanted
abbrev pub is_done : Shown → Bool
is_done s = not (is_working s) && (nat_eq s.output 0 && (s.closing || s.ended))

-- how it is over, if it is
abbrev pub over_by : Option End → Bool → Option End
over_by (Some end) done = Some end
over_by None true = Some over.Done
over_by None false = None

abbrev pub over_of : Shown → Option End
over_of s = over_by s.dead (is_done s)

-- it waited for longer than the timeout
abbrev pub is_late : ℕ → Window → Shown → Bool
is_late now w s = nat_lt (s.touched + w.timeout) now
    && (not (is_working s) || nat_lt w.high_watermark s.output)

-- it wants something, has something to do, or is over
abbrev pub Stirs : Window → Shown → Type 0
Stirs w s = IsTrue (is_readable w s || (is_writable s
    || (is_working s || (is_some s.dead || is_done s))))

-- ---- what any call does

-- What rises has its cause: units are put, begun and answered, and each of these counts for
-- something.
pub record Moves (old new : Shown) : Type 0 where
  pub put : old.put ≤ new.put
  pub begun : old.begun ≤ new.begun
  pub answered : old.answered ≤ new.answered
  -- a unit becomes ready only by a put, and current only out of the ready ones
  pub units : 2 * new.ready + current_of new + new.begun + new.answered + 2 * old.put
      ≤ 2 * old.ready + current_of old + old.begun + old.answered + 2 * new.put
  -- more steps are left only where a unit began
  pub left : new.begun ≡ old.begun → new.left ≤ old.left
  -- the output is longer only where a unit began or was answered, or fewer steps are left
  pub output : new.begun ≡ old.begun → new.answered ≡ old.answered → old.left ≤ new.left →
      new.output ≤ old.output
  pub dead : IsSome old.dead → new.dead ≡ old.dead

-- With a link that tells: its lists and counts grow, and units are put only where more came.
pub record LinkGoes (old new : View) : Type 0 where
  pub came : length old.link.arrivals ≤ length new.link.arrivals
  pub sent : length old.link.sent ≤ length new.link.sent
  pub asked : old.link.asked ≤ new.link.asked
  pub recv_put_off : old.link.recv_put_off ≤ new.link.recv_put_off
  pub send_put_off : old.link.send_put_off ≤ new.link.send_put_off
  pub ended : IsTrue old.link.ended → IsTrue new.link.ended
  pub fed : old.shown.put < new.shown.put → length old.link.arrivals < length new.link.arrivals
  -- what is sent comes out of the output, which is longer only where a unit began or was answered,
  -- or fewer steps are left
  pub bytes : new.shown.begun ≡ old.shown.begun → new.shown.answered ≡ old.shown.answered →
      old.shown.left ≤ new.shown.left →
      new.shown.output + length new.link.sent ≤ old.shown.output + length old.link.sent

-- With a link that tells: what came bears this moment, and so does the last touch where it is new.
pub record Stamps (now : ℕ) (old new : LinkState) : Type 0 where
  pub bytes : List ℕ
  pub arrivals : new.arrivals ≡ old.arrivals ++ stamped now bytes
  pub touched : (new.touched ≡ old.touched) ⊎ (new.touched ≡ now)

-- A dead channel is left as it is; but what broke may be taken out, the output with it.
pub record StaysDead (old new : View) : Type 0 where
  pub output : ℕ
  pub same : new ≡ record old { shown = record old.shown { output = output } }

-- It stays open: it was neither dead nor over, and its link did not fail.
pub record StaysOpen (old new : View) : Type 0 where
  pub was_alive : old.shown.dead ≡ None
  pub was_undone : is_done old.shown ≡ false
  pub alive : new.shown.dead ≡ None
  pub undone : is_done new.shown ≡ false
  pub faultless : new.faults ≡ old.faults

-- where it is not over
abbrev pub UnlessOver : Acted → Type 0 → Type 0
UnlessOver (acted.Over end) P = Unit {0}
UnlessOver acted.Did P = P
UnlessOver acted.Held P = P
UnlessOver acted.Nothing P = P

-- it is answered how a channel is over, exactly where it is; a channel of one thread is never held
abbrev pub IsOver : Acted → Option End → Type 0
IsOver (acted.Over end) is = is ≡ Some end
IsOver acted.Did is = is ≡ None
IsOver acted.Held is = ⊥
IsOver acted.Nothing is = is ≡ None

-- What a recv, a send and an idle check have in common.
pub record Calls (tells : Bool) (now : ℕ) (act : Acted) (old new : View) : Type 0 where
  pub faults : old.faults ≤ new.faults
  -- a link that failed goes before every other end
  pub link_first : (new.faults ≡ old.faults) ⊎ (act ≡ acted.Over over.LinkFault)
  pub over : IsOver act (over_of new.shown)
  pub stays_dead : IsSome old.shown.dead → StaysDead old new
  pub moves : Moves old.shown new.shown
  pub goes : IsTrue tells → LinkGoes old new
  pub stamps : IsTrue tells → Stamps now old.link new.link
  pub stays : UnlessOver act (StaysOpen old new)
  pub touches : (new.shown.touched ≡ old.shown.touched) ⊎ (new.shown.touched ≡ now)

-- no step was made: what is begun, answered and left is as before
pub record MakesNoStep (old new : Shown) : Type 0 where
  pub begun : new.begun ≡ old.begun
  pub answered : new.answered ≡ old.answered
  pub left : new.left ≡ old.left

-- ---- read

-- the link was asked for bytes: it put off, failed, gave some or ended
abbrev pub Heard : View → View → Type 0
Heard old new = Rose old.link.asked new.link.asked ×
    (Rose old.link.recv_put_off new.link.recv_put_off ⊎ (Rose old.faults new.faults
    ⊎ ((length old.link.arrivals < length new.link.arrivals) ⊎ IsTrue new.link.ended)))

-- what a read leaves of a channel that stays open
pub record Reads (tells : Bool) (w : Window) (old new : View) : Type 0 where
  pub heard : IsTrue tells → IsTrue (is_readable w old.shown) → Heard old new
  pub no_step : MakesNoStep old.shown new.shown
  pub due : IsTrue (is_due w old.shown) → IsTrue (is_due w new.shown)
  pub output : new.shown.output ≡ old.shown.output

-- why a read answers so
abbrev pub ReadCause : Bool → Window → Acted → View → View → Type 0
ReadCause tells w acted.Did old new = IsTrue (is_readable w old.shown) ×
    (IsTrue tells → (length old.link.arrivals < length new.link.arrivals) ⊎ IsTrue new.link.ended)
ReadCause tells w acted.Held old new = ⊥
ReadCause tells w acted.Nothing old new =
    ((is_readable w old.shown ≡ false) × (new ≡ old))
    ⊎ (IsTrue (is_readable w old.shown) × (new.shown ≡ old.shown)
    × (IsTrue tells → Rose old.link.recv_put_off new.link.recv_put_off))
ReadCause tells w (acted.Over over.Done) old new = Unit {0}
ReadCause tells w (acted.Over over.LinkFault) old new = Rose old.faults new.faults
ReadCause tells w (acted.Over over.SpillFault) old new = IsTrue (is_readable w old.shown) ×
    (IsTrue tells → length old.link.arrivals < length new.link.arrivals)
ReadCause tells w (acted.Over over.NoMemory) old new = IsTrue (is_readable w old.shown) ×
    (IsTrue tells → length old.link.arrivals < length new.link.arrivals)
ReadCause tells w (acted.Over over.AppFault) old new = ⊥
ReadCause tells w (acted.Over (over.TimedOut touched now)) old new = ⊥
ReadCause tells w (acted.Over over.ShutDown) old new = ⊥

-- ---- drain

-- the link was offered bytes: it put off, failed or took some
abbrev pub Spoke : View → View → Type 0
Spoke old new = Rose old.link.asked new.link.asked ×
    (Rose old.link.send_put_off new.link.send_put_off ⊎ (Rose old.faults new.faults
    ⊎ (length old.link.sent < length new.link.sent)))

-- what a drain leaves of a channel that stays open
pub record Drains (tells : Bool) (w : Window) (old new : View) : Type 0 where
  pub spoke : IsTrue tells → IsTrue (is_writable old.shown) → Spoke old new
  pub no_step : MakesNoStep old.shown new.shown
  pub units : units_of new.shown ≡ units_of old.shown
  pub output : new.shown.output ≤ old.shown.output
  -- where no output stood, nothing is done
  pub nothing : is_writable old.shown ≡ false → new ≡ old

-- why a drain answers so
abbrev pub DrainCause : Bool → Acted → View → View → Type 0
DrainCause tells acted.Did old new = IsTrue (is_writable old.shown) ×
    ((new.shown.output < old.shown.output) × (IsTrue tells →
    length old.link.sent < length new.link.sent))
DrainCause tells acted.Held old new = ⊥
DrainCause tells acted.Nothing old new =
    ((is_writable old.shown ≡ false) × (new ≡ old))
    ⊎ (IsTrue (is_writable old.shown) × (new.shown ≡ old.shown)
    × (IsTrue tells → Rose old.link.send_put_off new.link.send_put_off))
DrainCause tells (acted.Over over.Done) old new = Unit {0}
DrainCause tells (acted.Over over.LinkFault) old new = Rose old.faults new.faults
DrainCause tells (acted.Over over.SpillFault) old new = IsTrue (is_writable old.shown)
DrainCause tells (acted.Over over.NoMemory) old new = ⊥
DrainCause tells (acted.Over over.AppFault) old new = ⊥
DrainCause tells (acted.Over (over.TimedOut touched now)) old new = ⊥
DrainCause tells (acted.Over over.ShutDown) old new = ⊥

-- ---- the idle check

-- what an idle check leaves of a channel that stays open
pub record Checks (tells : Bool) (now : ℕ) (w : Window) (old new : View) : Type 0 where
  pub on_time : is_late now w new.shown ≡ false
  pub drains : Drains tells w old new

-- it timed out at this moment, since behind a send of what it had it was late and not done
pub record TimesOut (tells : Bool) (touched at now : ℕ) (w : Window) (old new : View) : Type 0 where
  pub touched_is : touched ≡ new.shown.touched
  pub at_is : at ≡ now
  pub spoke : IsTrue tells → IsTrue (is_writable old.shown) → Spoke old new
  pub late : IsTrue (is_late now w new.shown)
  pub undone : is_done new.shown ≡ false

-- why an idle check answers so: as its drain, unless the channel is late behind it
abbrev pub CheckCause : Bool → ℕ → Window → Acted → View → View → Type 0
CheckCause tells now w (acted.Over (over.TimedOut touched at)) old new =
    TimesOut tells touched at now w old new
CheckCause tells now w (acted.Over over.Done) old new = Unit {0}
CheckCause tells now w (acted.Over over.LinkFault) old new =
    DrainCause tells (acted.Over over.LinkFault) old new
CheckCause tells now w (acted.Over over.SpillFault) old new =
    DrainCause tells (acted.Over over.SpillFault) old new
CheckCause tells now w (acted.Over over.NoMemory) old new = ⊥
CheckCause tells now w (acted.Over over.AppFault) old new = ⊥
CheckCause tells now w (acted.Over over.ShutDown) old new = ⊥
CheckCause tells now w acted.Did old new = DrainCause tells acted.Did old new
CheckCause tells now w acted.Held old new = ⊥
CheckCause tells now w acted.Nothing old new = DrainCause tells acted.Nothing old new

-- ---- a step

-- a unit began or was answered, or the run has fewer steps left
abbrev pub Steps : Shown → Shown → Type 0
Steps old new = (old.begun < new.begun) ⊎ ((old.answered < new.answered) ⊎ (new.left < old.left))

-- what a step leaves
abbrev pub Advances : Window → Progress → Shown → Shown → Type 0
Advances w progress.More old new = IsTrue (is_due w old) × (new.dead ≡ None) × Steps old new
Advances w progress.Above old new = (old.dead ≡ None) × (w.high_watermark < old.output)
    × (new ≡ old)
Advances w progress.Rest old new = (old.dead ≡ None) × (is_working old ≡ false) × (new ≡ old)
Advances w progress.Dead old new = IsSome old.dead × (new ≡ old)
Advances w (progress.Broke why) old new = IsTrue (is_due w old) × (new.dead ≡ Some (end_by why))

-- ---- the end

-- what a connection is owed: the output of what arrived, and whether its last answer closes
pub record Owed : Type 0 where
  pub output : List ℕ
  pub closes : Bool

-- the link was sent all that it is owed, and no more can come or is wanted
pub record IsServed (link : LinkState) (owed : Owed) : Type 0 where
  pub whole : link.sent ≡ owed.output
  pub over : IsTrue (link.ended || owed.closes)

-- the counts of faults of a spill, of a run, and of the spill of a run's body
pub record Counts (R S : Type 0) : Type 0 where
  pub spill : S → ℕ
  pub run : R → ℕ
  pub body : R → ℕ

-- What a closed channel leaves: what its link tells and how often that failed, what it was owed,
-- and what broke, a spill or a run.
pub record Rest (R S : Type 0) : Type 0 where
  pub link : LinkState
  pub faults : ℕ
  pub owed : Owed
  pub broken : Option S
  pub fallen : Option R

-- whether the link tells, and whether all that serves a connection does
pub record Telling : Type 0 where
  pub link : Bool
  pub all : Bool

abbrev pub telling : Bool → Bool → Bool → Telling
telling link spill app = record { link = link; all = link && (spill && app) }

-- It waited for longer than the timeout: all was sent, or the link takes nothing more.
pub record WaitedTooLong (tells : Telling) (timeout : ℕ) (link : LinkState) (owed : Owed)
    (touched now : ℕ) : Type 0 where
  pub touched_is : IsTrue tells.link → touched ≡ link.touched
  pub late : touched + timeout < now
  pub idle : IsTrue tells.all → (link.sent ≡ owed.output) ⊎ IsTrue link.choked

-- what is handed out as broken has counted it
abbrev pub Counted : {T : Type 0} → (T → ℕ) → Option T → Type 0
Counted faults None = ⊥
Counted faults (Some x) = 0 < faults x

-- why a channel is over so
abbrev pub EndsBy : {R S : Type 0} → Telling → Counts R S → ℕ → Rest R S → End → Type 0
EndsBy tells counts timeout rest over.Done = IsTrue tells.all → IsServed rest.link rest.owed
EndsBy tells counts timeout rest over.LinkFault = 0 < rest.faults
EndsBy tells counts timeout rest over.SpillFault =
    Counted counts.spill rest.broken ⊎ Counted counts.body rest.fallen
EndsBy tells counts timeout rest over.AppFault = Counted counts.run rest.fallen
EndsBy tells counts timeout rest over.NoMemory = Unit {0}
EndsBy tells counts timeout rest (over.TimedOut touched now) =
    WaitedTooLong tells timeout rest.link rest.owed touched now
EndsBy tells counts timeout rest over.ShutDown = ⊥
