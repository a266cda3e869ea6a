-- Internal: what a turn does to one connection.
use Rattle.std.specs.Prelude.{◌≡◌, ◌≤◌, ◌&&◌, ◌⊎◌, ℕ, List, length, Bool, true, false, IsTrue}
use Rattle.std.specs.Prelude.{Option, None, Some}
use Rattle.channel.specs.Views.{Heard, LinkGoes, Moves, Seen, Shown, Spoke, Stamps, Steps, Stirs}
use Rattle.channel.specs.Views.{View, is_done, is_due, is_late, is_writable, over_of, view, want_of}
use Rattle.channel.specs.declared.types.Window.{Window}
use Rattle.outside.specs.Link.{LinkState}
use Rattle.outside.specs.Net.{asked_of}
use Rattle.outside.specs.declared.link.Link.{Ghosts}
use Rattle.outside.specs.declared.types.End.{End}
use Rattle.outside.specs.declared.types.End.TheVariants as over
use Rattle.outside.specs.declared.types.Want.{Want}
use Rattle.poll_loop.specs.Lists.{Both, UpTo}
use Rattle.poll_loop.specs.declared.seat.Mark.{Mark}
use Rattle.poll_loop.specs.declared.seat.Mark.TheVariants as mark
use Rattle.poll_loop.specs.declared.seat.Seat.{Seat}

-- ---- one channel

-- neither dead nor over
pub record IsUp (s : Shown) : Type 0 where
  pub alive : s.dead ≡ None
  pub undone : is_done s ≡ false

-- a timeout bears this moment
abbrev pub BearsMoment : ℕ → End → Type 0
BearsMoment now (over.TimedOut touched moment) = moment ≡ now
BearsMoment now over.Done = Unit {0}
BearsMoment now over.LinkFault = Unit {0}
BearsMoment now over.SpillFault = Unit {0}
BearsMoment now over.AppFault = Unit {0}
BearsMoment now over.NoMemory = Unit {0}
BearsMoment now over.ShutDown = Unit {0}

-- where it died, it bears this moment
abbrev pub DiesAt : ℕ → Option End → Type 0
DiesAt now None = Unit {0}
DiesAt now (Some end) = BearsMoment now end

-- it is over so, since this moment where it timed out
pub record IsOverAt (now : ℕ) (end : End) (s : Shown) : Type 0 where
  pub is : over_of s ≡ Some end
  pub moment : BearsMoment now end

-- What any calls of one moment do to a channel.
pub record Follows (tells : Bool) (now : ℕ) (old new : View) : Type 0 where
  pub key : new.key ≡ old.key
  pub moves : Moves old.shown new.shown
  pub goes : IsTrue tells → LinkGoes old new
  pub stamps : IsTrue tells → Stamps now old.link new.link

-- it stays up, and its link did not fail
pub record StaysUp (old new : View) : Type 0 where
  pub up : IsUp new.shown
  pub faultless : new.faults ≡ old.faults

-- over where there is an end, and else this
abbrev pub OverOr : ℕ → Option End → Shown → Type 0 → Type 0
OverOr now (Some end) s P = IsOverAt now end s
OverOr now None s P = P

-- it was asked for bytes where it wants to be read and may be; what was due is due
pub record Hears (tells : Bool) (w : Window) (ready : Want) (old new : View) : Type 0 where
  pub stays : StaysUp old new
  pub heard : IsTrue tells → IsTrue ready.read → IsTrue ready.may_read → Heard old new
  pub still : IsTrue (is_due w old.shown) → IsTrue (is_due w new.shown)
  pub begun : new.shown.begun ≡ old.shown.begun
  pub answered : new.shown.answered ≡ old.shown.answered
  pub left : new.shown.left ≡ old.shown.left
  pub output : new.shown.output ≡ old.shown.output

-- steps were made, where one was due; whether it then is over isn't said
pub record Strides (w : Window) (old new : Shown) : Type 0 where
  pub moves : Moves old new
  pub unput : new.put ≡ old.put
  pub longer : old.output ≤ new.output
  pub stepped : IsTrue (is_due w old) → new.dead ≡ None → Steps old new
  pub dies : (now : ℕ) → DiesAt now new.dead

-- it was offered the output, where there is any
pub record Speaks (tells : Bool) (old new : View) : Type 0 where
  pub stays : StaysUp old new
  pub spoke : IsTrue tells → IsTrue (is_writable old.shown) → Spoke old new
  pub nothing : is_writable old.shown ≡ false → new ≡ old
  pub begun : new.shown.begun ≡ old.shown.begun
  pub answered : new.shown.answered ≡ old.shown.answered
  pub left : new.shown.left ≡ old.shown.left
  pub was_alive : old.shown.dead ≡ None

-- something is ready or a step is due
abbrev pub IsCalled : Window → Want → Shown → Type 0
IsCalled w ready s = (ready.read && ready.may_read) ≡ false →
    (ready.write && ready.may_write) ≡ false → is_due w s ≡ false → ⊥

-- What a turn does to a channel that stays up; ready is its want as the poll left it.
pub record Attends (tells : Bool) (w : Window) (ready : Want) (old new : View) : Type 0 where
  pub stays : StaysUp old new
  pub heard : IsTrue tells → IsTrue ready.read → IsTrue ready.may_read → Heard old new
  pub spoke : IsTrue tells → IsTrue ready.write → IsTrue ready.may_write → Spoke old new
  pub stepped : IsTrue (is_due w old.shown) → Steps old.shown new.shown
  -- what still waits to be sent was offered, unless nothing was done
  pub offered : IsTrue tells → IsTrue (is_writable new.shown) → (new ≡ old) ⊎ Spoke old new
  -- what is neither ready nor due is left alone
  pub rested : (ready.read && ready.may_read) ≡ false → (ready.write && ready.may_write) ≡ false →
      is_due w old.shown ≡ false → new ≡ old

-- An idle check leaves it up, and on time.
pub record Passes (tells : Bool) (now : ℕ) (w : Window) (old new : View) : Type 0 where
  pub stays : StaysUp old new
  pub on_time : is_late now w new.shown ≡ false
  pub begun : new.shown.begun ≡ old.shown.begun
  pub answered : new.shown.answered ≡ old.shown.answered
  pub left : new.shown.left ≡ old.shown.left
  pub offered : IsTrue tells → IsTrue (is_writable new.shown) → Spoke old new
  -- it was offered the output, where there is any, and else is left alone
  pub spoke : IsTrue tells → IsTrue (is_writable old.shown) → Spoke old new
  pub nothing : is_writable old.shown ≡ false → new ≡ old

-- ---- one seat

-- whether a step can be made
abbrev pub MarkHolds : Window → Mark → Shown → Type 0
MarkHolds w mark.Rests s = is_due w s ≡ false
MarkHolds w mark.Works s = is_due w s ≡ true
MarkHolds w (mark.Over end) s = ⊥

-- A seat between two turns: it is up, its want is that of its channel, and its mark says whether a
-- step can be made.
pub record SeatHolds (w : Window) (want : Want) (m : Mark) (v : View) : Type 0 where
  pub up : IsUp v.shown
  pub marked : MarkHolds w m v.shown
  pub asks : asked_of want ≡ want_of w v
  pub stirs : Stirs w v.shown

-- over where it is so marked, and else this, and the seat holds
abbrev pub OverOrHolds : ℕ → Window → Want → Mark → View → Type 0 → Type 0
OverOrHolds now w want (mark.Over end) v P = IsOverAt now end v.shown
OverOrHolds now w want mark.Rests v P = P × SeatHolds w want mark.Rests v
OverOrHolds now w want mark.Works v P = P × SeatHolds w want mark.Works v

-- the same of a mark alone
abbrev pub OverOrMarked : ℕ → Window → Mark → View → Type 0 → Type 0
OverOrMarked now w (mark.Over end) v P = IsOverAt now end v.shown
OverOrMarked now w mark.Rests v P = P × MarkHolds w mark.Rests v.shown
OverOrMarked now w mark.Works v P = P × MarkHolds w mark.Works v.shown

-- it is neither ready nor due, so it isn't looked at
pub record IsUncalled (ready : Want) (m : Mark) : Type 0 where
  pub rests : m ≡ mark.Rests
  pub unread : (ready.read && ready.may_read) ≡ false
  pub unwritten : (ready.write && ready.may_write) ≡ false

abbrev pub is_open : Mark → Bool
is_open (mark.Over end) = false
is_open mark.Rests = true
is_open mark.Works = true

-- how the links of a kind are seen
pub record Eyes (L P : Type 0) : Type 0 where
  pub tells : Bool
  pub state : L → LinkState
  pub faults : L → ℕ
  pub key : L → ℕ
  pub plan : L → P

abbrev pub eyes_of : {L P : Type 0} → Ghosts L P → Eyes L P
eyes_of link = record {
  tells = link.tells;
  state = link.state;
  faults = link.faults;
  key =
      link.key;
  plan = link.plan;
}

abbrev pub viewed : {L P A : Type 0} → Eyes L P → Seen L A → View
viewed e lane = view e.state e.faults e.key lane

-- what no turn changes of a connection
pub record IsSameOne {L P A : Type 0} (e : Eyes L P) (old new : Seen L A) : Type 0 where
  pub peer : new.peer ≡ old.peer
  pub fixed : new.fixed ≡ old.fixed
  pub plan : e.plan new.link ≡ e.plan old.link

-- calls of one moment were made
pub record Goes {L P A : Type 0} (e : Eyes L P) (now : ℕ) (old new : Seen L A) : Type 0 where
  pub same : IsSameOne e old new
  pub follows : Follows e.tells now (viewed e old) (viewed e new)

-- ---- the seats of a server

-- a seat between two turns
pub record SeatRests {L P A S R : Type 0} (e : Eyes L P) (w : Window) (seat : Seat L A S P R) : Type
    0 where
  pub window : seat.lane.fixed.window ≡ w
  pub holds : SeatHolds w seat.want seat.mark (viewed e seat.lane)

-- a seat whose want the poll got
pub record SeatAsks {L P A S R : Type 0} (e : Eyes L P) (w : Window) (ready : Want)
    (seat : Seat L A S P R) : Type 0 where
  pub rests : SeatRests e w seat
  pub asks : asked_of ready ≡ asked_of seat.want

-- what a turn does to one seat
pub record SeatTurns {L P A S R : Type 0} (e : Eyes L P) (now : ℕ) (w : Window) (ready : Want)
    (old new : Seat L A S P R) : Type 0 where
  pub goes : Goes e now old.lane new.lane
  pub leaves : OverOrHolds now w new.want new.mark (viewed e new.lane)
      (Attends e.tells w ready (viewed e old.lane) (viewed e new.lane))

-- a seat that is to be retired, or rests
pub record SeatOut {L P A S R : Type 0} (e : Eyes L P) (now : ℕ) (w : Window)
    (seat : Seat L A S P R) : Type 0 where
  pub window : seat.lane.fixed.window ≡ w
  pub is : OverOrHolds now w seat.want seat.mark (viewed e seat.lane) (Unit {0})

-- what an idle check does to one seat: nothing to one that is over
pub record SeatChecks {L P A S R : Type 0} (e : Eyes L P) (now : ℕ) (w : Window)
    (old new : Seat L A S P R) : Type 0 where
  pub goes : Goes e now old.lane new.lane
  pub over : is_open old.mark ≡ false → new ≡ old
  pub passes : IsTrue (is_open old.mark) → OverOrHolds now w new.want new.mark (viewed e new.lane)
      (Passes e.tells now w (viewed e old.lane) (viewed e new.lane))

-- an idle check, where it is due
abbrev pub ChecksIf : {L P A S R : Type 0} → Bool → Eyes L P → ℕ → Window → Seat L A S P R →
    Seat L A S P R → Type 0
ChecksIf true e now w old new = SeatChecks e now w old new
ChecksIf false e now w old new = new ≡ old

-- each seat that the poll was asked for had its part of the turn, and all theirs of the idle check,
-- where it was due
pub record Labours {L P A S R : Type 0} (due : Bool) (e : Eyes L P) (now : ℕ) (w : Window)
    (wants : List Want)
    (olds news : List (Seat L A S P R)) : Type 0 where
  pub mids : List (Seat L A S P R)
  pub turns : UpTo (SeatTurns e now w) (length wants) wants olds mids
  pub checks : Both (ChecksIf due e now w) mids news
