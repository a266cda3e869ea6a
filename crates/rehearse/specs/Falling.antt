-- What gets less with each turn of a rehearsal: six numbers, of which the first that changes falls.
use Rattle.std.specs.Prelude.{◌≡◌, ◌≤◌, ◌<◌, ◌+◌, ◌-◌, ◌*◌, ◌^◌, ◌⊎◌, ℕ, List, [], ◌∷◌, length}
use Rattle.std.specs.Prelude.{IfSome, IsTrue, false}
use Rattle.channel.specs.Views.{View, current_of, is_readable, units_of}
use Rattle.channel.specs.declared.types.Window.{Window}
use Rattle.outside.specs.Causes.{Rose}
use Rattle.outside.specs.Net.{NetState}
use Rattle.poll_loop.specs.Lists.{EachIs}
use Rattle.poll_loop.specs.NoIdle.{Case, NoIdle, Serving, views}
use Rattle.poll_loop.specs.Seat.{Eyes}

abbrev pub sum_of : (View → ℕ) → List View → ℕ
sum_of f [] = 0
sum_of f (v ∷ vs) = f v + sum_of f vs

-- the bytes that arrived
abbrev pub arrived : View → ℕ
arrived v = length v.link.arrivals

-- a unit that waits is begun and answered, and a current one is answered
abbrev pub units_left : View → ℕ
units_left v = 2 * v.shown.ready + current_of v.shown

-- The comers that wait, the open channels, the bytes of their inputs that have not arrived, the
-- units that are not begun or not answered, the steps of the runs under way, and the bytes that
-- wait to be sent.
pub record Measure : Type 0 where
  pub waiting : ℕ
  pub channels : ℕ
  pub unread : ℕ
  pub units : ℕ
  pub steps : ℕ
  pub output : ℕ

-- where so many comers wait, and these channels are to get so many bytes together
abbrev pub measure : ℕ → ℕ → List View → Measure
measure waiting whole channels = record {
  waiting = waiting;
  channels = length channels;
  unread = whole - sum_of arrived channels;
  units = sum_of units_left channels;
  steps = sum_of (λ v. v.shown.left) channels;
  output = sum_of (λ v. v.shown.output) channels;
}

-- the first number that changed fell
abbrev pub Falls : Measure → Measure → Type 0
Falls new old = (new.waiting < old.waiting) ⊎ ((new.waiting ≡ old.waiting) ×
    ((new.channels < old.channels) ⊎ ((new.channels ≡ old.channels) ×
    ((new.unread < old.unread) ⊎ ((new.unread ≡ old.unread) ×
    ((new.units < old.units) ⊎ ((new.units ≡ old.units) ×
    ((new.steps < old.steps) ⊎ ((new.steps ≡ old.steps) × (new.output < old.output))))))))))

-- each number but the first is below the bound
pub record AreWithin (bound : ℕ) (m : Measure) : Type 0 where
  pub channels : m.channels < bound
  pub unread : m.unread < bound
  pub units : m.units < bound
  pub steps : m.steps < bound
  pub output : m.output < bound

-- the six as one number, where each but the first is below the bound
abbrev pub number_of : ℕ → Measure → ℕ
number_of bound m =
    ((((m.waiting * bound + m.channels) * bound + m.unread) * bound + m.units) * bound + m.steps)
    * bound + m.output

-- its counts are of 64 bits
pub record IsCounted (v : View) : Type 0 where
  pub units : units_of v.shown < 2 ^ 64
  pub left : v.shown.left < 2 ^ 64
  pub output : v.shown.output < 2 ^ 64

-- a bound of all numbers but the first, where no more channels are open and no more bytes are to
-- come
abbrev pub bound_of : ℕ → ℕ → ℕ
bound_of limit whole = 1 + limit * 2 ^ 65 + whole

-- Nothing puts off a channel: its link has not failed and does not end, a recv is put off only
-- where more has arrived, and no send is.
pub record Flows (w : Window) (old new : View) : Type 0 where
  pub faultless : old.faults ≡ 0
  pub recv : IsTrue (is_readable w old.shown) →
      Rose old.link.recv_put_off new.link.recv_put_off → arrived old < arrived new
  pub send : Rose old.link.send_put_off new.link.send_put_off → ⊥
  pub goes_on : new.link.ended ≡ false

-- the poll called the channel ready for all that it wants, and nothing puts it off
pub record IsFree (w : Window) (c : Case) : Type 0 where
  pub read : c.ready.may_read ≡ c.ready.read
  pub write : c.ready.may_write ≡ c.ready.write
  pub flows : IfSome c.new (λ new. Flows w c.old new)

-- What is known of a turn: comers come by accepts alone, some channel was open where none came,
-- nothing put off a channel, and what the channels are to get stays while they are the same ones.
pub record Flowing {L P A R : Type 0} (e : Eyes L P) (before now : Serving L A R) (nobody : Type 0)
    (old new : NetState L P) (turn : NoIdle e before now nobody old new)
    (waiting waiting' whole whole' : ℕ) :
    Type 0 where
  pub comers : waiting ≡ waiting' + length turn.since
  pub some : waiting' ≡ waiting → 0 < length (views e before)
  pub free : EachIs (IsFree before.settings.window) turn.cases
  pub kept : waiting' ≡ waiting → length (views e now) ≡ length (views e before) → whole' ≡ whole
  pub bound : sum_of arrived (views e now) ≤ whole'

-- such a turn makes the numbers fall
abbrev pub TurnsFall : {L P A R : Type 0} → Eyes L P → Serving L A R → Serving L A R → Type 0 →
    NetState L P → NetState L P → Type 0
TurnsFall e before now nobody old new = (turn : NoIdle e before now nobody old new) →
    (waiting waiting' whole whole' : ℕ) →
    Flowing e before now nobody old new turn waiting waiting' whole whole' →
    Falls (measure waiting' whole' (views e now)) (measure waiting whole (views e before))
