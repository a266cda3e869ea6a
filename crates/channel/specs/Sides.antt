-- What the polling side keeps of its link and of its stream, and what it has told of them.
use Rattle.std.specs.Prelude.{◌≡◌, ◌≤◌, ◌<◌, ◌+◌, ℕ, Bool, true, false, not, ◌&&◌, ◌||◌, nat_eq}
use Rattle.std.specs.Prelude.{nat_le, nat_lt, IsTrue, List, ◌++◌, length, take, map, Some}
use Rattle.std.specs.Prelude.{None, is_some}
use Rattle.std.specs.List.{list_any}
use Rattle.std.specs.Option.{ForSome}
use Rattle.outside.specs.Causes.{raised}
use Rattle.outside.specs.Link.{LinkState, stamped}
use Rattle.outside.specs.declared.types.End.{End}
use Rattle.outside.specs.declared.types.End.TheVariants as over
use Rattle.request_stream.specs.Asks.{AreAskedAs, asks}
use Rattle.request_stream.specs.Story.{Story}
use Rattle.request_stream.specs.Units.{closing, units}
use Rattle.request_stream.specs.declared.types.Limits.{Limits}
use Rattle.channel.specs.Acting.{has_counted, is_working, output_length, unit_count}
use Rattle.channel.specs.Agreement.{Agrees, Known}
use Rattle.channel.specs.Histories.{LeftEntry, LeftPast, RightPast, left_past, left_turn}
use Rattle.channel.specs.Histories.{right_past}
use Rattle.channel.specs.Showing.{shown_of}
use Rattle.channel.specs.State.{State, state_of}
pub use Rattle.channel.specs.Owed.{loses_units}
use Rattle.channel.specs.Views.{View}
use Rattle.channel.specs.declared.near.Near.{Near}
use Rattle.channel.specs.declared.shared.Shared.{Shared}
use Rattle.channel.specs.declared.sides.Acts.{Acts}
use Rattle.outside.specs.declared.noted.Noted.{Noted}
use Rattle.channel.specs.declared.types.Window.{Window}

-- how links are seen
pub record Linked (L P : Type 0) : Type 0 where
  pub tells : Bool
  pub state : L → LinkState
  pub faults : L → ℕ
  pub key : L → ℕ
  pub plan : L → P

abbrev pub linked : {L P : Type 0} → Bool → (L → LinkState) → (L → ℕ) → (L → ℕ) → (L → P) →
    Linked L P
linked tells state faults key plan = record {
  tells = tells;
  state = state;
  faults = faults;
  key = key;
  plan = plan;
}

-- The parts of a side that are spoken of: tells says whether its link does, and the last two say
-- whether a spill or a run that was taken out has counted a fault.
pub record Side : Type 0 where
  pub tells : Bool
  pub link : LinkState
  pub faults : ℕ
  pub story : Story
  pub touched : ℕ
  pub ended : Bool
  pub buried : Bool
  pub spill_out : Bool
  pub run_out : Bool

module _ {L P A R S : Type 0} (links : Linked L P) (known : Known A R S) where
  abbrev pub side_of : Near L A S R → Side
  side_of near = record {
    tells = links.tells;
    link = links.state near.link;
    faults = links.faults near.link;
    story = near.stream;
    touched = near.touched;
    ended = near.ended;
    buried = near.buried;
    spill_out = has_counted known.spill_faults near.broken
        || has_counted known.body_faults near.fallen;
    run_out = has_counted known.run_faults near.fallen;
  }

-- by whom a channel is not killed, since nothing but a call of the polling side does it
abbrev pub is_killer : End → Bool
is_killer over.Done = false
is_killer over.LinkFault = true
is_killer over.SpillFault = true
is_killer over.AppFault = false
is_killer over.NoMemory = true
is_killer (over.TimedOut touched now) = true
is_killer over.ShutDown = false

module _ {S : Type 0} where
  pub record KeepsSide (spill_tells : Bool) (limits : Limits) (timeout : ℕ) (side : Side)
      (left : LeftPast S) : Type 0 where
    pub limits_are : side.story.limits ≡ limits
    -- with a told link
    pub fed : IsTrue side.tells → side.story.fed ≡ side.link.arrivals
    pub sent : IsTrue side.tells → side.link.sent ≡ left.drained
    pub ended : IsTrue side.tells → side.ended ≡ side.link.ended
    pub touched : IsTrue side.tells → side.touched ≡ side.link.touched
    -- the units that were put are those that the input asks for
    pub asked : loses_units left.killed ≡ false → AreAskedAs spill_tells (map asks left.put)
        (units limits side.story.fed)
    pub front : AreAskedAs spill_tells (map asks left.put)
        (take (length left.put) (units limits side.story.fed))
    pub shut : left.killed ≡ None → side.story.over ≡ list_any closing (map asks left.put)
    pub held : left.killed ≡ None → side.story.held ≡ left.held
    pub failed : side.story.failed ≡ true → IsTrue (is_some left.killed)
    pub buried : side.buried ≡ left.buried
    pub broke : left.killed ≡ Some over.SpillFault → left.buried ≡ true
    pub killer : ForSome left.killed (λ end. IsTrue (is_killer end))
    pub link_fault : left.killed ≡ Some over.LinkFault → 0 < side.faults
    pub timed : (at now : ℕ) → left.killed ≡ Some (over.TimedOut at now) → (at ≡ side.touched)
        × (at + timeout < now)

-- nothing is ready or current, and the output is there and empty
pub record IsIdle {A R S : Type 0} (state : State A R S) : Type 0 where
  pub no_units : unit_count state ≡ 0
  pub stands : IsTrue (is_some state.output)
  pub no_output : output_length state ≡ 0

-- What the polling side answers for at the end: all was sent where it timed out, unless its link is
-- choked, and what was taken out has counted its fault.
pub record Answers {A R S : Type 0} (side : Side) (state : State A R S) : Type 0 where
  pub idle : (at now : ℕ) → state.dead ≡ Some (over.TimedOut at now) → IsTrue side.tells →
      side.link.choked ≡ false → IsIdle state
  pub spill : side.buried ≡ true → state.dead ≡ Some over.SpillFault → IsTrue side.spill_out
  pub app : side.buried ≡ true → state.dead ≡ Some over.AppFault → IsTrue side.run_out

-- A turn of the polling side keeps the state in agreement with what both sides did.
pub record TurnsLeft {A R S : Type 0} (known : Known A R S) (old_side new_side : Side)
    (old new : State A R S) (entry : LeftEntry S) : Type 0 where
  pub fixed : new.fixed ≡ old.fixed
  pub agrees : (l : LeftPast S) (r : RightPast S) → Agrees known old l r →
      KeepsSide known.spill_tells old.fixed.value.limits old.fixed.value.window.timeout old_side l →
      Agrees known new (left_turn l entry) r
  pub keeps : (l : LeftPast S) (r : RightPast S) → Agrees known old l r →
      KeepsSide known.spill_tells old.fixed.value.limits old.fixed.value.window.timeout old_side l →
      KeepsSide known.spill_tells old.fixed.value.limits old.fixed.value.window.timeout new_side
      (left_turn l entry)
  pub answers : (l : LeftPast S) (r : RightPast S) → Agrees known old l r →
      KeepsSide known.spill_tells old.fixed.value.limits old.fixed.value.window.timeout old_side l →
      Answers old_side old → Answers new_side new

module _ {L P A R S : Type 0} (links : Linked L P) where
  -- what no call changes of the polling side
  pub record IsSameNear (old new : Near L A S R) : Type 0 where
    pub window : new.window ≡ old.window
    pub peer : new.peer ≡ old.peer
    pub key : links.key new.link ≡ links.key old.link
    pub plan : links.plan new.link ≡ links.plan old.link

  -- what is seen of it, with a state and with what both sides did
  abbrev pub view_of : Near L A S R → State A R S → LeftPast S → RightPast S → ℕ → View
  view_of near state l r left = record {
    link = links.state near.link;
    faults = links.faults near.link;
    key = links.key near.link;
    shown = shown_of near.stream near.ended near.touched state l r left;
  }

  -- the same, by what is told of what both sides did
  abbrev pub view_by : Near L A S R → Shared A R S → Noted (Acts S) → ℕ → View
  view_by near state acts left = view_of near (state_of state) (left_past acts.value.left)
      (right_past acts.value.right) left

  -- This holds of what is seen before and after, whatever both sides did before.
  abbrev pub Sees : Near L A S R → Near L A S R → State A R S → State A R S → LeftEntry S →
      (View → View → Type 0) → Type 0
  Sees old_near new_near old new entry holds =
      (l : LeftPast S) → (r : RightPast S) → (left : ℕ) →
      holds (view_of old_near old l r left) (view_of new_near new (left_turn l entry) r left)

-- A turn of the polling side, by what it has for itself.
pub record TurnsNear {L P A R S : Type 0} (links : Linked L P) (known : Known A R S)
    (old_near new_near : Near L A S R) (old new : State A R S) (entry : LeftEntry S) : Type 0 where
  pub side : TurnsLeft known (side_of links known old_near)
      (side_of links known new_near) old new entry
  pub same : IsSameNear links old_near new_near

-- a recv gave these bytes
pub record Came {L P : Type 0} (links : Linked L P) (now : ℕ) (bytes : List ℕ)
    (old new : L) : Type 0 where
  pub told : IsTrue links.tells → links.state new ≡ record (links.state old) {
    arrivals = (links.state old).arrivals ++ stamped now bytes;
    touched = now;
    asked = raised (links.state old).asked;
  }
  pub faults : links.faults new ≡ links.faults old
  pub key : links.key new ≡ links.key old
  pub plan : links.plan new ≡ links.plan old

module _ {A R S : Type 0} where
  -- it takes in more
  abbrev pub is_readable : ℕ → State A R S → Story → Bool → Bool
  is_readable lookahead s story ended =
      not s.closing && not (story.failed || story.over) && not ended
      && nat_le (unit_count s) lookahead && nat_eq (output_length s) 0

  -- nothing moved since so long, and no job is to move it
  abbrev pub is_late : Window → State A R S → ℕ → ℕ → Bool
  is_late window s touched now =
      nat_lt (touched + window.timeout) now && (not (is_working s)
      || nat_lt window.high_watermark (output_length s))

-- a byte can be read, and the output may have a byte in memory
pub record IsUsable (window : Window) : Type 0 where
  pub recv : 1 ≤ window.recv_bytes
  pub overflow : 1 ≤ window.outbuf_overflow

-- what broke stands in the state, or stood there
abbrev pub is_breaking : End → Bool
is_breaking over.Done = false
is_breaking over.LinkFault = false
is_breaking over.SpillFault = true
is_breaking over.AppFault = true
is_breaking over.NoMemory = false
is_breaking (over.TimedOut touched now) = false
is_breaking over.ShutDown = false
