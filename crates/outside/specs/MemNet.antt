-- A net in memory.
use Rattle.std.specs.Prelude.{◌≡◌, ◌≤◌, ◌<◌, ◌+◌, ◌++◌, ◌&&◌, ◌==◌, ℕ, Bool, IsTrue, is_none}
use Rattle.std.specs.Prelude.{is_some, List, length, map, position, remove, All, Contains}
use Rattle.std.specs.Prelude.{IsPermutation, Option, None, Some, slice_get, nat_lt, nat_le, Result}
use Rattle.std.specs.Prelude.{Ok, Err}
use Rattle.std.specs.Option.{ForSome, IsSomeAnd}
use Rattle.outside.specs.Causes.{raised}
use Rattle.outside.specs.Memory.{is_listed}
use Rattle.outside.specs.MemLink.{new_link}
use Rattle.outside.specs.Moments.{moment_at}
use Rattle.outside.specs.Net.{NetState, Poll, unasked}
use Rattle.outside.specs.declared.mem_link.MemLink.{MemLink}
use Rattle.outside.specs.declared.plans.LinkPlan.{LinkPlan}
use Rattle.outside.specs.declared.plans.NetPlan.{NetPlan}
use Rattle.outside.specs.declared.plans.Comer.{Comer}
use Rattle.outside.specs.declared.types.Failed.{Failed}
use Rattle.outside.specs.declared.types.NetFault.{NetFault}
use Rattle.outside.specs.declared.types.NetFault.TheVariants as fault
use Rattle.outside.specs.declared.types.Peer.{Peer}
use Rattle.outside.specs.declared.types.Turn.{Turn}
use Rattle.outside.specs.declared.types.Want.{Want}

-- what a poll that answered a turn found
pub record Found : Type 0 where
  -- its number among the polls, from 0
  pub number : ℕ
  -- the comers that accept had not given, in the plan's order
  pub waiting : List Comer

pub record MemNetState : Type 0 where
  pub plan : NetPlan
  pub state : NetState MemLink LinkPlan
  -- the comers that accept has not given, in the plan's order
  pub waiting : List Comer
  -- how many polls there had been when accept last answered None
  pub cleared : ℕ
  -- what the last poll that answered a turn found
  pub found : Option Found
  pub bind_faults : ℕ
  pub poll_faults : ℕ

-- a net of this plan, before any call
abbrev pub fresh : NetPlan → MemNetState
fresh plan = record {
  plan = plan;
  state = unasked (is_none plan.stop_at);
  waiting = plan.comers;
  cleared = 0;
  found = None;
  bind_faults = 0;
  poll_faults = 0;
}

-- the place of the first comer of the turns so far, where there were so many polls
abbrev pub first_due : List Comer → ℕ → Option ℕ
first_due waiting polls = position (λ comer. nat_lt comer.turn polls) waiting

-- whether a turn tells to stop: from a given turn on, or where nothing is open and nobody is left
abbrev pub stops_at : Option ℕ → ℕ → ℕ → List Comer → Bool
stops_at None number live waiting = (live == 0) && (length waiting == 0)
stops_at (Some turn) number live waiting = nat_le turn number

-- what a poll tells that found the net so, with so many links open
pub record TurnByPlan (plan : NetPlan) (found : Found) (live : ℕ) (accepting : Bool) (turn : Turn) :
    Type 0 where
  pub moment : turn.now ≡ moment_at plan.moments found.number
  pub stop : turn.stop ≡ stops_at plan.stop_at found.number live found.waiting
  pub come : turn.come ≡ (accepting && is_some (first_due found.waiting (raised found.number)))

-- a want is ready for what it asks
abbrev pub IsReady : Want → Type 0
IsReady want = (want.may_read ≡ want.read) × (want.may_write ≡ want.write)

-- whom a comer is, and what its link is made from
abbrev pub seat_of : Comer → Peer × LinkPlan
seat_of comer = (comer.peer, comer.plan)

-- those given and those waiting are together the comers of the plan, up to order
abbrev pub AreComers : NetPlan → List (Peer × LinkPlan) → List Comer → Type 0
AreComers plan given waiting =
    ∥ IsPermutation (map seat_of plan.comers) (given ++ map seat_of waiting) ∥₁

-- a poll that answered a turn, and what it found
pub record PolledByPlan (plan : NetPlan) (found : Found) (poll : Poll LinkPlan) : Type 0 where
  pub turn : TurnByPlan plan found poll.live poll.accepting poll.turn
  pub ready : All IsReady poll.wants
  pub comers : AreComers plan poll.given found.waiting
  pub who : All (Contains plan.comers) found.waiting

-- what a net in memory keeps at each moment
pub record KeepsToNetPlan (net : MemNetState) : Type 0 where
  pub comers : AreComers net.plan net.state.given net.waiting
  -- whoever waits is a comer of the plan
  pub who : All (Contains net.plan.comers) net.waiting
  -- whoever still waits after an accept that gave nobody comes at a later turn
  pub cleared : All (λ comer. net.cleared ≤ comer.turn) net.waiting
  pub first : ForSome net.state.first (λ moment. IsTrue (is_listed net.plan.moments moment))
  pub last : ForSome net.state.last (λ poll. IsTrue (is_listed net.plan.moments poll.turn.now))
  -- the last poll went by the plan, in what it found
  pub polled : ForSome net.state.last (λ poll. IsSomeAnd net.found (λ found.
      PolledByPlan net.plan found poll))
  -- a call has failed only where the plan lets one fail
  pub bind_caused : 0 < net.bind_faults → IsTrue net.plan.bind_fails
  pub poll_caused : 0 < net.poll_faults →
      0 < length net.plan.poll_fails + length net.plan.accept_fails

-- what the last poll that answered a turn found, after one more poll
abbrev pub found_after : Result Turn Failed → MemNetState → Option Found
found_after (Ok turn) old = Some (record { number = old.state.polls; waiting = old.waiting })
found_after (Err _) old = old.found

-- accept gives the first comer of the turns so far
pub record GivesFirst (now : ℕ) (given : MemLink × Peer) (old new : MemNetState) : Type 0 where
  pub place : ℕ
  pub comer : Comer
  pub first : first_due old.waiting old.state.polls ≡ Some place
  pub is : slice_get old.waiting place ≡ Some comer
  pub peer : given.1 ≡ comer.peer
  pub link : given.0 ≡ new_link (length old.state.given) now comer.plan
  pub rest : new ≡ record old { state = new.state; waiting = remove old.waiting place }

-- what accept does to a net in memory, beside what every net tells of it
abbrev pub AcceptsByPlan : ℕ → Result (Option (MemLink × Peer)) NetFault →
    MemNetState → MemNetState → Type 0
AcceptsByPlan now (Ok (Some given)) old new = GivesFirst now given old new
AcceptsByPlan now (Ok None) old new =
    (first_due old.waiting old.state.polls ≡ None) ×
    (new ≡ record old { state = new.state; cleared = old.state.polls })
AcceptsByPlan now (Err fault.Failed) old new =
    new ≡ record old { state = new.state; poll_faults = raised old.poll_faults }
AcceptsByPlan now (Err fault.NoMemory) old new = new ≡ record old { state = new.state }
