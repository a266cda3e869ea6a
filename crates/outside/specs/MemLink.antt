-- A link in memory.
use Rattle.std.specs.Prelude.{◌≡◌, ◌<◌, ◌≤◌, ◌+◌, ◌-◌, ◌==◌, ℕ, zero, suc, Bool, false, IsTrue, min}
use Rattle.std.specs.Prelude.{length, take, map, Option, None, Some, if◌then◌else◌, MatchBool}
use Rattle.std.specs.Prelude.{slice_get}
use Rattle.outside.specs.Causes.{raised}
use Rattle.outside.specs.Link.{LinkState, opened}
use Rattle.outside.specs.Memory.{is_listed}
use Rattle.outside.specs.declared.types.Recv.{Recv}
use Rattle.outside.specs.declared.types.Recv.TheVariants as got
use Rattle.outside.specs.declared.types.Sent.{Sent}
use Rattle.outside.specs.declared.types.Sent.TheVariants as took
use Rattle.outside.specs.declared.plans.LinkPlan.{LinkPlan}

pub record MemLinkState : Type 0 where
  pub key : ℕ
  pub plan : LinkPlan
  pub state : LinkState
  pub faults : ℕ
  -- how many calls were refused memory
  pub starved : ℕ
  -- how many recvs there were, how many of them did not fail, and how many sends
  pub recvs : ℕ
  pub reads : ℕ
  pub sends : ℕ

-- a link of this number and plan, before any call
abbrev pub new_link : ℕ → ℕ → LinkPlan → MemLinkState
new_link key now plan = record {
  key = key;
  plan = plan;
  state = opened now;
  faults = 0;
  starved = 0;
  recvs = 0;
  reads = 0;
  sends = 0;
}

-- at most this many, where there is a limit
abbrev pub within : Option ℕ → ℕ → ℕ
within None n = n
within (Some limit) n = min limit n

-- no byte is no answer yet
abbrev pub got_of : ℕ → Recv
got_of zero = got.NotYet
got_of (suc n) = got.Got (suc n)

-- what a link answers whose input is used up
abbrev pub at_end : Bool → Recv
at_end ends = if ends then got.End else got.NotYet

-- how much of the input is left
abbrev pub left_of : MemLinkState → ℕ
left_of link = length link.plan.input - length link.state.arrivals

-- what recv answers, for a buffer of this room: all that it can within the limit of the plan
abbrev pub recv_answer : MemLinkState → ℕ → Recv
recv_answer link room =
    if is_listed link.plan.recv_fails link.recvs then got.Failed
    else (if length link.plan.input == length link.state.arrivals then at_end link.plan.ends
    else got_of (within (slice_get link.plan.gives link.reads) (min (left_of link) room)))

-- the number of recvs that did not fail, after one more recv
abbrev pub reads_after : Recv → ℕ → ℕ
reads_after got.Failed reads = reads
reads_after (got.Got _) reads = raised reads
reads_after got.NotYet reads = raised reads
reads_after got.End reads = raised reads

-- the count of faults after a recv
abbrev pub recv_faults : Recv → ℕ → ℕ
recv_faults got.Failed faults = raised faults
recv_faults (got.Got _) faults = faults
recv_faults got.NotYet faults = faults
recv_faults got.End faults = faults

-- the count of faults after a send
abbrev pub send_faults : Sent → ℕ → ℕ
send_faults took.Failed faults = raised faults
send_faults (took.Took _) faults = faults
send_faults took.NotYet faults = faults

-- how many of so many bytes the next send takes, if it takes some
abbrev pub takes_now : MemLinkState → ℕ → ℕ
takes_now link offered = within (slice_get link.plan.takes link.sends) offered

-- the next send does not fail by plan, and was not refused memory
pub record SendGoesOn (link : MemLinkState) (starved : ℕ) : Type 0 where
  pub unplanned : is_listed link.plan.send_fails link.sends ≡ false
  pub fed : starved ≡ link.starved

-- what send answers, to so many bytes, where `starved` counts the refused growths after it: it
-- takes all that it can within the limit of the plan, and fails exactly where the plan lets it, or
-- where it was refused memory
abbrev pub SendsByPlan : MemLinkState → ℕ → ℕ → Sent → Type 0
SendsByPlan link starved offered (took.Took n) =
    (n ≡ takes_now link offered) × SendGoesOn link starved
SendsByPlan link starved offered took.NotYet =
    (takes_now link offered ≡ 0) × SendGoesOn link starved
SendsByPlan link starved offered took.Failed =
    MatchBool (is_listed link.plan.send_fails link.sends)
    (starved ≡ link.starved) (starved ≡ raised link.starved)

-- what a link in memory keeps at each moment
pub record KeepsToPlan (link : MemLinkState) : Type 0 where
  -- what came is a front of the input
  pub no_more : length link.state.arrivals ≤ length link.plan.input
  pub came : map (λ a. a.1) link.state.arrivals ≡ take (length link.state.arrivals) link.plan.input
  pub ended : IsTrue link.state.ended → IsTrue link.plan.ends
  -- it has failed only where the plan lets a call fail, or where it was refused memory
  pub caused : 0 < link.faults →
      0 < length link.plan.recv_fails + length link.plan.send_fails + link.starved
  -- a recv was put off only where the plan has a 0 for one, or the input is used up
  pub recv_put_off : 0 < link.state.recv_put_off → 0 < left_of link →
      IsTrue (is_listed link.plan.gives 0)
  -- a send was put off only where the plan has a 0 for one
  pub send_put_off : 0 < link.state.send_put_off → IsTrue (is_listed link.plan.takes 0)
