-- What is known of a rehearsal between two turns.
use Rattle.std.specs.Prelude.{◌≡◌, ◌<◌, ◌++◌, ℕ, true, false, List, length, None}
use Rattle.std.specs.Prelude.{IsPermutation}
use Rattle.std.specs.List.{list_any, sum_by}
use Rattle.channel.specs.Views.{Seen}
use Rattle.outside.specs.Memory.{is_listed}
use Rattle.outside.specs.MemLink.{KeepsToPlan}
use Rattle.outside.specs.MemNet.{KeepsToNetPlan, MemNetState, first_due}
use Rattle.outside.specs.declared.mem_link.MemLink.{MemLink}
use Rattle.outside.specs.declared.plans.LinkPlan.{LinkPlan}
use Rattle.outside.specs.declared.types.Peer.{Peer}
use Rattle.poll_loop.specs.Lists.{EachIs}
use Rattle.poll_loop.specs.NoIdle.{NoIdle, Serving, who}
use Rattle.poll_loop.specs.Seat.{Eyes}
use Rattle.outside.specs.Net.{NetState}
use Rattle.rehearsal.specs.Plans.{net_plan}
use Rattle.request_stream.specs.Units.{bytes_of, closing, units}
use Rattle.request_stream.specs.declared.types.Limits.{Limits}
use Rattle.rehearse.specs.Falling.{Flowing}

-- how links in memory are seen
abbrev pub mem_eyes : Eyes MemLink LinkPlan
mem_eyes = record {
  tells = true;
  state = λ link. link.state;
  faults = λ link. link.faults;
  key = λ link. link.key;
  plan = λ link. link.plan;
}

-- A link of this plan does not end and puts nothing off, and once all its bytes have come,
-- something was asked for behind which nothing is.
pub record IsEven (plan : LinkPlan) : Type 0 where
  pub goes_on : plan.ends ≡ false
  pub gives : is_listed plan.gives 0 ≡ false
  pub takes : is_listed plan.takes 0 ≡ false
  pub closes : (limits : Limits) (x : List (ℕ × ℕ)) → 0 < limits.max_head →
      bytes_of x ≡ plan.input → list_any closing (units limits x) ≡ true

-- what is known of an open connection
pub record IsOnCourse {A : Type 0} (lane : Seen MemLink A) : Type 0 where
  pub plan : IsEven lane.link.plan
  pub keeps : KeepsToPlan lane.link
  pub faultless : lane.link.faults ≡ 0
  pub positive : 0 < lane.fixed.limits.max_head
  pub finished : list_any closing (units lane.fixed.limits lane.link.state.arrivals) ≡ true →
      lane.shown.finished ≡ true

-- nobody is left who came by now
abbrev pub HasNobody : MemNetState → Type 0
HasNobody net = first_due net.waiting net.state.polls ≡ None

-- what is known of the net and of the server
pub record IsUnderWay {A R : Type 0} (connections : ℕ) (net : MemNetState)
    (server : Serving MemLink A R) : Type 0 where
  pub plan : net.plan ≡ net_plan connections
  pub keeps : KeepsToNetPlan net
  pub live : net.state.live ≡ length server.open'
  pub room : 0 < server.settings.connection_limit
  pub unlimited : server.settings.serve_limit ≡ None
  pub lanes : EachIs IsOnCourse server.open'

-- how many bytes the inputs of these have together
abbrev pub whole_of : List (Peer × LinkPlan) → ℕ
whole_of open' = sum_by (λ one. length one.1.input) open'

-- whoever was open or came since has gone or is open
pub record IsAccounted (old new : NetState MemLink LinkPlan) (olds news : List (Peer × LinkPlan)) :
    Type 0 where
  pub since : List (Peer × LinkPlan)
  pub gone : List (Peer × LinkPlan)
  pub given : new.given ≡ old.given ++ since
  pub same : IsPermutation (olds ++ since) (gone ++ news)

-- a turn between two such moments is one in which nothing is put off
abbrev pub TurnsFlow : Type 0 → Type 0 → Type 0
TurnsFlow A R = (connections : ℕ) (old new : MemNetState) (before now : Serving MemLink A R) →
    IsUnderWay connections old before → IsUnderWay connections new now →
    (turn : NoIdle mem_eyes before now (HasNobody new) old.state new.state) →
    IsAccounted old.state new.state (who mem_eyes before) (who mem_eyes now) →
    Flowing mem_eyes before now (HasNobody new) old.state new.state turn
    (length old.waiting) (length new.waiting)
    (whole_of (who mem_eyes before)) (whole_of (who mem_eyes now))
