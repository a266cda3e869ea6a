-- What a rehearsal leaves of its net, and of where its text goes.
use Rattle.std.specs.Prelude.{◌≡◌, ◌≤◌, ◌<◌, ◌++◌, ℕ, Bool, true, List, length, map, take}
use Rattle.std.specs.Prelude.{IsPermutation}
use Rattle.channel.specs.Output.{Script}
use Rattle.channel.specs.Views.{telling}
use Rattle.outside.specs.MemNet.{MemNetState, fresh, seat_of}
use Rattle.outside.specs.Net.{NetState}
use Rattle.outside.specs.declared.mem_link.MemLink.{MemLink}
use Rattle.outside.specs.declared.plans.LinkPlan.{LinkPlan}
use Rattle.outside.specs.declared.retired.Retired.{Retired}
use Rattle.outside.specs.declared.types.End.{End}
use Rattle.outside.specs.declared.types.End.TheVariants as over
use Rattle.poll_loop.specs.Accounts.{retired_of}
use Rattle.poll_loop.specs.Connections.{HasBroken, going_on, service_by}
use Rattle.poll_loop.specs.Entries.{EntryHolds}
use Rattle.poll_loop.specs.Lists.{EachIs}
use Rattle.poll_loop.specs.declared.settings.Settings.{Settings}
use Rattle.rehearsal.specs.Plans.{net_plan}

-- a net that a rehearsal begins with
pub record IsRehearsal (net : MemNetState) : Type 0 where
  pub connections : ℕ
  pub few : connections ≤ 20000
  pub is : net ≡ fresh (net_plan connections)

-- Why a connection of a rehearsal may have ended: nobody waits for too long, and nobody is shut
-- down. A link fails only where memory was refused, and the application only where its runs do.
abbrev pub MayEnd : Type 0 → MemLink → End → Type 0
MayEnd broke link over.Done = Unit {0}
MayEnd broke link over.NoMemory = Unit {0}
MayEnd broke link over.SpillFault = Unit {0}
MayEnd broke link over.LinkFault = 0 < link.starved
MayEnd broke link over.AppFault = broke
MayEnd broke link (over.TimedOut touched now) = ⊥
MayEnd broke link over.ShutDown = ⊥

-- Who was to come are those who were retired, each with its own peer and plan; this holds of each,
-- and each ended so.
pub record Rehearsed (Holds : NetState MemLink LinkPlan → Retired MemLink → Type 0) (broke : Type 0)
    (old new : MemNetState) : Type 0 where
  pub all : length new.state.closed ≡ length old.waiting
  pub who : ∥ IsPermutation (map seat_of old.waiting)
      (retired_of (λ link. link.plan) new.state.closed) ∥₁
  pub each : EachIs (Holds new.state) new.state.closed
  pub ends : EachIs (λ entry. MayEnd broke entry.link entry.end) new.state.closed

-- the first bytes of a text were written
pub record WritesPart (text old new : List ℕ) : Type 0 where
  pub count : ℕ
  pub written : new ≡ old ++ take count text

-- What holds of each connection that is retired while serving goes on, by whether the application
-- tells, its script, the faults of its runs, the settings and the application.
abbrev pub holds_of : {A R : Type 0} → Bool → (A → Script) → (R → ℕ) → Settings → A →
    NetState MemLink LinkPlan → Retired MemLink → Type 0
holds_of tells script faults settings app =
    EntryHolds (service_by (telling true true tells) script settings app)
    (going_on (HasBroken faults)) (λ link. link.state) (λ link. link.faults)
