-- What the program leaves of connections, files and sinks in memory.
use Rattle.std.specs.Prelude.{◌≡◌, ◌<◌, ◌⊎◌, ◌||◌, ℕ, true, false, IsTrue, List}
use Rattle.adjust.specs.Command.{command}
use Rattle.channel.specs.Output.{Input, IsPrefix}
use Rattle.channel.specs.Views.{Owed}
use Rattle.outside.specs.Causes.{Rose}
use Rattle.outside.specs.Net.{NetState}
use Rattle.outside.specs.declared.mem_link.MemLink.{MemLink}
use Rattle.outside.specs.declared.plans.LinkPlan.{LinkPlan}
use Rattle.outside.specs.declared.retired.Retired.{Retired}
use Rattle.outside.specs.declared.types.Peer.{Peer}
use Rattle.in_memory.specs.declared.Memory.{Memory}
use Rattle.poll_loop.specs.Accounts.{Stops}
use Rattle.poll_loop.specs.Entries.{EntryHolds, Grounds}
use Rattle.waitress_serve.specs.Completeness.{IsBrief, IsStill}
use Rattle.waitress_serve.specs.Headline.{WentDown, grounds}
use Rattle.waitress_serve.specs.Made.{CannotMake, Files, can_serve, reads_files}
use Rattle.waitress_serve.specs.Owed.{service}
use Rattle.waitress_serve.specs.Reading.{is_faulty, is_unbuilt, prints, serves}
use Rattle.waitress_serve.specs.Status.{MeetsLimit, limit_by, timeout_by}
use Rattle.waitress_serve.specs.declared.made.Unmade.{Unmade}

-- ---- the connections

-- It was sent nothing but the front of what its peer is owed for what arrived.
abbrev pub IsSentFront : (Peer → Input → Owed) → Retired MemLink → Type 0
IsSentFront owed entry =
    IsPrefix entry.link.state.sent (owed entry.peer entry.link.state.arrivals).output

-- Why the whole server may have gone down, and why a run may have broken: only those of a directory
-- read files while they run.
abbrev pub reasons : List (List ℕ) → ℕ → NetState MemLink LinkPlan → NetState MemLink LinkPlan →
    ℕ → ℕ → Grounds
reasons words status old new before now =
    grounds (WentDown status old new before now) (IsTrue (reads_files (command words)))

-- It was sent such a front, at moments of the net, and its end has its cause.
abbrev pub EndsFor : List (List ℕ) → Files → Grounds → NetState MemLink LinkPlan →
    Retired MemLink → Type 0
EndsFor words files reasons net entry =
    EntryHolds (service (record { link = true; all = true }) words files) reasons
    (λ link. link.state) (λ link. link.faults) net entry

-- ---- the whole

-- The words are to serve, what they name can be made, the net tells to stop once nobody is left,
-- nothing failed, and no more time went by than the timeout.
pub record StaysSound (words : List (List ℕ)) (old new : Memory) : Type 0 where
  pub can : IsTrue (can_serve true old.tree.files (command words))
  pub quiet : IsTrue old.net.state.quiet
  pub brief : IsBrief (timeout_by (command words)) new.net.state
  pub bind : IsStill old.net.bind_faults new.net.bind_faults
  pub poll : IsStill old.net.poll_faults new.net.poll_faults
  pub spills : IsStill old.spills.faults new.spills.faults
  pub tree : IsStill old.tree.faults new.tree.faults
  pub out : IsStill old.out.faults new.out.faults
  pub err : IsStill old.err.faults new.err.faults

-- ---- the status

pub record HasStatus (words : List (List ℕ)) (old new : Memory) (status : ℕ) : Type 0 where
  -- all was printed, or the last poll told to stop, or so many were served as were to be
  pub zero : status ≡ 0 →
      IsTrue (can_serve true old.tree.files (command words) || prints (command words))
  pub stopped : IsTrue (serves (command words)) → status ≡ 0 →
      Stops old.net.state new.net.state
      ⊎ MeetsLimit (limit_by (command words)) old.net.state new.net.state
  pub printing : IsTrue (prints (command words)) → (status ≡ 0) ⊎ (status ≡ 5) ⊎ (status ≡ 6)
  -- the words are faulty
  pub one : status ≡ 1 → IsTrue (is_faulty (command words))
  pub faulty : IsTrue (is_faulty (command words)) →
      (status ≡ 1) ⊎ (status ≡ 5) ⊎ ((status ≡ 6) × Rose old.err.faults new.err.faults)
  -- what they ask for isn't built, or its application can't be made
  pub two : status ≡ 2 → IsTrue (is_unbuilt (command words)) ⊎ ((why : Unmade) ×
      CannotMake true old.tree.faults new.tree.faults old.tree.files (command words) why)
  pub unbuilt : IsTrue (is_unbuilt (command words)) →
      (status ≡ 2) ⊎ (status ≡ 5) ⊎ ((status ≡ 6) × Rose old.err.faults new.err.faults)
  pub unmade : IsTrue (serves (command words)) →
      can_serve true old.tree.files (command words) ≡ false →
      (status ≡ 2) ⊎ (status ≡ 5) ⊎ ((status ≡ 6) × Rose old.err.faults new.err.faults)
  -- the bind failed, a poll or accept did, or a sink; 5 is want of memory
  pub three : status ≡ 3 → Rose old.net.bind_faults new.net.bind_faults
  pub four : status ≡ 4 → Rose old.net.poll_faults new.net.poll_faults
  pub six : status ≡ 6 →
      Rose old.out.faults new.out.faults ⊎ Rose old.err.faults new.err.faults
  pub bind_failed : old.net.bind_faults < new.net.bind_faults →
      (status ≡ 3) ⊎ (status ≡ 5) ⊎ (status ≡ 6)
  pub poll_failed : old.net.poll_faults < new.net.poll_faults →
      (status ≡ 4) ⊎ (status ≡ 5) ⊎ (status ≡ 6)
  pub out_failed : old.out.faults < new.out.faults → status ≡ 6
  pub err_failed : old.err.faults < new.err.faults → status ≡ 6
  pub no_other : (status ≡ 0) ⊎ (status ≡ 1) ⊎ (status ≡ 2) ⊎ (status ≡ 3) ⊎ (status ≡ 4)
      ⊎ (status ≡ 5) ⊎ (status ≡ 6)
