-- Sinks and spills in memory, and which calls of the kinds in memory fail.
use Rattle.std.specs.Prelude.{◌≡◌, ◌⊎◌, ℕ, Bool, IsTrue, List, [], unwrap_or, slice_get, nat_eq}
use Rattle.std.specs.Prelude.{Result, OnErr, OnOk, IsErr}
use Rattle.std.specs.List.{list_any}
use Rattle.outside.specs.Causes.{faults_after, raised}

-- a number stands in a list
abbrev pub is_listed : List ℕ → ℕ → Bool
is_listed numbers n = list_any (λ y. nat_eq y n) numbers

-- call number `call` fails exactly where it is listed or a growth was refused, and `starved` counts
-- the growths that were refused and nothing else
pub record FailsByPlan {T E : Type 0} (fails : List ℕ) (call before now : ℕ) (result : Result T E) :
    Type 0 where
  pub caused : OnErr result (IsTrue (is_listed fails call) ⊎ (now ≡ raised before))
  pub obeyed : IsTrue (is_listed fails call) → IsErr result
  pub planned : IsTrue (is_listed fails call) → now ≡ before
  pub fed : OnOk result (now ≡ before)

-- a sink in memory
pub record MemSinkState : Type 0 where
  -- the numbers of the calls that fail
  pub fails : List ℕ
  pub written : List ℕ
  -- how many calls there were
  pub calls : ℕ
  pub faults : ℕ
  -- how many calls were refused memory
  pub starved : ℕ

-- a sink in memory after one more call, but for what was written and the refused growths
abbrev pub sink_after : {T E : Type 0} → Result T E → MemSinkState → MemSinkState
sink_after result old = record old {
  calls = raised old.calls;
  faults = faults_after result old.faults;
}

-- a spill in memory
pub record MemSpillState : Type 0 where
  -- the numbers of the calls that fail
  pub fails : List ℕ
  pub content : List ℕ
  -- how many calls there were
  pub calls : ℕ
  pub faults : ℕ
  -- how many calls were refused memory
  pub starved : ℕ

-- a spill in memory after one more call, but for what it holds and the refused growths
abbrev pub spill_after : {T E : Type 0} → Result T E → MemSpillState → MemSpillState
spill_after result old = record old {
  calls = raised old.calls;
  faults = faults_after result old.faults;
}

-- where spills in memory come from
pub record MemSpillsState : Type 0 where
  -- the failing calls of the spills that are not made yet
  pub fails : List (List ℕ)
  pub faults : ℕ

-- the first list, or the empty one where there is none
abbrev pub first_list : List (List ℕ) → List ℕ
first_list lists = unwrap_or (slice_get lists 0) []
