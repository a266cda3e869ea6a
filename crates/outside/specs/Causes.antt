-- Counts of faults and of calls, which never fall.
use Rattle.std.specs.Prelude.{◌≡◌, ◌≤◌, ◌+◌, ◌-◌, ◌^◌, ℕ, min, max, Result, Ok, Err, OnErr, OnOk}

-- the count after one more, which stands still at the greatest u64
abbrev pub raised : ℕ → ℕ
raised count = max count (min (count + 1) (2 ^ 64 - 1))

-- the count has gone up in a call, or stands at the greatest u64
abbrev pub Rose : ℕ → ℕ → Type 0
Rose before now = raised before ≤ now

-- a fault is answered only where the count rose, and the count rises with nothing else
pub record HasCause {T E : Type 0} (before now : ℕ) (result : Result T E) : Type 0 where
  pub later : before ≤ now
  pub failed : OnErr result (Rose before now)
  pub kept : OnOk result (now ≡ before)

-- the count of faults after a call, which each failure raises by one and nothing else changes
abbrev pub faults_after : {T E : Type 0} → Result T E → ℕ → ℕ
faults_after (Ok _) count = count
faults_after (Err _) count = raised count

-- a count after so many more, which stands still at the greatest u64
abbrev pub added : ℕ → ℕ → ℕ
added count more = max count (min (count + more) (2 ^ 64 - 1))
