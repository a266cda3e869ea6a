-- What contracts see of a buffer over a spill.
use Rattle.std.specs.Prelude.{◌≡◌, ◌≤◌, ◌<◌, ◌-◌, ℕ, Bool, true, false, IsTrue, List, [], length}
use Rattle.std.specs.Prelude.{take, drop, replicate, Result, Ok, Err, refl}
use Rattle.std.specs.Coded.{Coded, code_by, coded×, coded_ℕ, coded_list}
use Rattle.outside.specs.Causes.{Rose}
use Rattle.spill_buffer.specs.declared.fault.BufferFault.{BufferFault}
use Rattle.spill_buffer.specs.declared.fault.BufferFault.TheVariants.{Spill, NoMemory}

pub record Buffered (S : Type 0) : Type 0 where
  -- as many as there are in the buffer; what they are is known where the spill tells
  pub bytes : List ℕ
  -- how many of them stand in memory
  pub in_memory : ℕ
  pub overflow : ℕ
  pub spill : S

abbrev pub buffered_coded : {S : Type 0} → Coded S → Coded (Buffered S)
buffered_coded {S} s = code_by (List ℕ × (ℕ × (ℕ × S))) (coded× (coded_list coded_ℕ)
    (coded× coded_ℕ (coded× coded_ℕ s)))
    (λ b. (b.bytes, (b.in_memory, (b.overflow, b.spill))))
    (λ p. record {
      bytes = p.0;
      in_memory = p.1.0;
      overflow = p.1.1.0;
      spill = p.1.1.1;
    }) (λ _. refl)

-- the bytes are the expected ones where it is told, and as many elsewhere
pub record IsToldAs (tells : Bool) (bytes expected : List ℕ) : Type 0 where
  pub size : length bytes ≡ length expected
  pub told : IsTrue tells → bytes ≡ expected

-- the spill's count rises with the answer Spill alone
abbrev pub SpillCause : {T : Type 0} → Result T BufferFault → ℕ → ℕ → Type 0
SpillCause (Ok _) before now = now ≡ before
SpillCause (Err Spill) before now = Rose before now
SpillCause (Err NoMemory) before now = now ≡ before

-- what stands between two places of a spill, and as many zeros where it doesn't tell
abbrev pub stored : Bool → List ℕ → ℕ → ℕ → List ℕ
stored true content start end = drop start (take end content)
stored false content start end = replicate (end - start) 0

-- bytes in memory, of which some were skipped, or those between two places of a spill
pub record Keeps (memory : List ℕ) (skipped start end overflow size : ℕ) : Type 0 where
  pub within : skipped ≤ length memory
  pub below : length memory - skipped < overflow
  pub ordered : start ≤ end
  pub stands : end ≤ size
  -- never both
  pub apart : start < end → memory ≡ []
