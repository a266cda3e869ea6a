-- Files by name.
use Rattle.std.specs.Prelude.{ℕ, List, map, filter, find, nat_eq, Option, None, Some, Result, Ok}
use Rattle.std.specs.Prelude.{Err}
use Rattle.std.specs.Option.{option_map}
use Rattle.std.specs.Cmp.Lexicographic.{pointwise}
use Rattle.outside.specs.Causes.{faults_after, raised}
use Rattle.outside.specs.declared.types.Failed.{Failed}

-- the content of the first file of this name
abbrev pub content_of : List (List ℕ × List ℕ) → List ℕ → Option (List ℕ)
content_of files name =
    option_map (λ file. file.1) (find (λ file. pointwise nat_eq file.0 name) files)

-- the size that is known after a call of size
abbrev pub Sizes : Result (Option ℕ) Failed → Option ℕ → Option ℕ
Sizes (Ok (Some n)) old = Some n
Sizes (Ok None) old = old
Sizes (Err _) old = old

-- an entry in memory
pub record MemEntryState : Type 0 where
  pub file : Option (List ℕ)
  pub sized : Option ℕ
  -- the numbers of the calls that fail
  pub fails : List ℕ
  -- how many calls there were
  pub calls : ℕ
  pub faults : ℕ

-- an entry in memory after one more call, but for its size
abbrev pub entry_after : {T E : Type 0} → Result T E → MemEntryState → MemEntryState
entry_after result old = record old {
  calls = raised old.calls;
  faults = faults_after result old.faults;
}

-- a tree in memory
pub record MemTreeState : Type 0 where
  pub files : List (List ℕ × List ℕ)
  -- names, each with the number of a call that fails on the entries of that name
  pub fails : List (List ℕ × ℕ)
  pub faults : ℕ

-- the numbers that stand beside this name
abbrev pub numbers_of : List (List ℕ × ℕ) → List ℕ → List ℕ
numbers_of fails name = map (λ fail. fail.1) (filter (λ fail. pointwise nat_eq fail.0 name) fails)
