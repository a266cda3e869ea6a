-- Internal: the laws of the crates below on which the units of an input rest.
use Rattle.std.specs.Prelude.{◌≡◌, ◌≤◌, ℕ, List, [], ◌++◌, length, None, Some}
use Rattle.chunk_body.specs.Bodies.{partial, IsSettled, LiesWithin}
use Rattle.head_grammar.specs.Ends.{head_end}
use Rattle.request_stream.specs.Units.{coded_by}
use Rattle.request_stream.specs.declared.types.Limits.{Limits}

pub record Grammar : Type 0 where
  -- no head ends among no bytes
  pub no_end : head_end [] ≡ None
  pub end_within : (bytes : List ℕ) (n : ℕ) → head_end bytes ≡ Some n → (4 ≤ n) × (n ≤ length bytes)
  -- bytes behind the end of a head change nothing
  pub end_settled : (bytes more : List ℕ) (n : ℕ) → head_end bytes ≡ Some n →
      head_end (bytes ++ more) ≡ Some n
  -- no bytes are a part of a body
  pub no_body : (limits : Limits) → coded_by limits [] ≡ partial []
  pub body_within : (limits : Limits) (bytes : List ℕ) →
      LiesWithin (length bytes) (coded_by limits bytes)
  -- bytes behind a whole body, or behind a refused byte, change nothing
  pub body_settled : (limits : Limits) (bytes more : List ℕ) → IsSettled (coded_by limits bytes) →
      coded_by limits (bytes ++ more) ≡ coded_by limits bytes
