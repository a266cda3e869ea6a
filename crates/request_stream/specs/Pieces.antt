-- Internal: what a step of a stream is given.
use Rattle.std.specs.Prelude.{◌<◌, ℕ, List, length}
use Rattle.request_stream.specs.Reading.{ArePositive}
use Rattle.request_stream.specs.declared.types.Limits.{Limits}

-- some bytes, and limits that let some through
pub record IsFed (limits : Limits) (piece : List ℕ) : Type 0 where
  pub some : 0 < length piece
  pub positive : ArePositive limits
