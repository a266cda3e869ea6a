-- A stream by all the bytes that it was fed.
use Rattle.std.specs.Prelude.{◌≡◌, ℕ, List, Bool, false}
use Rattle.request_stream.specs.Reading.{ArePositive, IsSound, HasRead, is_failed, is_over}
use Rattle.request_stream.specs.Room.{held_of}
use Rattle.request_stream.specs.declared.state.State.{State}
use Rattle.request_stream.specs.declared.types.Limits.{Limits}

pub record Story : Type 0 where
  pub limits : Limits
  -- all bytes, each with its moment
  pub fed : List (ℕ × ℕ)
  -- whether a fault was met
  pub failed : Bool
  -- whether a unit that closes was given
  pub over : Bool
  -- how many bytes of the unit under way stand in memory
  pub held : ℕ

-- a stream with this state that was fed so much
abbrev pub story_of : {S : Type 0} → Limits → State S → List (ℕ × ℕ) → Story
story_of limits state fed = record {
  limits = limits;
  fed = fed;
  failed = is_failed state;
  over = is_over state;
  held = held_of state;
}

-- what holds of each stream
pub record Keeps {S : Type 0} (tells : Bool) (limits : Limits) (state : State S)
    (fed : List (ℕ × ℕ)) : Type 0 where
  pub positive : ArePositive limits
  pub sound : is_failed state ≡ false → IsSound limits state
  pub read : is_failed state ≡ false → HasRead tells limits state fed
