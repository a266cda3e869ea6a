-- What is shown of a state, of the stream and the moments that the polling side has for itself, and
-- of what both sides did.
use Rattle.std.specs.Prelude.{ℕ, Bool, ◌||◌, length}
use Rattle.request_stream.specs.Story.{Story}
use Rattle.channel.specs.Acting.{output_length}
use Rattle.channel.specs.Histories.{LeftPast, RightPast, left_past, right_past}
use Rattle.channel.specs.State.{State, state_of}
use Rattle.channel.specs.Views.{Shown}
use Rattle.channel.specs.declared.shared.Shared.{Shared}
use Rattle.channel.specs.declared.sides.Acts.{Acts}
use Rattle.outside.specs.declared.noted.Noted.{Noted}

-- left is the number of steps that the run of the current answer may have left
abbrev pub shown_of : {A R S : Type 0} → Story → Bool → ℕ → State A R S → LeftPast S → RightPast S →
    ℕ → Shown
shown_of story ended touched s l r left = record {
  put = length l.put;
  begun = length r.began;
  answered = length r.finished;
  ready = length s.ready;
  current = s.current;
  left = left;
  output = output_length s;
  closing = s.closing;
  finished = story.failed || story.over;
  ended = ended;
  touched = touched;
  dead = s.dead;
}

-- the same, by what is told of what both sides did
abbrev pub shown_by : {A R S : Type 0} → Story → Bool → ℕ → Shared A R S → Noted (Acts S) → ℕ → Shown
shown_by story ended touched state acts left = shown_of story ended touched (state_of state)
    (left_past acts.value.left) (right_past acts.value.right) left
