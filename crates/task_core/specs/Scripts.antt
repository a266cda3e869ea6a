-- What the steps of a response say: where they fail, what begins the head, what the body is of (PEP
-- 3333, 'The start_response() Callable' and 'Buffering and Streaming').
use Rattle.std.specs.Prelude.{ℕ, suc, Bool, true, false, not, ◌&&◌, ◌||◌, nat_lt, List, [], ◌∷◌}
use Rattle.std.specs.Prelude.{◌++◌, length, take, filter, find, Option, Some, None, if◌then◌else◌}
use Rattle.std.specs.List.{filter_map, last_or, list_any}
use Rattle.head_grammar.specs.declared.types.Field.{Field}
use Rattle.task_core.specs.Starts.{is_valid}
use Rattle.wsgi.specs.declared.step.Step.{Step}
use Rattle.wsgi.specs.declared.step.Step.TheVariants.{Start, Piece, Whole, Fail}

-- the status and the fields of a Start
abbrev pub start_of : Step → Option (List ℕ × List Field)
start_of (Start status fields replace) = Some (status, fields)
start_of (Piece bytes) = None
start_of (Whole bytes) = None
start_of Fail = None

abbrev pub is_start : Step → Bool
is_start (Start status fields replace) = true
is_start (Piece bytes) = false
is_start (Whole bytes) = false
is_start Fail = false

-- the bytes of a Piece or Whole
abbrev pub bytes_of : Step → Option (List ℕ)
bytes_of (Start status fields replace) = None
bytes_of (Piece bytes) = Some bytes
bytes_of (Whole bytes) = Some bytes
bytes_of Fail = None

abbrev pub has_bytes : List ℕ → Bool
has_bytes bytes = nat_lt 0 (length bytes)

-- whether a step is a Piece or Whole that has a byte
abbrev pub is_filled : Step → Bool
is_filled (Start status fields replace) = false
is_filled (Piece bytes) = has_bytes bytes
is_filled (Whole bytes) = has_bytes bytes
is_filled Fail = false

abbrev pub has_start : List Step → Bool
has_start steps = list_any is_start steps

-- the head is written with the first byte of the body
abbrev pub has_head : List Step → Bool
has_head steps = list_any is_filled steps

-- Whether a step is a failure of the application, behind the steps before it: a Start that has no
-- exc_info behind another one, or behind the head, or that isn't valid; a byte of the body before
-- any Start; an exception.
abbrev pub is_failure : List Step → Step → Bool
is_failure before (Start status fields replace) =
    has_start before && not replace || has_head before || not (is_valid status fields)
is_failure before (Piece bytes) = has_bytes bytes && not (has_start before)
is_failure before (Whole bytes) = has_bytes bytes && not (has_start before)
is_failure before Fail = true

-- how many steps, behind those before, stand in front of the first failure
unfoldable pub failure_behind : List Step → List Step → ℕ
failure_behind before [] = 0
failure_behind before (step ∷ rest) =
    if is_failure before step then 0 else suc (failure_behind (before ++ step ∷ []) rest)

-- the least place of a failure, or the script's end
abbrev pub failure_place : List Step → ℕ
failure_place script = failure_behind [] script

-- the steps before it, which are all that the client sees anything of
abbrev pub sound_steps : List Step → List Step
sound_steps script = take (failure_place script) script

-- whether the application failed: at a step, or at the end where there was no Start
abbrev pub has_failed : List Step → Bool
has_failed script = nat_lt (failure_place script) (length script) || not (has_start script)

-- the step with which the head is written, where it isn't written at the script's end
abbrev pub head_writer : List Step → Option Step
head_writer steps = find is_filled steps

-- the steps before the head is written
abbrev pub before_head : List Step → List Step
before_head [] = []
before_head (step ∷ rest) = if is_filled step then [] else step ∷ before_head rest

-- the last Start before the head is written
abbrev pub start_in_force : List Step → Option (List ℕ × List Field)
start_in_force steps = last_or None (filter_map start_of (before_head steps))

-- what the body is made of: the bytes of each Piece and Whole that has any
abbrev pub pieces : List Step → List (List ℕ)
pieces steps = filter has_bytes (filter_map bytes_of steps)
