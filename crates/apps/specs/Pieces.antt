-- The body of a response in byte strings, as an iterable gives it (PEP 3333, 'Buffering and
-- Streaming').
use Rattle.std.specs.Prelude.{ℕ, suc, ◌+◌, ◌/◌, List, ◌++◌, Option, None, Some, length, map}
use Rattle.std.specs.Option.{option_to_list}
use Rattle.std.specs.Simd.{first_chunks}
use Rattle.wsgi.specs.declared.step.Step.{Step}
use Rattle.wsgi.specs.declared.step.Step.TheVariants.{Piece}

-- how many pieces of 32768 bytes or fewer so many bytes make
abbrev pub piece_count : ℕ → ℕ
piece_count size = (size + 32767) / 32768

-- bytes in pieces, of which the last alone may be shorter
abbrev pub pieces : List ℕ → List Step
pieces bytes = map (λ piece. Piece piece) (first_chunks 32768 (piece_count (length bytes)) bytes)

-- the steps that are left of a response with these bytes, in front of which `start` may still stand
abbrev pub rest_of : Option Step → List ℕ → List Step
rest_of start bytes = option_to_list start ++ pieces bytes

-- how many they are
abbrev pub count_of : Option Step → ℕ → ℕ
count_of None size = piece_count size
count_of (Some _) size = suc (piece_count size)
