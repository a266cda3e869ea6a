-- Internal: the steps that are left of a file, by what was found of it.
use Rattle.std.specs.Prelude.{ℕ, Bool, ◌+◌, ◌-◌, ◌^◌, List, [], drop, Option, None, Some, unwrap_or}
use Rattle.wsgi.specs.declared.step.Step.{Step}
use Rattle.apps.specs.Pieces.{piece_count, pieces}
use Rattle.dir_app.specs.DirScript.{file_script, sizable}
use Rattle.dir_app.specs.Texts.{left_of, rest_of}
use Rattle.dir_app.specs.declared.file_steps.Progress.{Progress}
use Rattle.dir_app.specs.declared.file_steps.Progress.TheVariants.{Unseen, Missing, Found}

-- the steps that are left, where the file has this content
abbrev pub file_rest : Bool → List ℕ → Option (List ℕ) → Progress → List Step
file_rest bodyless media file Unseen = file_script bodyless media (sizable file)
file_rest bodyless media file (Missing text) = rest_of text
file_rest bodyless media file (Found at size) = pieces (drop at (unwrap_or file []))

-- how many they may be, for a file of any size before it is looked at
abbrev pub file_left : Progress → ℕ
file_left Unseen = 2 ^ 49 + 1
file_left (Missing text) = left_of text
file_left (Found at size) = piece_count (size - at)

-- the size that was found
abbrev pub size_of : Progress → Option ℕ
size_of Unseen = None
size_of (Missing text) = None
size_of (Found at size) = Some size

abbrev pub place_of : Progress → ℕ
place_of Unseen = 0
place_of (Missing text) = 0
place_of (Found at size) = at
