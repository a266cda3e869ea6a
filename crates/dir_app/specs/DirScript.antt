-- What a directory answers.
use Rattle.std.specs.Prelude.{ℕ, Bool, true, false, ◌^◌, nat_lt, List, [], ◌∷◌, ◌++◌, length, codes}
use Rattle.std.specs.Prelude.{Option, None, Some, if◌then◌else◌}
use Rattle.std.specs.Str.{bytes_eq}
use Rattle.outside.specs.Tree.{content_of}
use Rattle.wsgi.specs.declared.step.Step.{Step}
use Rattle.wsgi.specs.declared.step.Step.TheVariants.{Start}
use Rattle.apps.specs.Answers.{length_field, not_found}
use Rattle.apps.specs.Pieces.{pieces}
use Rattle.apps.specs.Variables.{variable}
use Rattle.dir_app.specs.Media.{media_type}
use Rattle.dir_app.specs.Names.{last_part, path_of, rooted, stays_below}
use Rattle.dir_app.specs.Texts.{not_allowed}

unfoldable pub file_start : List ℕ → ℕ → Step
file_start media size = Start (codes "200 OK")
    (record { name = codes "Content-Type"; value = media } ∷ length_field size ∷ [])
    false

-- a file has a size of 64 bits
abbrev pub sizable : Option (List ℕ) → Option (List ℕ)
sizable None = None
sizable (Some bytes) = if nat_lt (length bytes) (2 ^ 64) then Some bytes else None

-- a file of this media type, whose content a HEAD doesn't get (RFC 9110, section 9.3.2)
abbrev pub file_script : Bool → List ℕ → Option (List ℕ) → List Step
file_script bodyless media None = not_found
file_script bodyless media (Some bytes) = file_start media (length bytes) ∷
    (if bodyless then [] else pieces bytes)

-- the file of a path below the root
abbrev pub path_script : List (List ℕ × List ℕ) → List ℕ → Bool → List ℕ → List Step
path_script files root bodyless path =
    file_script bodyless (media_type (last_part path)) (sizable
    (content_of files (root ++ path_of path)))

abbrev pub name_script : List (List ℕ × List ℕ) → List ℕ → Bool → List ℕ → List Step
name_script files root bodyless path =
    if stays_below path then path_script files root bodyless path else not_found

-- GET and HEAD alone are answered, by the file that the path of the request names
abbrev pub dir_script : List (List ℕ × List ℕ) → List ℕ → List (List ℕ × List ℕ) → List ℕ →
    List Step
dir_script files root environ _ =
    let method = variable (codes "REQUEST_METHOD") environ in
    let path = rooted (variable (codes "PATH_INFO") environ) in
    if bytes_eq method (codes "GET") then name_script files root false path
    else if bytes_eq method (codes "HEAD") then name_script files root true path
    else not_allowed
