-- Internal: what is answered to what is asked for.
use Rattle.std.specs.Prelude.{ℕ, List, string_bytes}
use Rattle.outside.specs.Tree.{content_of}
use Rattle.wsgi.specs.declared.step.Step.{Step}
use Rattle.dir_app.specs.DirScript.{file_script, sizable}
use Rattle.dir_app.specs.Texts.{steps_of}
use Rattle.dir_app.specs.declared.request.Asked.{Asked}
use Rattle.dir_app.specs.declared.request.Asked.TheVariants.{Text, File}

-- a text, or the file of a name among these
abbrev pub asked_script : List (List ℕ × List ℕ) → Asked → List Step
asked_script files (Text text) = steps_of text
asked_script files (File name media bodyless) =
    file_script bodyless media.now (sizable (content_of files (string_bytes name)))
