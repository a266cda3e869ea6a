-- What the echo application answers.
use Rattle.std.specs.Prelude.{ℕ, false, List, [], ◌∷◌, length, codes, unwrap_or}
use Rattle.wsgi.specs.Environ.{first_value}
use Rattle.wsgi.specs.declared.step.Step.{Step}
use Rattle.wsgi.specs.declared.step.Step.TheVariants.{Start}
use Rattle.apps.specs.Answers.{length_field}
use Rattle.apps.specs.Pieces.{pieces}

-- the request's content type, or that of unknown bytes (RFC 2046, section 4.5.1)
unfoldable pub echo_type : List (List ℕ × List ℕ) → List ℕ
echo_type environ = unwrap_or (first_value (codes "CONTENT_TYPE") environ)
    (codes "application/octet-stream")

unfoldable pub echo_start : List (List ℕ × List ℕ) → ℕ → Step
echo_start environ size = Start (codes "200 OK")
    (record { name = codes "Content-Type"; value = echo_type environ } ∷ length_field size ∷ [])
    false

-- the body comes back
abbrev pub echo_script : List (List ℕ × List ℕ) → List ℕ → List Step
echo_script environ body = echo_start environ (length body) ∷ pieces body
