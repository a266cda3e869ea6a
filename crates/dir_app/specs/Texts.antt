-- Responses that are a short text.
use Rattle.std.specs.Prelude.{ℕ, List, [], ◌∷◌, codes, drop, length, ◌-◌}
use Rattle.head_grammar.specs.declared.types.Field.{Field}
use Rattle.wsgi.specs.declared.step.Step.{Step}
use Rattle.apps.specs.Answers.{not_found, text_script}
use Rattle.dir_app.specs.declared.text_steps.Text.{Text}
use Rattle.dir_app.specs.declared.text_steps.Text.TheVariants.{NotFound, NotAllowed}
use Rattle.dir_app.specs.declared.text_steps.TextSteps.{TextSteps}

-- the methods that are answered (RFC 9110, section 10.2.1)
abbrev pub allowed : List Field
allowed = record { name = codes "Allow"; value = codes "GET, HEAD" } ∷ []

-- 405 (RFC 9110, section 15.5.6)
abbrev pub not_allowed : List Step
not_allowed = text_script (codes "405 Method Not Allowed") allowed (codes "Method Not Allowed")

abbrev pub steps_of : Text → List Step
steps_of NotFound = not_found
steps_of NotAllowed = not_allowed

-- the steps that are left
abbrev pub rest_of : TextSteps → List Step
rest_of steps = drop steps.given (steps_of steps.text)

abbrev pub left_of : TextSteps → ℕ
left_of steps = length (steps_of steps.text) - steps.given
