-- Short texts as responses.
use Rattle.std.specs.Prelude.{ℕ, false, List, [], ◌∷◌, ◌++◌, length, codes, decimal}
use Rattle.head_grammar.specs.declared.types.Field.{Field}
use Rattle.wsgi.specs.declared.step.Step.{Step}
use Rattle.wsgi.specs.declared.step.Step.TheVariants.{Start, Whole}

-- the field of a length (RFC 9110, section 8.6)
abbrev pub length_field : ℕ → Field
length_field size = record { name = codes "Content-Length"; value = decimal size }

-- the fields of a text of so many bytes, behind others
abbrev pub text_fields : List Field → ℕ → List Field
text_fields fields size =
    fields
    ++ record { name = codes "Content-Type"; value = codes "text/plain; charset=utf-8" }
    ∷ length_field size
    ∷ []

-- a text in one piece, with these fields in front of its own
unfoldable pub text_script : List ℕ → List Field → List ℕ → List Step
text_script status fields text = Start status (text_fields fields (length text)) false ∷ Whole text
    ∷ []

-- 404 (RFC 9110, section 15.5.5)
abbrev pub not_found : List Step
not_found = text_script (codes "404 Not Found") [] (codes "Not Found")
