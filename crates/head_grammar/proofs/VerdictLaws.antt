-- What holds of each verdict.
use Rattle.std.proofs.Common.{ℕ, List, [], ◌∷◌, refl}
use Rattle.std.specs.Prelude.{Result, Ok, Err}
use Rattle.byte_tables.specs.declared.refusal.Refusal.{Refusal}
use Rattle.head_grammar.specs.FieldLines.{fields_of}
use Rattle.head_grammar.specs.Framings.{framing_of}
use Rattle.head_grammar.specs.RequestLines.{request_line}
use Rattle.head_grammar.specs.Verdict.{HasSize, by_framing, by_fields, by_line, verdict_of}
use Rattle.head_grammar.specs.declared.types.Field.{Field}
use Rattle.head_grammar.specs.declared.types.Framing.{Framing}
use Rattle.head_grammar.specs.Heads.{RequestLine}

framed : (line : RequestLine) (fields : List Field) (size : ℕ) (r : Result Framing Refusal) →
    HasSize size (by_framing line fields size r)
framed line fields size (Err refusal) = tt
framed line fields size (Ok framing) = refl

fielded : (max_body : ℕ) (line : RequestLine) (size : ℕ) (r : Result (List Field) Refusal) →
    HasSize size (by_fields max_body line size r)
fielded max_body line size (Err refusal) = tt
fielded max_body line size (Ok fields) = framed line fields size
    (framing_of line.version fields max_body)

lined : (max_body : ℕ) (rest : List (List ℕ)) (size : ℕ) (r : Result RequestLine Refusal) →
    HasSize size (by_line max_body rest size r)
lined max_body rest size (Err refusal) = tt
lined max_body rest size (Ok line) = fielded max_body line size (fields_of rest)

judged : (max_body : ℕ) (lines : List (List ℕ)) (size : ℕ) →
    HasSize size (verdict_of max_body lines size)
judged max_body [] size = tt
judged max_body (line ∷ rest) size = lined max_body rest size (request_line line)
