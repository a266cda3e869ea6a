-- The fields that are left of those that are walked.
use Rattle.std.proofs.Common.{◌≡◌, List, [], ◌∷◌, ◌++◌, ap, sym, ◌∙◌}
use Rattle.std.proofs.lemmas.List.{append_assoc, append-nil}
use Rattle.head_grammar.specs.Combining.{added}
use Rattle.head_grammar.specs.FieldLines.{combined}
use Rattle.head_grammar.specs.declared.types.Field.{Field}
use Rattle.head_grammar.proofs.OneByOne.{combined_more}

-- fields to which others are added one by one
abbrev pub all_added : List Field → List Field → List Field
all_added fields [] = fields
all_added fields (field ∷ rest) = all_added (added fields field) rest

added_on : (done rest : List Field) → all_added (combined done) rest ≡ combined (done ++ rest)
added_on done [] = ap combined (sym (append-nil done))
added_on done (field ∷ rest) =
    ap (λ front. all_added front rest) (sym (combined_more done field)) ∙
    (added_on (done ++ field ∷ []) rest ∙ ap combined (append_assoc done (field ∷ []) rest))

pub added_all : (fields : List Field) → all_added [] fields ≡ combined fields
added_all fields = added_on [] fields
