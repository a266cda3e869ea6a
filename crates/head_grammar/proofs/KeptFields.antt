-- The fields that were kept so far, and those of the lines that are left.
use Rattle.std.proofs.Common.{◌≡◌, ℕ, Bool, true, false, List, [], ◌∷◌, ◌++◌, refl, ap, sym, ◌∙◌}
use Rattle.std.proofs.Common.{cond}
use Rattle.std.specs.Prelude.{Result, Ok, Err}
use Rattle.std.proofs.lemmas.List.{append-nil, append_assoc}
use Rattle.byte_tables.specs.declared.refusal.Refusal.{Refusal}
use Rattle.head_grammar.specs.declared.types.Field.{Field}
use Rattle.head_grammar.specs.FieldLines.{is_kept, kept, kept_of, kept_fields, field_line}
use Rattle.head_grammar.specs.FieldLines.{field_lines, onto_fields, unfolded}

-- fields in front of those that are kept of the others
abbrev pub behind : List Field → Result (List Field) Refusal → Result (List Field) Refusal
behind before (Err refusal) = Err refusal
behind before (Ok rest) = Ok (before ++ kept rest)

kept_behind : (rest : Result (List Field) Refusal) → kept_of rest ≡ behind [] rest
kept_behind (Err refusal) = refl
kept_behind (Ok rest) = refl

pub kept_start : (lines : List (List ℕ)) → kept_fields lines
    ≡ behind [] (field_lines (unfolded lines))
unfolding kept_fields
kept_start lines = kept_behind (field_lines (unfolded lines))

unfolded_nil : unfolded [] ≡ []
unfolding unfolded
unfolded_nil = refl

pub kept_end : (before : List Field) (lines : List (List ℕ)) → lines ≡ [] →
    behind before (field_lines (unfolded lines)) ≡ Ok before
kept_end before lines e = ap (λ ls. behind before (field_lines (unfolded ls))) e
    ∙ (ap (λ ls. behind before (field_lines ls)) unfolded_nil ∙ ap Ok (append-nil before))

first_kept : (t : Bool) (field : Field) (rest : List Field) →
    cond t (field ∷ rest) rest ≡ cond t (field ∷ []) [] ++ rest
first_kept true field rest = refl
first_kept false field rest = refl

kept_more : (before new : List Field) (field : Field) (rest : Result (List Field) Refusal) →
    new ≡ before ++ kept (field ∷ []) →
    behind before (onto_fields (Ok field) rest) ≡ behind new rest
kept_more before new field (Err refusal) e = refl
kept_more before new field (Ok rest) e =
    ap (λ fields. Ok (before ++ fields)) (first_kept (is_kept field) field (kept rest)) ∙
    (ap Ok (sym (append_assoc before (kept (field ∷ [])) (kept rest))) ∙
    ap (λ fields. Ok (fields ++ kept rest)) (sym e))

-- one field more
pub kept_next : (all : Result (List Field) Refusal) (before new : List Field)
    (lines next others : List (List ℕ)) (line sent : List ℕ) (field : Field) →
    all ≡ behind before (field_lines (unfolded lines)) → lines ≡ line ∷ next →
    field_lines (unfolded (line ∷ next))
    ≡ onto_fields (field_line sent) (field_lines (unfolded others)) →
    field_line sent ≡ Ok field → new ≡ before ++ kept (field ∷ []) →
    all ≡ behind new (field_lines (unfolded others))
kept_next all before new lines next others line sent field a b c d e =
    a ∙ (ap (λ ls. behind before (field_lines (unfolded ls))) b ∙
    (ap (behind before) (c ∙ ap (λ r. onto_fields r (field_lines (unfolded others))) d) ∙
    kept_more before new field (field_lines (unfolded others)) e))
