-- The two fields stand behind the others.
use Rattle.std.proofs.Common.{rules, ◌≡◌, ◌∙◌, List, [], ◌∷◌, ◌++◌, ap}
use Rattle.head_grammar.specs.declared.types.Field.{Field}
use Rattle.apps.proofs.StepLemmas.{two_more}
use Rattle.apps.proofs.answers.add_text_fields.Goals as goal

pub returns : goal.returns
returns c =
    let kept : List Field = c.args.fields.now.items in
    let first : c.push.new.self.items ≡ kept ++ c.in_ok-field.field-0 ∷ [] = search rules in
    let second : c.push-2.new.self.items ≡ c.push.new.self.items ++ c.in_ok-length_field.field-0 ∷
    [] = search rules in
    let both : c.push-2.new.self.items ≡ kept ++ c.in_ok-field.field-0 ∷
    c.in_ok-length_field.field-0 ∷ [] =
    second ∙ ap (λ (xs : List Field). xs ++ c.in_ok-length_field.field-0 ∷ []) first ∙
    two_more kept c.in_ok-field.field-0 c.in_ok-length_field.field-0 in
    cc (both, c.in_ok-field.ensures, c.in_ok-length_field.ensures)
