-- One field more.
use Rattle.std.proofs.Common.{◌∙◌, [], sym, ap, rules}
use Rattle.head_grammar.proofs.Rests.{added_all, all_added}
use Rattle.head_grammar.proofs.field_lines.combined_copies.Goals as goal

pub loop-name-init : goal.loop-name-init
loop-name-init c = record {
  places = search rules;
  same = ap (λ front. all_added front c.into_iter-name-iterator.result)
      c.new-combined.ensures.items ∙
      (ap (all_added []) c.into_iter-name-iterator.ensures.into_iter_gives
      ∙ added_all c.args.fields);
}

pub loop-name-preserved : goal.loop-name-preserved
loop-name-preserved c = record {
  places = c.in_ok-add_field.ensures.places;
  same = ap (λ front. all_added front c.next.new.self) c.in_ok-add_field.ensures.fields ∙
      (ap (all_added c.loop-name.combined.items) (sym c.in-Some.ensures.steps)
      ∙ c.loop-name.invariant.same);
}
