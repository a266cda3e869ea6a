-- Equal names are neighbours among those that are sorted.
use Rattle.std.proofs.Common.{rules}
use Rattle.std.proofs.lemmas.List.Sorted.{answers_always}
use Rattle.std.specs.Ordering.{is_lt}
use Rattle.head_grammar.proofs.Names.{by_text, sorted_tell}
use Rattle.head_grammar.proofs.field_lines.names_differ.Goals as goal

pub returns : goal.returns
returns c =
    sorted_tell c.args.fields.now c.in_ok-names.names.items c.deref.result.now c.is_sorted_by.result
    c.in_ok-names.ensures (rw c.deref.ensures.value c.sort_unstable.ensures.permutation)
    (rw c.deref.ensures.value c.sort_unstable.ensures.sorted)
    (c.is_sorted_by.ensures.cases (λ x y. is_lt (by_text x y))
    (answers_always _ _ _ (λ f a r f' k. search rules)))
