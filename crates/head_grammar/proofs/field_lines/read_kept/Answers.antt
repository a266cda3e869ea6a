-- No field before the first line, and none behind the last one.
use Rattle.std.proofs.Common.{rules, sym, ap, ◌∙◌}
use Rattle.head_grammar.specs.FieldLines.{field_line, field_lines, kept_fields, unfolded}
use Rattle.head_grammar.specs.WholeLines.{bytes_of}
use Rattle.head_grammar.proofs.KeptFields.{behind, kept_start, kept_end, kept_next}
use Rattle.head_grammar.proofs.field_lines.read_kept.Goals as goal

pub loop-line-init : goal.loop-line-init
loop-line-init c = record {
  can = search rules;
  ends = search rules;
  same = kept_start c.args.lines ∙ ap (λ fields. behind fields
      (field_lines (unfolded c.args.lines))) (sym c.in_ok-fields.ensures);
}

pub returns : goal.returns
returns c =
    sym (c.loop-line.invariant.same ∙ kept_end c.loop-line.fields c.loop-line.lines (search rules))

pub loop-line-preserved : goal.loop-line-preserved
loop-line-preserved c = record {
  can = search rules;
  ends = search rules;
  same = kept_next (kept_fields c.args.lines) c.loop-line.fields c.keep.new.fields
      c.loop-line.lines c.next.new.self c.whole_line.new.lines c.in-Some.line.now
      (bytes_of c.in_ok-line.line) c.in-Ok.field c.loop-line.invariant.same
      c.in-Some.ensures.steps c.in_ok-line.ensures.said
      (ap field_line (sym c.as_slice.ensures) ∙ (sym c.read_field.ensures ∙ c.in-Ok.is))
      c.in_ok-keep.ensures;
}
