-- The place of the mark, counted from where the search begins.
use Rattle.std.proofs.Common.{◌+◌, ap, sym, ◌∙◌}
use Rattle.std.specs.Prelude.{option_map}
use Rattle.head_grammar.proofs.EndLaws.{head_end-cut}
use Rattle.head_grammar.proofs.EndSearch.{head_end_searched}
use Rattle.head_grammar.proofs.ends.head_end.Goals as goal

pub returns-in_err-at-clause-value : goal.returns-in_err-at-clause-value
returns-in_err-at-clause-value c =
    c.from_residual.ensures ∙ sym (head_end_searched c.args.bytes.now c.args.from
    c.saturating_sub-start.result c.find.result c.requires.none c.saturating_sub-start.ensures
    c.find.ensures ∙
    ap (λ r. option_map (λ k. k + 4) (option_map (λ k. c.saturating_sub-start.result + k) r))
    c.in_err-at.was)

pub returns-clause-value : goal.returns-clause-value
returns-clause-value c =
    sym (head_end_searched c.args.bytes.now c.args.from c.saturating_sub-start.result c.find.result
    c.requires.none c.saturating_sub-start.ensures c.find.ensures ∙
    ap (λ r. option_map (λ k. k + 4) (option_map (λ k. c.saturating_sub-start.result + k) r))
    c.in_ok-at.was)

pub returns-clause-cut : goal.returns-clause-cut
returns-clause-cut c = head_end-cut c.args.bytes.now _
    (head_end_searched c.args.bytes.now c.args.from c.saturating_sub-start.result c.find.result
    c.requires.none c.saturating_sub-start.ensures c.find.ensures ∙
    ap (λ r. option_map (λ k. k + 4) (option_map (λ k. c.saturating_sub-start.result + k) r))
    c.in_ok-at.was)
