-- A part ends at the first SP, or at the end of the line.
use Rattle.std.proofs.Common.{◌≡◌, ◌+◌, ◌∷◌, [], List, ℕ, sym, ap, subst, ◌∙◌, take}
use Rattle.std.specs.Prelude.{IfNone, ◌==◌}
use Rattle.head_grammar.specs.RequestLines.{parts}
use Rattle.byte_tables.proofs.Cuts.{cut_some, cut_none, rest_is}
use Rattle.head_grammar.proofs.request_line.cut_part.Goals as goal

pub returns-in_err-at-clause-whole : goal.returns-in_err-at-clause-whole
returns-in_err-at-clause-whole c =
    subst (λ r. IfNone r (parts c.args.line.now ≡ c.args.line.now ∷ []))
    (sym c.from_residual.ensures) (cut_none (λ b. b == 32) c.args.line.now
    (sym c.place_of.ensures.first ∙ c.in_err-at.was))

pub returns-clause-cut : goal.returns-clause-cut
returns-clause-cut c =
    cut_some (λ b. b == 32) c.args.line.now c.in_ok-at.at (sym c.place_of.ensures.first
    ∙ c.in_ok-at.was) ∙
    ap (λ (xs : List ℕ). take c.in_ok-at.at c.args.line.now ∷ parts xs)
    (sym (rest_is c.args.line.now (c.in_ok-at.at + 1)))
