-- The first field of a name stands at its place.
use Rattle.std.proofs.Common.{ap, sym, ◌∙◌}
use Rattle.std.specs.Prelude.{position}
use Rattle.head_grammar.specs.FieldLines.{has_name}
use Rattle.proxy_trust.proofs.Places.{found, not_found}
use Rattle.proxy_trust.proofs.keeping.take.Goals as goal

pub returns-in_err-place-clause-first : goal.returns-in_err-place-clause-first
returns-in_err-place-clause-first c =
    c.from_residual.ensures ∙ not_found (has_name c.args.name.now) c.args.fields.now.items
    (ap (position (has_name c.args.name.now)) (sym c.deref.ensures.value) ∙
    (sym c.place_of.ensures.place ∙ c.in_err-place.was))

pub returns-clause-first : goal.returns-clause-first
returns-clause-first c =
    found (has_name c.args.name.now) c.args.fields.now.items c.in_ok-place.place c.remove.result
    (ap (position (has_name c.args.name.now)) (sym c.deref.ensures.value) ∙
    (sym c.place_of.ensures.place ∙ c.in_ok-place.was)) c.remove.ensures.value
