use Rattle.std.proofs.Common.{subst, ◌∙◌}
use Rattle.outside.specs.MemLink.{KeepsToPlan}
use Rattle.std.proofs.lemmas.Option.{get_or_from_slice_get}
use Rattle.poll_loop.specs.Lists.{EachIs}
use Rattle.rehearse.proofs.Lists.{first_all, first_more}
use Rattle.rehearse.proofs.looking.look_back.Goals as goal

pub loop-entry-preserved : goal.loop-entry-preserved
loop-entry-preserved c =
    first_more (λ entry. KeepsToPlan entry.link) c.closed-entry-items.result.now
    c.loop-entry.entry-index c.loop-entry.invariant (λ x is.
    subst (λ entry. KeepsToPlan entry.link)
    (c.entry-item.is ∙ get_or_from_slice_get c.closed-entry-items.result.now
    c.loop-entry.entry-index x c.entry-item.result is) c.arrivals-arrivals.ensures.kept)

pub returns-clause-links : goal.returns-clause-links
returns-clause-links c = subst (λ es. EachIs (λ entry. KeepsToPlan entry.link) es)
    c.closed-entry-items.ensures.value
    (first_all (λ entry. KeepsToPlan entry.link) c.closed-entry-items.result.now
    c.loop-entry.entry-index c.loop-entry-test.false c.loop-entry.invariant)
