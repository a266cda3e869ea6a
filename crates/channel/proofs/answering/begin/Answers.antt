use Rattle.std.proofs.Common.{rules, ◌≡◌, ◌∙◌, List, ℕ, IsTrue, ap, refl, subst, sym, true, false}
use Rattle.request_stream.specs.Asks.{asks}
use Rattle.request_stream.specs.Units.{closing}
use Rattle.channel.specs.Output.{answer_for}
use Rattle.channel.proofs.AnswerLemmas.{by_continue, by_refusal}
use Rattle.channel.proofs.answering.begin.Goals as goal

pub returns-in_ok-continue_text-in-Continue-clause-answer :
    goal.returns-in_ok-continue_text-in-Continue-clause-answer
returns-in_ok-continue_text-in-Continue-clause-answer g c = λ _.
    ap (λ u. answer_for c.args.site.now (g.A.App.script c.args.app.now) c.args.peer.now (asks u))
    c.in-Continue.is
    ∙ (by_continue c.args.site.now (g.A.App.script c.args.app.now) c.args.peer.now
    ∙ ap (λ (t : List ℕ). record { text = t; closes = false }) (sym (search rules)))

pub returns-in_ok-text-in-Refused-clause-answer : goal.returns-in_ok-text-in-Refused-clause-answer
returns-in_ok-text-in-Refused-clause-answer g c = λ _.
    ap (λ u. answer_for c.args.site.now (g.A.App.script c.args.app.now) c.args.peer.now (asks u))
    c.in-Refused.is
    ∙ (by_refusal c.args.site.now (g.A.App.script c.args.app.now) c.args.peer.now
    c.in-Refused.refused
    ∙ ap (λ (t : List ℕ). record { text = t; closes = true }) (sym c.in_ok-text-in-Refused.ensures))

pub returns-in_ok-continue_text-in-Continue-clause-shuts :
    goal.returns-in_ok-continue_text-in-Continue-clause-shuts
returns-in_ok-continue_text-in-Continue-clause-shuts g c = λ ends.
    let no : false ≡ true = subst (λ u. IsTrue (closing (asks u))) c.in-Continue.is ends in cc

pub returns-in_ok-text-in-Refused-clause-shuts : goal.returns-in_ok-text-in-Refused-clause-shuts
returns-in_ok-text-in-Refused-clause-shuts g c = λ _ _. refl
