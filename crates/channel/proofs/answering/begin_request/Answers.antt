use Rattle.std.proofs.Common.{rules, ◌≡◌, ◌∙◌, List, ap, refl, sym, true, ℕ}
use Rattle.task_core.specs.Answer.{request_of}
use Rattle.task_core.specs.Errors.{proxy_answer}
use Rattle.task_core.specs.Steps.{remaining}
use Rattle.channel.specs.Output.{answer_for}
use Rattle.request_stream.specs.Units.{request}
use Rattle.channel.proofs.AnswerLemmas.{by_application, by_proxy, task_closes}
use Rattle.channel.proofs.answering.begin_request.Goals as goal

pub returns-in-Ok-clause-answer : goal.returns-in-Ok-clause-answer
returns-in-Ok-clause-answer g c = λ told.
    let b = c.request.inside in
    ap (λ r. answer_for c.args.site.now (g.A.App.script c.args.app.now) c.args.peer.now
    (request r.head r.body.bytes r.moment)) (sym c.request.view_is)
    ∙ by_application c.args.site.now (g.A.App.script c.args.app.now) c.args.peer.now
    b.head b.body.bytes b.moment b.length c.request.invariant
    c.in-Ok.environ c.in-Ok.ensures
    ∙ (sym (c.in_ok-task-in-Ok.ensures.answer _) ∙ ap (remaining c.in_ok-task-in-Ok.task)
    (sym (c.in_ok-run-in-Ok.ensures.script told)))

pub returns-in-Err-Malformed-clause-answer : goal.returns-in-Err-Malformed-clause-answer
returns-in-Err-Malformed-clause-answer g c = λ _.
    let b = c.request.inside in
    let text : c.in_ok-text-in-Err-Malformed.text ≡ proxy_answer c.args.site.now.ident
    c.in-Err-Malformed.kind b.head b.moment = search rules in
    ap (λ r. answer_for c.args.site.now (g.A.App.script c.args.app.now) c.args.peer.now
    (request r.head r.body.bytes r.moment)) (sym c.request.view_is)
    ∙ by_proxy c.args.site.now (g.A.App.script c.args.app.now) c.args.peer.now b.head
    b.body.bytes b.moment b.length c.request.invariant
    c.in-Err-Malformed.kind (rw c.in-Err-Malformed.field-0-is at c.in-Err-Malformed.ensures)
    ∙ ap (λ (t : List ℕ). record { text = t; closes = true }) (sym text)

pub returns-in-Ok-clause-shuts : goal.returns-in-Ok-clause-shuts
returns-in-Ok-clause-shuts g c = λ ends.
    let b = c.request.inside in
    task_closes c.in_ok-task-in-Ok.task (request_of b.head b.moment c.args.site.now.ident)
    c.in_ok-task-in-Ok.ensures.answer (ap (λ r. r.head.closes) c.request.view_is ∙ ends)

pub returns-in-Err-Malformed-clause-shuts : goal.returns-in-Err-Malformed-clause-shuts
returns-in-Err-Malformed-clause-shuts g c = λ _ _. refl
