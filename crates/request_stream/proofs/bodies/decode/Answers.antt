use Rattle.std.proofs.Common.{ap, refl, subst, ◌∙◌, ◌++◌}
use Rattle.request_stream.proofs.Shutting.{shuts_closes, shuts_none, shuts_refused}
use Rattle.request_stream.specs.Reading.{is_over}
use Rattle.spill_buffer.specs.Buffer.{IsToldAs}
use Rattle.request_stream.proofs.BodyMoves.{reads_coded_on, reads_coded_done, reads_coded_bad}
use Rattle.request_stream.proofs.bodies.decode.Goals as goal

pub returns-in_ok-body-in-More-clause-reads : goal.returns-in_ok-body-in-More-clause-reads
returns-in_ok-body-in-More-clause-reads g c =
    let fed = c.in-More.ensures.fed in
    reads_coded_on _ c.args.limits.now c.args.part _ c.args.now c.args.piece.now fed.0 _
    c.requires.positive.head refl fed.2
    (subst (λ xs. IsToldAs g.S.Spill.tells c.in_ok-body-in-More.body.bytes
    (c.args.part.body.bytes ++ xs)) (c.as_slice.ensures.value
    ∙ (fed.1 ∙ ap (λ xs. xs ++ fed.0) c.requires.sound.empty))
    c.in_ok-body-in-More.ensures.appended)

pub returns-in_ok-state-in-Done-clause-reads : goal.returns-in_ok-state-in-Done-clause-reads
returns-in_ok-state-in-Done-clause-reads g c =
    let fed = c.in-Done.ensures.fed in
    reads_coded_done _ c.args.limits.now c.args.part c.feed.new.self c.in_ok-state-in-Done.state
    c.args.now c.in-Done.taken c.args.piece.now fed.0 c.in_ok-body-in-Done.body.bytes _ _
    c.requires.positive.head (c.in-Done.ensures.takes.1 c.requires.sound.going)
    c.in-Done.ensures.takes.0 fed.2
    (subst (λ xs. IsToldAs g.S.Spill.tells c.in_ok-body-in-Done.body.bytes
    (c.args.part.body.bytes ++ xs)) (c.as_slice-in-Done.ensures.value
    ∙ (fed.1 ∙ ap (λ xs. xs ++ fed.0) c.requires.sound.empty))
    c.in_ok-body-in-Done.ensures.appended)
    c.in_ok-state-in-Done.ensures.closes

pub returns-in_ok-state-in-Bad-clause-reads : goal.returns-in_ok-state-in-Bad-clause-reads
returns-in_ok-state-in-Bad-clause-reads g c =
    let fed = c.in-Bad.ensures.fed in
    reads_coded_bad _ c.args.limits.now c.args.part c.feed.new.self c.in_ok-state-in-Bad.state
    c.args.now c.args.piece.now fed.0 c.in-Bad.refusal _ _
    c.requires.positive.head c.in_ok-state-in-Bad.ensures.over fed.2
    c.in_ok-state-in-Bad.ensures.given

pub returns-in_ok-body-in-More-clause-shuts : goal.returns-in_ok-body-in-More-clause-shuts
returns-in_ok-body-in-More-clause-shuts g c = shuts_none _ _ _ refl refl

pub returns-in_ok-state-in-Done-clause-shuts : goal.returns-in_ok-state-in-Done-clause-shuts
returns-in_ok-state-in-Done-clause-shuts g c = shuts_closes _ _ _ _ c.in_ok-state-in-Done.state _ _
    refl c.in_ok-state-in-Done.ensures.closes

pub returns-in_ok-state-in-Bad-clause-shuts : goal.returns-in_ok-state-in-Bad-clause-shuts
returns-in_ok-state-in-Bad-clause-shuts g c = shuts_refused _ _ c.in_ok-state-in-Bad.state _ _ refl
    refl (ap is_over c.in_ok-state-in-Bad.ensures.over) c.in_ok-state-in-Bad.ensures.given

pub returns-in_ok-state-in-Bad-clause-within : goal.returns-in_ok-state-in-Bad-clause-within
returns-in_ok-state-in-Bad-clause-within g c =
    c.in_ok-state-in-Bad.ensures.within c.args.limits.now
