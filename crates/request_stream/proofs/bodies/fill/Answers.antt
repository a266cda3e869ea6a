use Rattle.std.proofs.Common.{arith, refl, ◌≡◌, ◌+◌, ◌-◌, length, take}
use Rattle.std.proofs.lemmas.List.{length-take}
use Rattle.request_stream.proofs.Shutting.{shuts_closes, shuts_none}
use Rattle.request_stream.proofs.BodyMoves.{reads_fixed_done, reads_fixed_on}
use Rattle.request_stream.proofs.bodies.fill.Goals as goal

pub returns-then-left-eq0-clause-reads : goal.returns-then-left-eq0-clause-reads
returns-then-left-eq0-clause-reads g c =
    let l = length-take c.min-taken.result c.args.piece.now in
    let all : length (take c.min-taken.result c.args.piece.now) ≡ c.args.part.left = omega arith in
    reads_fixed_done _ c.args.limits.now c.args.part c.in_ok-state.state c.in_ok-body.body.bytes
    c.args.now (take c.min-taken.result c.args.piece.now) _ _
    c.requires.positive.head c.requires.sound.some all c.in_ok-body.ensures.appended
    c.in_ok-state.ensures.closes

pub returns-clause-reads : goal.returns-clause-reads
returns-clause-reads g c =
    let l = length-take c.min-taken.result c.args.piece.now in
    let less : (c.args.part.left - c.min-taken.result)
    + length (take c.min-taken.result c.args.piece.now) ≡ c.args.part.left = omega arith in
    reads_fixed_on _ c.args.limits.now c.args.part _ c.args.now
    (take c.min-taken.result c.args.piece.now) _
    c.requires.positive.head c.requires.sound.some (omega arith) refl c.in_ok-body.ensures.appended
    less

pub returns-then-left-eq0-clause-shuts : goal.returns-then-left-eq0-clause-shuts
returns-then-left-eq0-clause-shuts g c = shuts_closes _ _ _ _ c.in_ok-state.state _ _ refl
    c.in_ok-state.ensures.closes

pub returns-clause-shuts : goal.returns-clause-shuts
returns-clause-shuts g c = shuts_none _ _ _ refl refl
