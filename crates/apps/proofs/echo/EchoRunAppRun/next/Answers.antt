-- The next piece is what the buffer gave.
use Rattle.std.proofs.Common.{◌∙◌, sym}
use Rattle.apps.proofs.PieceLemmas.{fault_leaves, filled, next_piece, next_falls}
use Rattle.apps.proofs.echo.EchoRunAppRun.next.Goals as goal

pub returns-clause-steps : goal.returns-clause-steps
returns-clause-steps g c = λ told.
    next_piece c.args.self.now.start c.take.new.self c.args.self.now.body.bytes
    c.take_piece.new.body.bytes c.in_ok-piece.piece
    (sym c.take.ensures.value ∙ c.in_default.is) c.take.ensures.after
    (filled _ c.if-is_empty.ensures.1) (c.in_ok-piece.ensures.piece told)
    (c.in_ok-piece.ensures.rest.told told)

pub returns-clause-left : goal.returns-clause-left
returns-clause-left g c =
    next_falls c.args.self.now.start c.take.new.self c.args.self.now.body.bytes
    c.take_piece.new.body.bytes
    (sym c.take.ensures.value ∙ c.in_default.is) c.take.ensures.after
    (filled _ c.if-is_empty.ensures.1) c.in_ok-piece.ensures.rest.size

pub returns-in_err-piece-clause-steps : goal.returns-in_err-piece-clause-steps
returns-in_err-piece-clause-steps g c = λ told.
    fault_leaves c.from_residual.result c.args.self.now.start c.take.new.self
    c.args.self.now.body.bytes c.take_piece.new.body.bytes c.from_residual.ensures.0
    (sym c.take.ensures.value ∙ c.in_default.is) c.take.ensures.after
    (filled _ c.if-is_empty.ensures.1) (c.in_err-piece.ensures.kept.told told)
