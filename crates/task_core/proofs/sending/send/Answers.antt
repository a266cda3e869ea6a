use Rattle.std.proofs.Common.{◌≡◌, Some, true, false}
use Rattle.wsgi.specs.declared.step.Step.TheVariants.{Piece, Whole}
use Rattle.task_core.proofs.Going.{sent_goes}
use Rattle.task_core.proofs.sending.send.Goals as goal

pub returns-in-Some-Piece : goal.returns-in-Some-Piece
returns-in-Some-Piece c =
    let is : c.args.step ≡ Some (Piece c.in-Some-Piece.bytes) = cc in
    sent_goes c.args.request.now c.args.layout c.args.step false c.in-Some-Piece.bytes c.pass.result
    is
    c.pass.ensures.text c.pass.ensures.goes_on c.pass.ensures.left

pub returns-in-Some-Whole : goal.returns-in-Some-Whole
returns-in-Some-Whole c =
    let is : c.args.step ≡ Some (Whole c.in-Some-Whole.bytes) = cc in
    sent_goes c.args.request.now c.args.layout c.args.step true c.in-Some-Whole.bytes
    c.pass-in-Some-Whole.result is
    c.pass-in-Some-Whole.ensures.text c.pass-in-Some-Whole.ensures.goes_on
    c.pass-in-Some-Whole.ensures.left
