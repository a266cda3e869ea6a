use Rattle.std.proofs.Common.{arith, length, ap, length-append}
use Rattle.chunk_body.proofs.Feeding.{is_fed, grows}
use Rattle.chunk_body.proofs.chunks.Chunks.feed.Goals as goal

pub returns-clause-fed : goal.returns-clause-fed
returns-clause-fed c =
    let r = c.read_piece.ensures.read in (
      r.0,
      r.1,
      is_fed c.read_piece.result c.args.piece.now r.0 c.args.self.now c.read_piece.new.self
          r.2,
    )

pub returns-clause-grows : goal.returns-clause-grows
returns-clause-grows c =
    let r = c.read_piece.ensures.read in
    let m = grows c.read_piece.result c.args.piece.now r.0 c.args.self.now c.read_piece.new.self r.2
    in
    let e = ap length r.1 in
    omega (arith, e, m, length-append c.args.room.now.items r.0)
