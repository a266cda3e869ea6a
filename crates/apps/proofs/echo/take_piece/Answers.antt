-- The vector is as long as the first bytes, and the buffer gives these bytes and then drops them.
use Rattle.std.proofs.Common.{◌≡◌, ℕ, min, length, List, arith, ◌∙◌}
use Rattle.apps.proofs.PieceLemmas.{front_is, rest_is, take_written}
use Rattle.apps.proofs.echo.take_piece.Goals as goal

pub returns-clause-piece : goal.returns-clause-piece
returns-clause-piece g c = λ told.
    let xs : List ℕ = c.args.body.now.bytes in
    let into : List ℕ = c.front.new.into in
    let room : length into ≡ min (length xs) 32768 = omega (
      arith,
      c.front.auto.into,
      c.deref_mut.ensures.len,
      c.in_ok-piece.ensures.len,
      c.min-size.ensures,
      c.len.ensures,
    ) in
    let counted : c.in_ok-count.count ≡ min (length into) (length xs) =
    omega (arith, c.in_ok-count.ensures.count, c.front.auto.into) in
    let len : c.in_ok-piece.piece.len ≡ length into = omega
    (arith, c.front.auto.into, c.deref_mut.ensures.len) in
    (c.from_vec.ensures ∙ take_written c.in_ok-piece.piece.len into c.in_ok-piece.piece.items len)
    ∙ front_is 32768 c.in_ok-count.count into xs counted room (c.in_ok-count.ensures.front told)

pub returns-clause-rest : goal.returns-clause-rest
returns-clause-rest g c =
    let cut : c.in_ok-count.count ≡ min 32768 (length c.args.body.now.bytes) =
    omega (
      arith,
      c.in_ok-count.ensures.count,
      c.front.auto.into,
      c.deref_mut.ensures.len,
      c.in_ok-piece.ensures.len,
      c.min-size.ensures,
      c.len.ensures,
    ) in
    rest_is g.S.Spill.tells 32768 c.in_ok-count.count c.args.body.now.bytes c.front.new.self.bytes
    c.skip.new.self.bytes cut c.in_ok-count.ensures.kept c.skip.ensures.rest
