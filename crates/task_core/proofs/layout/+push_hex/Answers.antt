use Rattle.std.proofs.Common.{◌≡◌, ◌<◌, ◌%◌, ◌/◌, ◌^◌, ap, true, [], ◌∷◌, append_assoc, arith}
use Rattle.std.proofs.lemmas.Fmt.{hex_one_digit}
use Rattle.std.specs.Fmt.{digit_glyph, digits}
use Rattle.task_core.proofs.HexDigits.{hex_step, last_glyph}
use Rattle.task_core.proofs.layout.+push_hex.Goals as goal
use Rattle.task_core.proofs.layout.+push_hex.Goals.{then-number-ge16+in_ok-push_hex}
use Rattle.task_core.proofs.layout.+push_hex.Goals.{else-number-ge16}

pub returns : goal.returns
returns t c =
    let n = c.args.number in
    let old = c.args.text.now.items in
    let small : n < 2 ^ 64 = omega arith in
    let pushed = c.in_ok-push.ensures.items in
    elim c.if-number-ge16.branch [
      | then-number-ge16+in_ok-push_hex w ↦
          let step = hex_step n w.if-number-ge16.true small in
          let joined = append_assoc old (digits 16 true (n / 16)) (last_glyph n ∷ []) in
          cc (pushed, w.in_ok-push_hex.ensures, c.glyph.ensures, w.text-is, step, joined)
      | else-number-ge16 w ↦
          let one = hex_one_digit true n w.if-number-ge16.false in
          let least : n % 16 ≡ n = omega arith in
          cc (pushed, c.glyph.ensures, w.text-is, one, ap (digit_glyph true) least)
    ]
