use Rattle.std.proofs.Common.{◌∙◌}
use Rattle.waitress_serve.proofs.TextLemmas.{lines_more, lines_over}
use Rattle.waitress_serve.proofs.printing.lines_of.Goals as goal

pub loop-one-preserved : goal.loop-one-preserved
loop-one-preserved c =
    lines_more c.loop-one.text.items c.push_line.new.text.items _ c.args.listen.now
    c.loop-one.one-index c.one-item.result
    c.in_ok-push_line.ensures c.loop-one-test.true c.one-item.is c.loop-one.invariant

pub returns : goal.returns
returns c =
    c.from_vec.ensures ∙ lines_over c.loop-one.text.items _ c.args.listen.now c.loop-one.one-index
    c.loop-one-test.false c.loop-one.invariant
