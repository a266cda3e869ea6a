-- The line and its continuations, one by one.
use Rattle.std.proofs.Common.{rules, arith, sym, ap, ◌∙◌, ◌∷◌, length}
use Rattle.head_grammar.specs.FieldLines.{first_continues, onto_lines, unfolded}
use Rattle.head_grammar.proofs.Unfolding.{joined_more, joined_whole}
use Rattle.head_grammar.proofs.whole_line.joined.Goals as goal

pub loop-next-preserved : goal.loop-next-preserved
loop-next-preserved c =
    let lines_is = c.in-Some.ensures.some in
    record {
      same = c.loop-next.invariant.same ∙
          (ap (λ ls. onto_lines (first_continues ls) c.loop-next.whole.items (unfolded ls)) lines_is
          ∙
          (joined_more c.loop-next.whole.items c.in-Some.next.now c.next_continued.new.self
          c.in-Some.ensures.continued ∙
          ap (λ whole. onto_lines (first_continues c.next_continued.new.self) whole
          (unfolded c.next_continued.new.self)) (search rules)));
      shorter = let e = ap length lines_is in let s = c.loop-next.invariant.shorter in omega arith;
    }

pub returns-clause-whole : goal.returns-clause-whole
returns-clause-whole c =
    c.loop-next.invariant.same ∙
    (joined_whole c.loop-next.whole.items c.loop-next.lines c.in_default.ensures.no_more ∙
    ap (λ ls. c.loop-next.whole.items ∷ unfolded ls) (sym c.in_default.ensures.none))
