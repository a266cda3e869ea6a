-- A line ends at the first CR LF, or at the end of the text.
use Rattle.std.proofs.Common.{rules, subst}
use Rattle.memchr.specs.Find.{FindsNeedle}
use Rattle.head_grammar.proofs.LineSearch.{lines_whole, lines_cut, lines_none}
use Rattle.head_grammar.proofs.lines.cut_line.Goals as goal

pub returns-in-Some-clause-lines : goal.returns-in-Some-clause-lines
returns-in-Some-clause-lines c = lines_cut c.args.text.now c.find.result c.in-Some.at
    (search rules)
    (subst (λ mark. FindsNeedle c.args.text.now mark 0 c.find.result) c.requires c.find.ensures)
    c.in-Some.is

pub returns-in-None-clause-lines : goal.returns-in-None-clause-lines
returns-in-None-clause-lines c = lines_whole c.args.text.now c.find.result
    (search rules)
    (subst (λ mark. FindsNeedle c.args.text.now mark 0 c.find.result) c.requires c.find.ensures)
    c.in-None.is

pub returns-then-is_empty-clause-none : goal.returns-then-is_empty-clause-none
returns-then-is_empty-clause-none c = lines_none c.args.text.now (search rules)
