use Rattle.std.proofs.Common.{sym, subst}
use Rattle.request_stream.specs.Reading.{HasRead}
use Rattle.request_stream.proofs.RunLemmas.{read_none}
use Rattle.request_stream.proofs.stream.Stream.new.Goals as goal

pub invariant_of-result : goal.invariant_of-result
invariant_of-result g c = record {
  positive = c.requires;
  sound = λ _. c.start.ensures.sound c.args.limits c.requires.head;
  read = λ _. subst (HasRead g.S.Spill.tells c.args.limits c.start.result) (sym c.note.ensures)
      (read_none c.grammar.ensures _ c.args.limits c.start.result c.requires.head
      c.start.ensures.goes);
}
