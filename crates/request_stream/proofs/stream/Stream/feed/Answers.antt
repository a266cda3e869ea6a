use Rattle.std.proofs.Common.{◌∙◌, ap, ◌++◌}
use Rattle.std.specs.Prelude.{map}
use Rattle.request_stream.specs.Asks.{asks}
use Rattle.request_stream.specs.Story.{Story}
use Rattle.request_stream.specs.Units.{stamped}
use Rattle.request_stream.proofs.StoryLemmas.{adds_of, dead_of, last_of, over_of, read_of}
use Rattle.request_stream.proofs.stream.Stream.feed.Goals as goal

pub returns-clause-fed : goal.returns-clause-fed
returns-clause-fed g c =
    c.note.ensures ∙ (ap (λ t. t.value ++ stamped c.args.now c.args.piece.now) c.of.ensures
    ∙ ap (λ (s : Story). s.fed ++ stamped c.args.now c.args.piece.now) c.self.view_is)

pub returns-clause-units : goal.returns-clause-units
returns-clause-units g c =
    adds_of c.grammar.ensures (λ us. us.items) c.read.result c.args.self.now _ c.self.inside.limits
    c.self.inside.state _ c.self.inside.fed.value c.note.result.value _ c.self.view_is
    c.self.invariant.positive.head
    (c.note.ensures ∙ ap (λ t. t.value ++ stamped c.args.now c.args.piece.now) c.of.ensures)
    c.self.invariant.read c.read.ensures.reads

pub returns-clause-last : goal.returns-clause-last
returns-clause-last g c =
    last_of c.grammar.ensures (λ us. us.items) c.read.result c.args.self.now _ c.self.inside.limits
    c.self.inside.state _ c.self.inside.fed.value _ c.self.view_is c.self.invariant.read
    c.read.ensures.reads c.read.ensures.none

pub invariant_of-self : goal.invariant_of-self
invariant_of-self g c = record {
  positive = c.self.invariant.positive;
  sound = c.read.ensures.sound;
  read =
      read_of c.grammar.ensures (λ us. map asks us.items) c.read.result _ c.self.inside.limits
      c.self.inside.state c.read.new.state c.self.inside.fed.value c.note.result.value _
      (c.note.ensures ∙ ap (λ t. t.value ++ stamped c.args.now c.args.piece.now) c.of.ensures)
      c.self.invariant.read c.read.ensures.reads c.read.ensures.kept c.read.ensures.fault;
}

pub returns-clause-dead : goal.returns-clause-dead
returns-clause-dead g c = dead_of (λ us. us.items) c.read.result c.args.self.now
    c.self.inside.limits c.self.inside.state _ c.self.inside.fed.value c.self.view_is
    c.read.ensures.shuts c.read.ensures.none

pub returns-clause-over : goal.returns-clause-over
returns-clause-over g c = over_of (λ us. us.items) c.read.result c.args.self.now
    c.self.inside.limits c.self.inside.state _ c.self.inside.fed.value c.self.view_is
    c.read.ensures.shuts
