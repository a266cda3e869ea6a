use Rattle.std.proofs.Common.{rules, ◌≡◌, ◌∙◌, ◌∷◌, None, Some, arith, length, sym}
use Rattle.std.specs.Option.{option_map_or}
use Rattle.dir_app.specs.Run.{answer_by}
use Rattle.waitress_serve.proofs.FailedRuns.{count_more, count_none}
use Rattle.waitress_serve.proofs.settling.settle.Goals as goal

pub loop-run-preserved : goal.loop-run-preserved
loop-run-preserved g c =
    let settled = c.settle_one.ensures.faults in
    record {
      can = tt;
      ends = tt;
      later = let before = c.loop-run.invariant.later in omega (arith, before, settled);
      files = λ told. c.settle_one.ensures.files told ∙ c.loop-run.invariant.files told;
      rest = λ now after all.
          let ahead : c.loop-run.run-iterator.rest.items ≡ c.in-Some.run' ∷
          c.next.new.self.rest.items = search rules in
          c.loop-run.invariant.rest now
          (count_more (λ run. option_map_or g.T.Entry.TreeEntry.faults
          (answer_by (λ _. None) (λ steps. Some steps.entry) run.answer) 0) c.in-Some.run'
          c.loop-run.run-iterator.rest.items c.next.new.self.rest.items _ _ now ahead settled after)
          all;
    }

pub returns-clause-counted : goal.returns-clause-counted
returns-clause-counted g c = λ all.
    let over = rw c.in-None.is at c.next.ensures.steps in
    let none : length c.loop-run.run-iterator.rest.items ≡ 0 =
    sym c.loop-run.run-iterator.rest.ok.0 ∙ over.0 in
    c.loop-run.invariant.rest _ (λ _. count_none c.loop-run.run-iterator.rest.items _ none) all
