use Rattle.std.proofs.Common.{◌≡◌, ◌≤◌, ◌<◌, ℕ, All, IsTrue, None, Some, length}
use Rattle.std.specs.Option.{option_map_or}
use Rattle.dir_app.specs.Run.{answer_by}
use Rattle.outside.specs.Causes.{added}
use Rattle.waitress_serve.proofs.settling.settle.Given as goal

-- what is counted of the runs that are left makes the whole
abbrev pub invariant-loop-run : goal.invariant-loop-run
invariant-loop-run g l = record {
  can : (goal.iterator-loop-run g).can_next l.run-iterator;
  ends : (goal.iterator-loop-run g).is_finite l.run-iterator;
  later : g.T.Tree.faults l.fn.tree ≤ g.T.Tree.faults l.tree;
  files : IsTrue g.T.Tree.tells → g.T.Tree.files l.tree ≡ g.T.Tree.files l.fn.tree;
  rest : (now : ℕ) →
      (All (λ run. 0 < option_map_or g.T.Entry.TreeEntry.faults
      (answer_by (λ _. None) (λ steps. Some steps.entry) run.answer) 0) l.run-iterator.rest.items →
      added (g.T.Tree.faults l.tree) (length l.run-iterator.rest.items) ≤ now) →
      All (λ run. 0 < option_map_or g.T.Entry.TreeEntry.faults
      (answer_by (λ _. None) (λ steps. Some steps.entry) run.answer) 0) l.fn.runs.items →
      added (g.T.Tree.faults l.fn.tree) (length l.fn.runs.items) ≤ now;
}
