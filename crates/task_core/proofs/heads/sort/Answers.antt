use Rattle.std.proofs.Common.{rules}
use Rattle.std.proofs.lemmas.List.Sorted.{answers_always}
use Rattle.task_core.proofs.SortedLines.{is_below, names_rank, sorted_lines}
use Rattle.task_core.proofs.heads.sort.Goals as goal

pub returns : goal.returns
returns c =
    let s = c.in_ok-sort_by.ensures in
    sorted_lines c.args.lines.now.items c.sort_by.new.self.items
    (s.sorted is_below names_rank (answers_always _ _ _ (λ f a r f' k. search rules)))
    (s.stable is_below names_rank (answers_always _ _ _ (λ f a r f' k. search rules)))
