use Rattle.std.proofs.Common.{rules}
use Rattle.test_runs.proofs.Rising.{eight_rise}
use Rattle.test_runs.proofs.crowd.moments.Goals as goal

-- src/crowd.rt:98:1
pub returns-clause-rising : goal.returns-clause-rising
returns-clause-rising c =
    eight_rise c.from_vec.result 784111777 c.saturating_add-first.result
    c.saturating_add-second.result
    c.saturating_add-third.result c.saturating_add-fourth.result c.saturating_add-fifth.result
    c.saturating_add-sixth.result c.saturating_add-last.result
    (search rules) (search rules) (search rules) (search rules)
    (search rules) (search rules) (search rules) (search rules)
