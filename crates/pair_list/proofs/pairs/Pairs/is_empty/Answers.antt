-- As many sizes as pairs.
use Rattle.std.proofs.Common.{sym, ap, ◌∙◌, length}
use Rattle.std.specs.Prelude.{◌==◌}
use Rattle.pair_list.proofs.MorePairs.{cut_length}
use Rattle.pair_list.proofs.pairs.Pairs.is_empty.Goals as goal

pub returns : goal.returns
returns c =
    c.is_empty.ensures ∙ ap (λ n. n == 0)
    (sym (cut_length c.self.inside.text.now c.self.inside.sizes.now) ∙ ap length c.self.view_is)
