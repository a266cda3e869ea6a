use Rattle.std.proofs.Common.{rules, ◌∷◌, sym, ap, ◌∙◌, Some}
use Rattle.atomic_table.specs.Table.{rest}
use Rattle.turn_gate.proofs.turn.Turn.taken.Goals as goal

pub exchange-requires : goal.exchange-requires
exchange-requires g c = let shelf = c.requires.shelf in
    (search rules, (Some shelf.0, shelf.1 ∙ ap (λ cs. (0, Some shelf.0) ∷ rest cs) (sym shelf.1)))
