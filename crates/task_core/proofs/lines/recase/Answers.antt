use Rattle.std.proofs.Common.{◌≡◌, ◌≤◌, ◌∙◌, ◌++◌, [], ap, sym, length, take, drop, append-nil}
use Rattle.std.proofs.Common.{arith}
use Rattle.std.proofs.lemmas.List.{take_all, drop_all}
use Rattle.task_core.proofs.Recasing.{cased, recased_is}
use Rattle.task_core.proofs.lines.recase.Goals as goal

pub returns : goal.returns
returns c =
    let name = c.loop-byte.name in
    let at = c.loop-byte.byte-index in
    let old = c.args.name.now in
    let end : length name ≤ at = omega arith in
    let none : drop at old ≡ [] = sym c.loop-byte.invariant.rest ∙ drop_all at name end in
    sym (append-nil name) ∙ ap (λ xs. xs ++ []) (sym (take_all at name end))
    ∙ ap (λ xs. take at name ++ cased c.loop-byte.first xs) (sym none)
    ∙ c.loop-byte.invariant.done ∙ sym (recased_is old)
