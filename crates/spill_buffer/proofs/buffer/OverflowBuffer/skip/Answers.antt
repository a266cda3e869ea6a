use Rattle.std.proofs.Common.{◌+◌, ◌-◌, drop, ◌++◌, sym, ap, ◌∙◌}
use Rattle.std.proofs.lemmas.List.{append-nil, drop-drop}
use Rattle.spill_buffer.specs.Buffer.{stored}
use Rattle.spill_buffer.proofs.Storing.{told_as, only_memory, none_stored}
use Rattle.spill_buffer.proofs.buffer.OverflowBuffer.skip.Goals as goal

pub returns-else-self-len-clause-rest : goal.returns-else-self-len-clause-rest
returns-else-self-len-clause-rest g c =
    let b = c.self.inside in
    let there = stored g.S.Spill.tells (g.S.Spill.content b.spill) b.start b.end in
    let none = none_stored g.S.Spill.tells (g.S.Spill.content b.spill) b.start b.end
    c.if-self.false in
    let is = only_memory g.S.Spill.tells c.args.self.now.bytes b.memory.items
    (g.S.Spill.content b.spill) b.skipped b.start b.end (ap (λ v. v.bytes) c.self.view_is)
    c.if-self.false in
    told_as (ap (λ xs. drop (b.skipped + c.args.count) b.memory.items ++ xs) none
    ∙ append-nil (drop (b.skipped + c.args.count) b.memory.items)
    ∙ sym (ap (drop c.args.count) is ∙ drop-drop c.args.count b.skipped b.memory.items))
