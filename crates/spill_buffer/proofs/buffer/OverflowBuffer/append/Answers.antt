use Rattle.std.proofs.Common.{◌≡◌, ◌<◌, ◌+◌, ◌-◌, length, take, drop, ◌++◌, [], refl, sym, ap, ◌∙◌}
use Rattle.std.proofs.Common.{arith}
use Rattle.std.proofs.lemmas.List.{length-append, length-drop, append-nil, take_all}
use Rattle.spill_buffer.specs.Buffer.{stored}
use Rattle.spill_buffer.proofs.Storing.{follows, moves, grown, length_whole, not_all, some_spilled}
use Rattle.spill_buffer.proofs.Storing.{none_spilled, only_memory, told_as, none_stored, on_err}
use Rattle.spill_buffer.proofs.buffer.OverflowBuffer.append.Goals as goal

pub returns-then-self-clause-appended : goal.returns-then-self-clause-appended
returns-then-self-clause-appended g c =
    let b = c.self.inside in
    follows g.S.Spill.tells c.args.self.now.bytes b.memory.items (g.S.Spill.content b.spill)
    (g.S.Spill.content c.write.new.self) c.args.from.now b.skipped b.start b.end
    c.len-self-inside.result (g.S.Spill.size b.spill)
    (g.met.S.Spill.sized b.spill) c.in_ok-write.ensures.content c.self.invariant.ordered
    c.self.invariant.stands (c.self.invariant.apart c.if-self.true)
    (c.len-self-inside.ensures ∙ c.in_ok-write.ensures.size)
    (ap (λ v. v.bytes) c.self.view_is)

pub returns-then-self-clause-in_memory : goal.returns-then-self-clause-in_memory
returns-then-self-clause-in_memory g c = λ all below.
    let b = c.self.inside in
    absurd (not_all g.S.Spill.tells c.args.self.now.bytes b.memory.items
    (g.S.Spill.content b.spill) b.skipped b.start b.end (g.S.Spill.size b.spill)
    c.args.self.now.in_memory (g.met.S.Spill.sized b.spill) c.self.invariant.stands
    (ap (λ v. v.bytes) c.self.view_is) (ap (λ v. v.in_memory) c.self.view_is) c.if-self.true all)

pub returns-then-self-clause-known : goal.returns-then-self-clause-known
returns-then-self-clause-known g c = λ all.
    let b = c.self.inside in
    let ends : c.len-self-inside.result ≡ b.end + length c.args.from.now = c.len-self-inside.ensures
    ∙ c.in_ok-write.ensures.size in
    let size : c.len-self-inside.result ≡ g.S.Spill.size c.write.new.self =
    c.len-self-inside.ensures in
    let whole = drop b.skipped b.memory.items ++ stored g.S.Spill.tells
    (g.S.Spill.content c.write.new.self) b.start c.len-self-inside.result in
    let more : length b.memory.items - b.skipped < length whole = some_spilled g.S.Spill.tells whole
    b.memory.items (g.S.Spill.content c.write.new.self) b.skipped b.start
    c.len-self-inside.result (g.S.Spill.size c.write.new.self)
    (length b.memory.items - b.skipped)
    (g.met.S.Spill.sized c.write.new.self) (omega (arith, size)) refl refl
    (omega (arith, c.if-self.true, ends)) in
    absurd (omega (arith, more, all))

pub returns-then-length-self-clause-grows : goal.returns-then-length-self-clause-grows
returns-then-length-self-clause-grows g c =
    let b = c.self.inside in
    let longer = grown b.memory.items c.close_up.new.memory.items c.args.from.now
    c.extend_from_slice.new.self.items b.skipped c.close_up.new.skipped
    c.args.self.now.in_memory
    c.close_up.ensures.same c.close_up.ensures.within c.in_ok-extend_from_slice.ensures.items
    (ap (λ v. v.in_memory) c.self.view_is) in
    omega (arith, longer)

pub returns-then-length-self-clause-spilled : goal.returns-then-length-self-clause-spilled
returns-then-length-self-clause-spilled g c = λ large.
    let b = c.self.inside in
    let long = length_whole g.S.Spill.tells c.extend_from_slice.new.self.items
    (g.S.Spill.content b.spill) c.close_up.new.skipped b.start b.end (g.S.Spill.size b.spill)
    (g.met.S.Spill.sized b.spill) c.self.invariant.stands in
    let longer : length c.extend_from_slice.new.self.items ≡ length
    (c.close_up.new.memory.items ++ c.args.from.now) = ap length
    c.in_ok-extend_from_slice.ensures.items in
    let limit : b.overflow ≡ c.args.self.now.overflow = ap (λ v. v.overflow) c.self.view_is in
    absurd (omega (
      arith,
      long,
      large,
      longer,
      limit,
      length-append c.close_up.new.memory.items
          c.args.from.now,
      c.if-self.false,
      c.if-length-self.true,
      c.len.ensures,
      c.close_up.ensures.within,
    ))

pub returns-then-length-self-clause-follows : goal.returns-then-length-self-clause-follows
returns-then-length-self-clause-follows g c = λ some.
    let b = c.self.inside in
    let all : length c.args.self.now.bytes ≡ c.args.self.now.in_memory = none_spilled
    g.S.Spill.tells c.args.self.now.bytes b.memory.items (g.S.Spill.content b.spill) b.skipped
    b.start b.end c.args.self.now.in_memory
    (ap (λ v. v.bytes) c.self.view_is) (ap (λ v. v.in_memory) c.self.view_is) c.if-self.false in
    absurd (omega (arith, all, some))

pub returns-in_err-fill-clause-kept : goal.returns-in_err-fill-clause-kept
returns-in_err-fill-clause-kept g c =
    let b = c.self.inside in
    let there = stored g.S.Spill.tells (g.S.Spill.content c.fill.new.spill) 0 0 in
    let none : there ≡ [] = none_stored g.S.Spill.tells (g.S.Spill.content c.fill.new.spill) 0 0
    (omega arith) in
    on_err c.from_residual-in_err-fill.result
    (told_as (ap (λ xs. drop c.close_up.new.skipped c.close_up.new.memory.items ++ xs) none
    ∙ append-nil (drop c.close_up.new.skipped c.close_up.new.memory.items)
    ∙ c.close_up.ensures.same
    ∙ sym (only_memory g.S.Spill.tells c.args.self.now.bytes b.memory.items
    (g.S.Spill.content b.spill) b.skipped b.start b.end (ap (λ v. v.bytes) c.self.view_is)
    c.if-self.false)))

pub returns-clause-appended : goal.returns-clause-appended
returns-clause-appended g c =
    let b = c.self.inside in
    let kept = drop c.close_up.new.skipped c.deref.result.now in
    let size = length c.deref.result.now - c.close_up.new.skipped in
    moves g.S.Spill.tells c.args.self.now.bytes (take size kept)
    (g.S.Spill.content c.fill.new.spill) c.args.from.now c.clear.new.memory.items
    c.len-self-inside-2.result
    c.in_ok-fill.ensures.content
    (c.len-self-inside-2.ensures ∙ c.in_ok-fill.ensures.size)
    (take_all size kept (omega (arith, length-drop c.close_up.new.skipped c.deref.result.now))
    ∙ ap (drop c.close_up.new.skipped) c.deref.ensures.value ∙ c.close_up.ensures.same
    ∙ sym (only_memory g.S.Spill.tells c.args.self.now.bytes b.memory.items
    (g.S.Spill.content b.spill) b.skipped b.start b.end (ap (λ v. v.bytes) c.self.view_is)
    c.if-self.false))
    c.clear.ensures.empty
