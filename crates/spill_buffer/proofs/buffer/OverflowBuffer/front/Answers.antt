use Rattle.std.proofs.Common.{◌≡◌, ◌≤◌, ◌-◌, length, take, drop, refl, sym, ap, ◌∙◌, arith}
use Rattle.std.specs.Prelude.{min}
use Rattle.std.proofs.lemmas.List.{length-take, take-append-le}
use Rattle.spill_buffer.specs.Buffer.{stored}
use Rattle.spill_buffer.proofs.Storing.{front_stored, not_all, none_spilled, only_stored}
use Rattle.spill_buffer.proofs.buffer.OverflowBuffer.front.Goals as goal

pub returns-then-self-clause-front : goal.returns-then-self-clause-front
returns-then-self-clause-front g c = λ told.
    let b = c.self.inside in
    let n = c.in_ok-read.field-0 in
    let rest = drop c.min-count.result c.args.into.now in
    let room : length c.read.new.into ≡ length (take c.min-count.result c.args.into.now) =
    c.read.auto.into in
    let within : n ≤ length c.read.new.into = omega (arith, room, c.in_ok-read.ensures.count) in
    let fits : n ≤ b.end - b.start = omega (
      arith,
      c.in_ok-read.ensures.count,
      c.min-count.ensures,
      length-take c.min-count.result c.args.into.now,
    ) in
    take-append-le n c.read.new.into rest within
    ∙ c.in_ok-read.ensures.bytes told
    ∙ front_stored g.S.Spill.tells (g.S.Spill.content b.spill) b.start b.end n told
    c.self.invariant.ordered fits
    ∙ sym (ap (take n) (only_stored c.args.self.now.bytes b.memory.items
    (stored g.S.Spill.tells (g.S.Spill.content b.spill) b.start b.end) b.skipped
    (ap (λ v. v.bytes) c.self.view_is) (c.self.invariant.apart c.if-self.true)))

pub returns-then-self-clause-known : goal.returns-then-self-clause-known
returns-then-self-clause-known g c = λ all.
    let b = c.self.inside in
    absurd (not_all g.S.Spill.tells c.args.self.now.bytes b.memory.items
    (g.S.Spill.content b.spill) b.skipped b.start b.end (g.S.Spill.size b.spill)
    c.args.self.now.in_memory (g.met.S.Spill.sized b.spill) c.self.invariant.stands
    (ap (λ v. v.bytes) c.self.view_is) (ap (λ v. v.in_memory) c.self.view_is) c.if-self.true all)

pub returns-clause-count : goal.returns-clause-count
returns-clause-count g c =
    let b = c.self.inside in
    let all : length c.args.self.now.bytes ≡ length b.memory.items - b.skipped = none_spilled
    g.S.Spill.tells c.args.self.now.bytes b.memory.items (g.S.Spill.content b.spill) b.skipped
    b.start b.end (length b.memory.items - b.skipped)
    (ap (λ v. v.bytes) c.self.view_is) refl c.if-self.false in
    let here : c.len.result - b.skipped ≡ length c.args.self.now.bytes = omega
    (arith, all, c.len.ensures, b.memory.ok.0) in
    c.min-count-2.ensures ∙ ap (min (length c.args.into.now)) here
