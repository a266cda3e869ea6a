use Rattle.std.proofs.Common.{◌≡◌, ◌≤◌, ◌+◌, ◌-◌, ◌++◌, [], length, take, ℕ, true, sym, ap, ◌∙◌}
use Rattle.std.proofs.Common.{refl, arith, drop}
use Rattle.std.proofs.lemmas.List.{append-nil}
use Rattle.chunk_body.specs.Reading.{decodes, has_ended}
use Rattle.chunk_body.proofs.Runs.{part_read, part_decoded, rest_length, whole_read, whole_decoded}
use Rattle.chunk_body.proofs.Runs.{none_read, none_decoded, nothing_decoded, refused_ended}
use Rattle.chunk_body.proofs.Runs.{ended_stays, ended_gives}
use Rattle.chunk_body.proofs.chunks.Chunks.read_piece.Goals as goal

pub returns-in-Whole-clause-read : goal.returns-in-Whole-clause-read
returns-in-Whole-clause-read c = (
  [],
  sym (append-nil c.args.room.now.items),
  (
    omega arith,
    none_read c.args.self.now,
    nothing_decoded c.args.self.now,
    c.in-Whole.ensures,
    omega arith,
  ),
)

pub returns-in-Refused-clause-read : goal.returns-in-Refused-clause-read
returns-in-Refused-clause-read c =
    let h : has_ended c.args.self.now.place ≡ true =
    refused_ended c.args.self.now.place c.in-Refused.refusal c.in-Refused.ensures in (
      [],
      sym (append-nil c.args.room.now.items),
      (
        sym (ended_stays c.args.self.now c.args.piece.now h),
        sym (ended_gives c.args.self.now c.args.piece.now h),
        c.in-Refused.ensures,
      ),
    )

pub loop-at-init : goal.loop-at-init
loop-at-init c = record {
  within = omega arith;
  going = c.in-Open.ensures;
  state = none_read c.args.self.now;
  items = none_decoded c.args.self.now c.reserve.new.self.items;
  count = omega arith;
  room = let o = c.in-Ok.ensures.ok in omega (arith, o);
}

pub returns-in-Whole-end-clause-read : goal.returns-in-Whole-end-clause-read
returns-in-Whole-end-clause-read c =
    let n : ℕ = c.loop-at.at + c.read_some-at.result in
    let w : c.read_some-at.result ≤ length (take (length c.args.piece.now - c.loop-at.at)
    (drop c.loop-at.at c.args.piece.now)) = c.read_some-at.ensures.count.1 in
    let l = rest_length c.args.piece.now c.loop-at.at in
    let items = part_decoded c.args.self.now c.loop-at.self c.reserve.new.self.items
    c.loop-at.room.items c.read_some-at.new.room.items c.args.piece.now c.loop-at.at
    c.read_some-at.result
    c.loop-at.invariant.state c.loop-at.invariant.items c.read_some-at.ensures.room in (
      decodes c.args.self.now (take n c.args.piece.now),
      items ∙ ap (λ b. b ++ decodes c.args.self.now (take n c.args.piece.now))
          c.in-Ok.ensures.items,
      (
        omega arith,
        part_read c.args.self.now c.loop-at.self c.read_some-at.new.self c.args.piece.now
            c.loop-at.at c.read_some-at.result c.loop-at.invariant.state
            c.read_some-at.ensures.reads,
        refl,
        c.in-Whole-end.ensures,
        omega arith,
      ),
    )

pub returns-in-Refused-end-clause-read : goal.returns-in-Refused-end-clause-read
returns-in-Refused-end-clause-read c =
    let n : ℕ = c.loop-at.at + c.read_some-at.result in
    let items = part_decoded c.args.self.now c.loop-at.self c.reserve.new.self.items
    c.loop-at.room.items c.read_some-at.new.room.items c.args.piece.now c.loop-at.at
    c.read_some-at.result
    c.loop-at.invariant.state c.loop-at.invariant.items c.read_some-at.ensures.room in
    let state = part_read c.args.self.now c.loop-at.self c.read_some-at.new.self c.args.piece.now
    c.loop-at.at c.read_some-at.result c.loop-at.invariant.state c.read_some-at.ensures.reads in
    let h = refused_ended c.read_some-at.new.self.place c.in-Refused-end.refusal
    c.in-Refused-end.ensures in (
      decodes c.args.self.now (take n c.args.piece.now),
      items ∙ ap (λ b. b ++ decodes c.args.self.now (take n c.args.piece.now))
          c.in-Ok.ensures.items,
      (
        whole_read c.args.self.now c.read_some-at.new.self c.args.piece.now n state h,
        whole_decoded c.args.self.now c.read_some-at.new.self c.args.piece.now n state h,
        c.in-Refused-end.ensures,
      ),
    )

pub loop-at-preserved : goal.loop-at-preserved
loop-at-preserved c =
    let l = rest_length c.args.piece.now c.loop-at.at in
    let w : c.read_some-at.result ≤ length (take (length c.args.piece.now - c.loop-at.at)
    (drop c.loop-at.at c.args.piece.now)) = c.read_some-at.ensures.count.1 in
    record {
      within = omega arith;
      going = c.in-Open-end.ensures;
      state = part_read c.args.self.now c.loop-at.self c.read_some-at.new.self c.args.piece.now
          c.loop-at.at c.read_some-at.result c.loop-at.invariant.state c.read_some-at.ensures.reads;
      items = part_decoded c.args.self.now c.loop-at.self c.reserve.new.self.items
          c.loop-at.room.items c.read_some-at.new.room.items c.args.piece.now c.loop-at.at
          c.read_some-at.result
          c.loop-at.invariant.state c.loop-at.invariant.items c.read_some-at.ensures.room;
      count = omega arith;
      room = omega arith;
    }
