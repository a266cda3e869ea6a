use Rattle.std.proofs.Common.{◌≡◌, ◌<◌, ◌+◌, ℕ, List, length, ap, sym, subst, ◌∙◌, arith, add-one}
use Rattle.std.proofs.Common.{slice_index_or, slice_set, false}
use Rattle.channel.specs.declared.types.Window.{Window}
use Rattle.poll_loop.specs.Lists.{EachIs, UpTo}
use Rattle.poll_loop.specs.Seat.{Eyes, SeatChecks, SeatOut, eyes_of, is_open}
use Rattle.poll_loop.specs.declared.seat.Seat.{Seat}
use Rattle.poll_loop.proofs.Leaving.{checked, is_up, unchecked}
use Rattle.poll_loop.proofs.UpTo.{both_of, each_at, same_at, up_to_at, up_to_keep, up_to_length}
use Rattle.poll_loop.proofs.UpTo.{up_to_more}
use Rattle.poll_loop.proofs.attending.check_all.Goals as goal
use Rattle.poll_loop.proofs.attending.check_all.Goals.{then-is_open, else-is_open}

-- a seat that was not checked yet is out as it was
still_out : {L P A S R : Type 0} (e : Eyes L P) (now : ℕ) (w : Window) (i : ℕ)
    (olds news : List (Seat L A S P R)) (d : Seat L A S P R) →
    EachIs (SeatOut e now w) olds → i < length olds → UpTo (λ _. SeatChecks e now w) i olds olds
    news → SeatOut e now w (slice_index_or news i d)
still_out e now w i olds news d p h u =
    subst (λ s. SeatOut e now w s) (sym (up_to_at (λ _. SeatChecks e now w) i olds olds news d u))
    (each_at (SeatOut e now w) i olds d p h)

check_more : {L P A S R : Type 0} (e : Eyes L P) (now : ℕ) (w : Window) (i : ℕ)
    (olds news : List (Seat L A S P R)) (d new : Seat L A S P R) →
    i < length olds → UpTo (λ _. SeatChecks e now w) i olds olds news →
    SeatChecks e now w (slice_index_or news i d) new →
    UpTo (λ _. SeatChecks e now w) (i + 1) olds olds (slice_set news i new)
check_more e now w i olds news d new h u r =
    subst (λ n. UpTo (λ _. SeatChecks e now w) n olds olds (slice_set news i new)) (sym (add-one i))
    (up_to_more (λ _. SeatChecks e now w) i olds olds news d d new u h h
    (subst (λ s. SeatChecks e now w s new) (up_to_at (λ _. SeatChecks e now w) i olds olds news d u)
    r))

check_none : {L P A S R : Type 0} (e : Eyes L P) (now : ℕ) (w : Window) (i : ℕ)
    (olds news : List (Seat L A S P R)) (d : Seat L A S P R) →
    i < length olds → UpTo (λ _. SeatChecks e now w) i olds olds news →
    is_open (slice_index_or news i d).mark ≡ false →
    UpTo (λ _. SeatChecks e now w) (i + 1) olds olds news
check_none e now w i olds news d h u n =
    subst (λ k. UpTo (λ _. SeatChecks e now w) k olds olds news) (sym (add-one i))
    (up_to_keep (λ _. SeatChecks e now w) i olds olds news d d u h h
    (subst (λ s. SeatChecks e now w s (slice_index_or news i d))
    (up_to_at (λ _. SeatChecks e now w) i olds olds news d u)
    (unchecked e now w (slice_index_or news i d) n)))

pub check-requires-clause-up : goal.check-requires-clause-up
check-requires-clause-up g c κs within =
    let e : Eyes g.row.L.Denot g.row.L-Plan.Denot = eyes_of g.L.Link in
    let d : Seat g.row.L.Denot g.row.A.Denot g.row.S.Denot g.row.L-Plan.Denot g.row.A-Run.Denot =
    c.index-seats-i-then-is_open.result in
    let many = up_to_length (λ _. SeatChecks e c.args.round.now c.args.round.window) c.loop-i.i
    c.args.seats.now c.args.seats.now c.loop-i.seats c.loop-i.invariant.checks in
    let same = same_at c.loop-i.i c.loop-i.seats c.index-seats-i.result d
    (subst (λ n. c.loop-i.i < n) (sym many) c.loop-i-test.true) in
    is_up e c.args.round.now c.args.round.window (slice_index_or c.loop-i.seats c.loop-i.i d)
    (still_out e c.args.round.now c.args.round.window c.loop-i.i c.args.seats.now c.loop-i.seats d
    c.requires.out c.loop-i-test.true c.loop-i.invariant.checks)
    (ap (λ s. is_open s.mark) (sym same) ∙ sym c.is_open.ensures ∙ c.if-is_open.true)

pub loop-i-preserved : goal.loop-i-preserved
loop-i-preserved g c =
    let e : Eyes g.row.L.Denot g.row.L-Plan.Denot = eyes_of g.L.Link in
    let now = c.args.round.now in
    let w : Window = c.args.round.window in
    let i = c.loop-i.i in
    let olds : List (Seat g.row.L.Denot g.row.A.Denot g.row.S.Denot g.row.L-Plan.Denot
    g.row.A-Run.Denot) = c.args.seats.now in
    let seats : List (Seat g.row.L.Denot g.row.A.Denot g.row.S.Denot g.row.L-Plan.Denot
    g.row.A-Run.Denot) = c.loop-i.seats in
    let d : Seat g.row.L.Denot g.row.A.Denot g.row.S.Denot g.row.L-Plan.Denot g.row.A-Run.Denot =
    c.index-seats-i.result in
    let t = c.loop-i-test.true in
    let u = c.loop-i.invariant.checks in
    let many = up_to_length (λ _. SeatChecks e now w) i olds olds seats u in
    elim c.if-is_open.branch [
      | then-is_open x ↦
          let f : Seat g.row.L.Denot g.row.A.Denot g.row.S.Denot g.row.L-Plan.Denot
          g.row.A-Run.Denot = x.index-seats-i-then-is_open.result in
          let same = same_at i seats d f (subst (λ n. i < n) (sym many) t) in
          record {
            checks = subst (λ l. UpTo (λ _. SeatChecks e now w) (i + 1) olds olds l)
                (sym x.seats-is)
                (check_more e now w i olds seats f x.check.new.self t u
                (checked e now w (slice_index_or seats i f) x.check.new.self
                (still_out e now w i olds seats f c.requires.out t u)
                (ap (λ s. is_open s.mark) (sym same) ∙ sym c.is_open.ensures ∙ x.if-is_open.true)
                x.check.ensures.goes x.check.ensures.passes));
            rooms = ap (λ r. length r.recv.items) x.rooms-is ∙ c.loop-i.invariant.rooms;
          }
      | else-is_open x ↦ record {
        checks = subst (λ l. UpTo (λ _. SeatChecks e now w) (i + 1) olds olds l) (sym x.seats-is)
            (check_none e now w i olds seats d t u (sym c.is_open.ensures ∙ x.if-is_open.false));
        rooms = ap (λ r. length r.recv.items) x.rooms-is ∙ c.loop-i.invariant.rooms;
      }
    ]

pub returns-clause-checks : goal.returns-clause-checks
returns-clause-checks g c =
    let e : Eyes g.row.L.Denot g.row.L-Plan.Denot = eyes_of g.L.Link in
    let t = c.loop-i-test.false in
    let i = c.loop-i.auto.i-end in
    let end : c.loop-i.i ≡ length c.args.seats.now = omega (arith, t, i) in
    both_of (SeatChecks e c.args.round.now c.args.round.window) c.args.seats.now c.loop-i.seats
    (subst (λ n. UpTo (λ _. SeatChecks e c.args.round.now c.args.round.window) n c.args.seats.now
    c.args.seats.now c.loop-i.seats) end c.loop-i.invariant.checks)
