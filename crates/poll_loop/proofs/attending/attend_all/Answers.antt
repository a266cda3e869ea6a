use Rattle.std.proofs.Common.{arith, ◌<◌, ℕ, List, length, ap, sym, subst, ◌∙◌, add-one}
use Rattle.std.proofs.Common.{slice_index_or, slice_set, false, rules}
use Rattle.std.specs.List.{length_refill}
use Rattle.outside.specs.declared.types.Want.{Want}
use Rattle.channel.specs.declared.types.Window.{Window}
use Rattle.poll_loop.specs.Lists.{Paired, UpTo}
use Rattle.poll_loop.specs.Seat.{Eyes, SeatAsks, SeatHolds, SeatTurns, eyes_of, viewed}
use Rattle.poll_loop.specs.declared.seat.Seat.{Seat}
use Rattle.poll_loop.proofs.Leaving.{turned}
use Rattle.poll_loop.proofs.UpTo.{paired_at, paired_length, up_to_all, up_to_length, up_to_at}
use Rattle.poll_loop.proofs.UpTo.{up_to_more}
use Rattle.poll_loop.proofs.attending.attend_all.Goals as goal

abbrev no_want : Want
no_want = record { key = 0; read = false; write = false; may_read = false; may_write = false }

-- a seat that has not had its part yet asks as it did
still_asks : {L P A S R : Type 0} (e : Eyes L P) (now : ℕ) (w : Window) (i : ℕ) (wants : List Want)
    (olds news : List (Seat L A S P R)) (d : Seat L A S P R) →
    Paired (SeatAsks e w) wants olds → i < length wants →
    UpTo (SeatTurns e now w) i wants olds news → SeatAsks e w (slice_index_or wants i no_want)
    (slice_index_or news i d)
still_asks e now w i wants olds news d p h u =
    subst (λ s. SeatAsks e w (slice_index_or wants i no_want) s)
    (sym (up_to_at (SeatTurns e now w) i wants olds news d u))
    (paired_at (SeatAsks e w) i wants olds no_want d p h)

pub attend-requires-clause-recv_room : goal.attend-requires-clause-recv_room
attend-requires-clause-recv_room g c κs within =
    let e : Eyes g.row.L.Denot g.row.L-Plan.Denot = eyes_of g.L.Link in
    let asks = still_asks e c.args.round.now c.args.round.window c.loop-i.i c.args.wants.now
    c.args.seats.now c.loop-i.seats c.index-seats-i.result
    c.requires.asks c.if-i-wants.false c.loop-i.invariant.turns in
    ap length c.as_mut_slice.ensures.value ∙ c.loop-i.invariant.rooms ∙ c.requires.recv ∙
    sym (ap (λ w. w.recv_bytes) asks.rests.window)

pub attend-requires-clause-holds : goal.attend-requires-clause-holds
attend-requires-clause-holds g c κs within =
    let e : Eyes g.row.L.Denot g.row.L-Plan.Denot = eyes_of g.L.Link in
    let asks = still_asks e c.args.round.now c.args.round.window c.loop-i.i c.args.wants.now
    c.args.seats.now c.loop-i.seats c.index-seats-i.result
    c.requires.asks c.if-i-wants.false c.loop-i.invariant.turns in
    let seat : Seat g.row.L.Denot g.row.A.Denot g.row.S.Denot g.row.L-Plan.Denot g.row.A-Run.Denot =
    slice_index_or c.loop-i.seats c.loop-i.i c.index-seats-i.result in
    subst (λ w. SeatHolds w seat.want seat.mark (viewed e seat.lane)) (sym asks.rests.window)
    asks.rests.holds

pub attend-requires-clause-asks : goal.attend-requires-clause-asks
attend-requires-clause-asks g c κs within =
    let e : Eyes g.row.L.Denot g.row.L-Plan.Denot = eyes_of g.L.Link in
    let asks = still_asks e c.args.round.now c.args.round.window c.loop-i.i c.args.wants.now
    c.args.seats.now c.loop-i.seats c.index-seats-i.result
    c.requires.asks c.if-i-wants.false c.loop-i.invariant.turns in
    asks.asks

pub loop-i-preserved : goal.loop-i-preserved
loop-i-preserved g c =
    let e : Eyes g.row.L.Denot g.row.L-Plan.Denot = eyes_of g.L.Link in
    let now = c.args.round.now in
    let w : Window = c.args.round.window in
    let i = c.loop-i.i in
    let wants : List Want = c.args.wants.now in
    let ready : Want = slice_index_or wants i no_want in
    let d : Seat g.row.L.Denot g.row.A.Denot g.row.S.Denot g.row.L-Plan.Denot g.row.A-Run.Denot =
    c.index-seats-i.result in
    let new : Seat g.row.L.Denot g.row.A.Denot g.row.S.Denot g.row.L-Plan.Denot g.row.A-Run.Denot =
    c.attend.new.self in
    let t = c.if-i-wants.false in
    let u = c.loop-i.invariant.turns in
    let asks = still_asks e now w i wants c.args.seats.now c.loop-i.seats d c.requires.asks t u in
    let turns : SeatTurns e now w ready (slice_index_or c.loop-i.seats i d) new
    = turned e now w ready (slice_index_or c.loop-i.seats i d) new asks c.attend.ensures.goes
    c.attend.ensures.attends in
    let r = c.loop-i.rooms.recv in
    record {
      turns = subst (λ n. UpTo (SeatTurns e now w) n wants c.args.seats.now
          (slice_set c.loop-i.seats i new)) (sym (add-one i))
          (up_to_more (SeatTurns e now w) i wants c.args.seats.now c.loop-i.seats no_want d new u
          c.loop-i-test.true t
          (subst (λ s. SeatTurns e now w ready s new) (up_to_at (SeatTurns e now w) i wants
          c.args.seats.now c.loop-i.seats d u) turns));
      rooms = sym (length_refill r.len r.items c.attend.new.recv_room r.ok.0) ∙ r.ok.0 ∙
          c.loop-i.invariant.rooms;
      spills = search rules;
    }

pub returns-then-i-wants-clause-turns : goal.returns-then-i-wants-clause-turns
returns-then-i-wants-clause-turns g c =
    let t = c.if-i-wants.true in
    up_to_all _ _ _ _ _ c.loop-i.invariant.turns (omega (arith, t))

pub returns-clause-turns : goal.returns-clause-turns
returns-clause-turns g c =
    let t = c.loop-i-test.false in
    let n = up_to_length _ _ _ _ _ c.loop-i.invariant.turns in
    let p = paired_length _ _ _ c.requires.asks in
    up_to_all _ _ _ _ _ c.loop-i.invariant.turns (omega (arith, t, n, p))
