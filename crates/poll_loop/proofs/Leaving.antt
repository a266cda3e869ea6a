-- What a turn leaves of one connection.
use Rattle.std.proofs.Common.{◌≡◌, ◌≤◌, inr, ℕ, List, [], ◌∷◌, Bool, true, false, IsTrue, nat_lt}
use Rattle.std.proofs.Common.{refl, ap, sym, subst, ◌∙◌, arith, length}
use Rattle.outside.specs.Net.{asked_of}
use Rattle.outside.specs.declared.types.Want.{Want}
use Rattle.channel.specs.Views.{Shown, View, is_due, is_writable, want_of}
use Rattle.channel.specs.declared.types.Window.{Window}
use Rattle.poll_loop.specs.Lists.{Both, EachIs, Paired, UpTo}
use Rattle.poll_loop.specs.Seat.{Attends, Eyes, Follows, Goes, Hears, IsCalled, IsUncalled, IsUp}
use Rattle.poll_loop.specs.Seat.{Labours, MarkHolds, OverOrHolds, OverOrMarked, Passes, SeatAsks}
use Rattle.poll_loop.specs.Seat.{SeatChecks, SeatHolds, SeatOut, SeatRests, SeatTurns, Speaks}
use Rattle.poll_loop.specs.Seat.{Strides, is_open, viewed}
use Rattle.poll_loop.specs.declared.seat.Mark.{Mark}
use Rattle.poll_loop.specs.declared.seat.Mark.TheVariants as mark
use Rattle.poll_loop.specs.declared.seat.Seat.{Seat}
use Rattle.poll_loop.proofs.Compose.{follows_trans, go_nowhere, heard_then, spoke_behind}
use Rattle.poll_loop.proofs.Compose.{steps_within}
use Rattle.poll_loop.proofs.UpTo.{both_same}

longer_writable : (m n : ℕ) → m ≤ n → IsTrue (nat_lt 0 m) → IsTrue (nat_lt 0 n)
longer_writable m n h e = grind (arith, h, e)

-- where output stands behind a drain, some stood before it
was_writable : (tells : Bool) (c d : View) → Speaks tells c d → IsTrue (is_writable d.shown) →
    IsTrue (is_writable c.shown)
was_writable tells c d z o = pick (is_writable c.shown) refl
  where
    pick : (b : Bool) → is_writable c.shown ≡ b → IsTrue (is_writable c.shown)
    pick true e = e
    pick false e = let same = ap (λ v. is_writable v.shown) (z.nothing e) in cc

-- reading, steps and sending make a turn of one connection
pub attends_by : (tells : Bool) (now : ℕ) (w : Window) (ready : Want) (a b c d : View) →
    asked_of ready ≡ want_of w a → IsCalled w ready a.shown →
    Follows tells now a b → Hears tells w ready a b → Follows tells now b c → c.faults ≡ b.faults →
    Strides w b.shown c.shown →
    Follows tells now c d → Speaks tells c d → Attends tells w ready a d
attends_by tells now w ready a b c d asks called f x g still y h z =
    let faultless : c.faults ≡ a.faults = still ∙ x.stays.faultless in
    let first : Follows tells now a c = follows_trans tells now a b c f g in
    let last : Follows tells now b d = follows_trans tells now b c d g h in
    let written : ready.write ≡ is_writable a.shown = ap (λ q. q.2) asks in
    let more : a.shown.output ≤ c.shown.output = subst (λ n. n ≤ c.shown.output) x.output y.longer
    in
    record {
      stays = record { up = z.stays.up; faultless = z.stays.faultless ∙ faultless };
      heard = λ t r m. heard_then a b d (x.heard t r m) (last.goes t) (z.stays.faultless ∙ still);
      spoke = λ t r m. spoke_behind a c d (first.goes t) faultless
          (z.spoke t (longer_writable a.shown.output c.shown.output more (sym written ∙ r)));
      stepped = λ due. steps_within a.shown b.shown c.shown d.shown x.begun x.answered x.left
          z.begun z.answered z.left
          (y.stepped (x.still due) z.was_alive);
      offered = λ t o. inr (spoke_behind a c d (first.goes t) faultless
          (z.spoke t (was_writable tells c d z o)));
      rested = λ r s due. absurd (called r s due);
    }

rests_where : (w : Window) (m : Mark) (s : Shown) → MarkHolds w m s → is_due w s ≡ false →
    m ≡ mark.Rests
rests_where w mark.Rests s h d = refl
rests_where w mark.Works s h d = cc
rests_where w (mark.Over end) s h d = absurd h

-- who is called is ready or due
pub called_by : (w : Window) (ready : Want) (m : Mark) (s : Shown) (called : Bool) →
    MarkHolds w m s → (IsUncalled ready m → called ≡ false) → called ≡ true → IsCalled w ready s
called_by w ready m s called h f t = λ r o d. let n = f (record
    { rests = rests_where w m s h d; unread = r; unwritten = o }) in cc

pub marked_by : (now : ℕ) (w v : Window) (m : Mark) (new : View) (P : Type 0) → v ≡ w → P →
    MarkHolds v m new.shown → OverOrMarked now w m new P
marked_by now w v (mark.Over end) new P same p h = absurd h
marked_by now w v mark.Rests new P same p h = (
  p,
  subst (λ u. MarkHolds u mark.Rests new.shown) same
      h,
)
marked_by now w v mark.Works new P same p h = (
  p,
  subst (λ u. MarkHolds u mark.Works new.shown) same
      h,
)

-- ---- one seat

over_or_any : (now : ℕ) (w : Window) (want : Want) (m : Mark) (v : View) (P : Type 0) →
    OverOrHolds now w want m v P → OverOrHolds now w want m v (Unit {0})
over_or_any now w want (mark.Over end) v P h = h
over_or_any now w want mark.Rests v P h = (tt, h.1)
over_or_any now w want mark.Works v P h = (tt, h.1)

up_where_open : (now : ℕ) (w : Window) (want : Want) (m : Mark) (v : View) (P : Type 0) →
    IsTrue (is_open m) → OverOrHolds now w want m v P → IsUp v.shown
up_where_open now w want (mark.Over end) v P o h = cc
up_where_open now w want mark.Rests v P o h = h.1.up
up_where_open now w want mark.Works v P o h = h.1.up

pub is_up : {L P A S R : Type 0} (e : Eyes L P) (now : ℕ) (w : Window) (seat : Seat L A S P R) →
    SeatOut e now w seat → IsTrue (is_open seat.mark) → IsUp seat.lane.shown
is_up e now w seat out o = up_where_open now w seat.want seat.mark (viewed e seat.lane) (Unit {0}) o
    out.is

pub turned : {L P A S R : Type 0} (e : Eyes L P) (now : ℕ) (w : Window) (ready : Want)
    (old new : Seat L A S P R) → SeatAsks e w ready old → Goes e now old.lane new.lane →
    OverOrHolds now old.lane.fixed.window new.want new.mark (viewed e new.lane)
    (Attends e.tells old.lane.fixed.window ready (viewed e old.lane) (viewed e new.lane)) →
    SeatTurns e now w ready old new
turned e now w ready old new asks goes h = record {
  goes = goes;
  leaves = subst (λ u. OverOrHolds now u new.want new.mark (viewed e new.lane)
      (Attends e.tells u ready (viewed e old.lane) (viewed e new.lane))) asks.rests.window h;
}

pub out_by_turn : {L P A S R : Type 0} (e : Eyes L P) (now : ℕ) (w : Window) (ready : Want)
    (old new : Seat L A S P R) → SeatAsks e w ready old → SeatTurns e now w ready old new →
    SeatOut e now w new
out_by_turn e now w ready old new asks turns = record {
  window = ap (λ f. f.window) turns.goes.same.fixed ∙ asks.rests.window;
  is = over_or_any now w new.want new.mark (viewed e new.lane)
      (Attends e.tells w ready (viewed e old.lane) (viewed e new.lane)) turns.leaves;
}

pub checked : {L P A S R : Type 0} (e : Eyes L P) (now : ℕ) (w : Window)
    (old new : Seat L A S P R) → SeatOut e now w old → IsTrue (is_open old.mark) →
    Goes e now old.lane new.lane →
    OverOrHolds now old.lane.fixed.window new.want new.mark (viewed e new.lane)
    (Passes e.tells now old.lane.fixed.window (viewed e old.lane) (viewed e new.lane)) →
    SeatChecks e now w old new
checked e now w old new out o goes h = record {
  goes = goes;
  over = λ n. cc;
  passes = λ _. subst (λ u. OverOrHolds now u new.want new.mark (viewed e new.lane)
      (Passes e.tells now u (viewed e old.lane) (viewed e new.lane))) out.window h;
}

pub unchecked : {L P A S R : Type 0} (e : Eyes L P) (now : ℕ) (w : Window) (seat : Seat L A S P R) →
    is_open seat.mark ≡ false → SeatChecks e now w seat seat
unchecked e now w seat n = record {
  goes = go_nowhere e now seat.lane;
  over = λ _. refl;
  passes = λ o. cc;
}

out_by_check : {L P A S R : Type 0} (e : Eyes L P) (now : ℕ) (w : Window)
    (old new : Seat L A S P R) → SeatOut e now w old → SeatChecks e now w old new →
    SeatOut e now w new
out_by_check e now w old new out checks = pick (is_open old.mark) refl
  where
    pick : (b : Bool) → is_open old.mark ≡ b → SeatOut e now w new
    pick true o = record {
      window = ap (λ f. f.window) checks.goes.same.fixed ∙ out.window;
      is = over_or_any now w new.want new.mark (viewed e new.lane)
          (Passes e.tells now w (viewed e old.lane) (viewed e new.lane)) (checks.passes o);
    }
    pick false n = subst (λ s. SeatOut e now w s) (sym (checks.over n)) out

-- ---- all seats

held_any : (now : ℕ) (w : Window) (want : Want) (m : Mark) (v : View) → SeatHolds w want m v →
    OverOrHolds now w want m v (Unit {0})
held_any now w want (mark.Over end) v h = absurd h.marked
held_any now w want mark.Rests v h = (tt, h)
held_any now w want mark.Works v h = (tt, h)

pub rests_out : {L P A S R : Type 0} (e : Eyes L P) (now : ℕ) (w : Window) (seat : Seat L A S P R) →
    SeatRests e w seat → SeatOut e now w seat
rests_out e now w seat r = record {
  window = r.window;
  is =
      held_any now w seat.want seat.mark (viewed e seat.lane) r.holds;
}

pub rest_outs : {L P A S R : Type 0} (e : Eyes L P) (now : ℕ) (w : Window)
    (seats : List (Seat L A S P R)) → EachIs (SeatRests e w) seats → EachIs (SeatOut e now w) seats
rest_outs e now w [] h = tt
rest_outs e now w (s ∷ ss) h = (rests_out e now w s h.0, rest_outs e now w ss h.1)

pub outs_by_turn : {L P A S R : Type 0} (e : Eyes L P) (now : ℕ) (w : Window) (wants : List Want)
    (olds news : List (Seat L A S P R)) →
    Paired (SeatAsks e w) wants olds → EachIs (SeatRests e w) olds →
    UpTo (SeatTurns e now w) (length wants) wants olds news → EachIs (SeatOut e now w) news
outs_by_turn e now w [] olds news p h u = subst (λ l. EachIs (SeatOut e now w) l) (sym u)
    (rest_outs e now w olds h)
outs_by_turn e now w (r ∷ rs) [] news p h u = absurd p
outs_by_turn e now w (r ∷ rs) (o ∷ os) [] p h u = absurd u
outs_by_turn e now w (r ∷ rs) (o ∷ os) (n ∷ ns) p h u = (
  out_by_turn e now w r o n p.0 u.0,
  outs_by_turn e now w rs os ns p.1 h.1 u.1,
)

pub outs_by_check : {L P A S R : Type 0} (e : Eyes L P) (now : ℕ) (w : Window)
    (olds news : List (Seat L A S P R)) →
    EachIs (SeatOut e now w) olds → Both (SeatChecks e now w) olds news →
    EachIs (SeatOut e now w) news
outs_by_check e now w [] [] out b = tt
outs_by_check e now w [] (n ∷ ns) out b = absurd b
outs_by_check e now w (o ∷ os) [] out b = absurd b
outs_by_check e now w (o ∷ os) (n ∷ ns) out b = (
  out_by_check e now w o n out.0 b.0,
  outs_by_check e now w os ns out.1 b.1,
)

pub labours_due : {L P A S R : Type 0} (due : Bool) (e : Eyes L P) (now : ℕ) (w : Window)
    (wants : List Want) (olds mids news : List (Seat L A S P R)) → due ≡ true →
    UpTo (SeatTurns e now w) (length wants) wants olds mids → Both (SeatChecks e now w) mids news →
    Labours due e now w wants olds news
labours_due due e now w wants olds mids news is u b = subst (λ d. Labours d e now w wants olds news)
    (sym is) (record { mids = mids; turns = u; checks = b })

pub labours_else : {L P A S R : Type 0} (due : Bool) (e : Eyes L P) (now : ℕ) (w : Window)
    (wants : List Want) (olds mids : List (Seat L A S P R)) → due ≡ false →
    UpTo (SeatTurns e now w) (length wants) wants olds mids → Labours due e now w wants olds mids
labours_else due e now w wants olds mids is u = subst (λ d. Labours d e now w wants olds mids)
    (sym is) (record { mids = mids; turns = u; checks = both_same mids })
