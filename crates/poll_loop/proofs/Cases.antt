-- A whole turn, put together from its parts.
use Rattle.std.proofs.Common.{◌≡◌, ◌⊎◌, ◌&&◌, ◌≤◌, ◌<◌, ◌++◌, inl, inr, ℕ, List, [], ◌∷◌, Bool}
use Rattle.std.proofs.Common.{true, false, IsTrue, refl, ap, sym, subst, ◌∙◌, arith, length, map}
use Rattle.std.proofs.Common.{Some, None}
use Rattle.std.specs.Prelude.{Option, filter, IfSome}
use Rattle.outside.specs.Causes.{Rose}
use Rattle.outside.specs.Link.{LinkState, opened, stamped}
use Rattle.outside.specs.Net.{NetState, asked_of}
use Rattle.outside.specs.declared.types.Want.{Want}
use Rattle.channel.specs.Views.{Heard, LinkGoes, Spoke, Stamps, Steps, View, fresh, is_due, is_late}
use Rattle.channel.specs.Views.{is_writable}
use Rattle.channel.specs.declared.types.Window.{Window}
use Rattle.poll_loop.specs.Connections.{IsOpenedBy, SeatIsTimely, is_kept, seated}
use Rattle.poll_loop.specs.Entries.{IsTimely, IsWithin}
use Rattle.poll_loop.specs.Lists.{Both, EachIs, Paired, UpTo}
use Rattle.poll_loop.specs.NoIdle.{Asks, Case, IsFresh, Serves, kept, with_kept}
use Rattle.poll_loop.specs.Seat.{Attends, ChecksIf, Eyes, Follows, Goes, Labours, OverOrHolds}
use Rattle.poll_loop.specs.Seat.{Passes, SeatAsks, SeatHolds, SeatRests, SeatTurns, StaysUp}
use Rattle.poll_loop.specs.Seat.{is_open, viewed}
use Rattle.poll_loop.specs.Settings.{fixed_by}
use Rattle.poll_loop.specs.declared.seat.Mark.{Mark}
use Rattle.poll_loop.specs.declared.seat.Mark.TheVariants as mark
use Rattle.poll_loop.specs.declared.seat.Seat.{Seat}
use Rattle.poll_loop.specs.declared.settings.Settings.{Settings}
use Rattle.poll_loop.proofs.Compose.{follows_trans, go_nowhere, go_on, heard_then, spoke_behind}
use Rattle.poll_loop.proofs.Compose.{steps_within}

-- ---- one channel

rose_on : (a b c : ℕ) → Rose a b → b ≤ c → Rose a c
rose_on a b c h k = omega (arith, h, k)

longer_on : (a b c : ℕ) → a < b → b ≤ c → a < c
longer_on a b c h k = omega (arith, h, k)

spoke_then : (a b c : View) → Spoke a b → LinkGoes b c → c.faults ≡ b.faults → Spoke a c
spoke_then a b c h y faultless = (
  rose_on a.link.asked b.link.asked c.link.asked h.0 y.asked,
  elim h.1 [
    | inl p ↦ inl (rose_on a.link.send_put_off b.link.send_put_off c.link.send_put_off p
        y.send_put_off)
    | inr q ↦ inr (elim q [
      | inl f ↦ inl (subst (λ n. Rose a.faults n) (sym faultless) f)
      | inr l ↦ inr (longer_on (length a.link.sent) (length b.link.sent) (length c.link.sent) l
          y.sent)
    ])
  ],
)

-- what a turn leaves, its idle check with it
record Meets (tells : Bool) (w : Window) (ready : Want) (old new : View) : Type 0 where
  stays : StaysUp old new
  heard : IsTrue tells → IsTrue ready.read → IsTrue ready.may_read → Heard old new
  spoke : IsTrue tells → IsTrue ready.write → IsTrue ready.may_write → Spoke old new
  stepped : IsTrue (is_due w old.shown) → Steps old.shown new.shown
  offered : IsTrue tells → IsTrue (is_writable new.shown) → (new ≡ old) ⊎ Spoke old new
  rested : IsTrue tells → (ready.read && ready.may_read) ≡ false →
      (ready.write && ready.may_write) ≡ false → is_due w old.shown ≡ false →
      (new ≡ old) ⊎ Spoke old new

attends_meets : (tells : Bool) (w : Window) (ready : Want) (a b : View) →
    Attends tells w ready a b → Meets tells w ready a b
attends_meets tells w ready a b x = record {
  stays = x.stays;
  heard = x.heard;
  spoke = x.spoke;
  stepped = x.stepped;
  offered = x.offered;
  rested = λ _ r s d. inl (x.rested r s d);
}

-- an idle check sends, or does nothing
pass_sends : (tells : Bool) (now : ℕ) (w : Window) (b c : View) → Passes tells now w b c →
    IsTrue tells → (c ≡ b) ⊎ Spoke b c
pass_sends tells now w b c y t = pick (is_writable b.shown) refl
  where
    pick : (o : Bool) → is_writable b.shown ≡ o → (c ≡ b) ⊎ Spoke b c
    pick true o = inr (y.spoke t o)
    pick false o = inl (y.nothing o)

-- an idle check behind the rest
attends_passes : (tells : Bool) (now : ℕ) (w : Window) (ready : Want) (a b c : View) →
    Follows tells now a b → Attends tells w ready a b →
    Follows tells now b c → Passes tells now w b c → Meets tells w ready a c
attends_passes tells now w ready a b c f x g y = record {
  stays = record { up = y.stays.up; faultless = y.stays.faultless ∙ x.stays.faultless };
  heard = λ t r m. heard_then a b c (x.heard t r m) (g.goes t) y.stays.faultless;
  spoke = λ t r m. spoke_then a b c (x.spoke t r m) (g.goes t) y.stays.faultless;
  stepped = λ due. steps_within a.shown a.shown b.shown c.shown refl refl refl y.begun y.answered
      y.left (x.stepped due);
  offered = λ t o. inr (spoke_behind a b c (f.goes t) x.stays.faultless (y.offered t o));
  rested = λ t r s d.
      let same : b ≡ a = x.rested r s d in
      elim (pass_sends tells now w b c y t) [
        | inl e ↦ inl (e ∙ same)
        | inr h ↦ inr (subst (λ v. Spoke v c) same h)
      ];
}

serves_by : (tells : Bool) (now : ℕ) (w : Window) (ready want : Want) (m : Mark) (old new : View) →
    IsTrue tells → SeatHolds w want m old →
    Follows tells now old new → Meets tells w ready old new → Serves now w ready old new
serves_by tells now w ready want m old new t h f a = record {
  key = f.key;
  was_alive = h.up.alive;
  was_undone = h.up.undone;
  faultless = a.stays.faultless;
  heard = a.heard t;
  spoke = a.spoke t;
  stepped = a.stepped;
  offered = a.offered t;
  rested = a.rested t;
  moves = f.moves;
  goes = f.goes t;
  stamps = f.stamps t;
}

open_parts : (now : ℕ) (w : Window) (want : Want) (m : Mark) (v : View) (P : Type 0) →
    IsTrue (is_open m) → OverOrHolds now w want m v P → P × SeatHolds w want m v
open_parts now w want (mark.Over end) v P o h = cc
open_parts now w want mark.Rests v P o h = h
open_parts now w want mark.Works v P o h = h

-- the view of a seat that is kept
abbrev kept_view : Mark → View → Option View
kept_view (mark.Over end) v = None
kept_view mark.Rests v = Some v
kept_view mark.Works v = Some v

if_kept : (m : Mark) (v : View) (Q : View → Type 0) → (IsTrue (is_open m) → Q v) →
    IfSome (kept_view m v) Q
if_kept (mark.Over end) v Q f = tt
if_kept mark.Rests v Q f = f refl
if_kept mark.Works v Q f = f refl

-- ---- one seat

-- what a turn did to a seat that is kept
record Attended {L P A S R : Type 0} (e : Eyes L P) (now : ℕ) (w : Window) (ready : Want)
    (old new : Seat L A S P R) : Type 0 where
  follows : Follows e.tells now (viewed e old.lane) (viewed e new.lane)
  meets : Meets e.tells w ready (viewed e old.lane) (viewed e new.lane)

attends_turn : {L P A S R : Type 0} (e : Eyes L P) (now : ℕ) (w : Window) (ready : Want)
    (old new : Seat L A S P R) →
    SeatTurns e now w ready old new → IsTrue (is_open new.mark) →
    Attends e.tells w ready (viewed e old.lane) (viewed e new.lane)
attends_turn e now w ready old new turns o =
    (open_parts now w new.want new.mark (viewed e new.lane)
    (Attends e.tells w ready (viewed e old.lane) (viewed e new.lane)) o turns.leaves).0

attended_turn : {L P A S R : Type 0} (e : Eyes L P) (now : ℕ) (w : Window) (ready : Want)
    (old new : Seat L A S P R) →
    SeatTurns e now w ready old new → IsTrue (is_open new.mark) → Attended e now w ready old new
attended_turn e now w ready old new turns o = record {
  follows = turns.goes.follows;
  meets = attends_meets e.tells w ready (viewed e old.lane) (viewed e new.lane)
      (attends_turn e now w ready old new turns o);
}

attended : {L P A S R : Type 0} (due : Bool) (e : Eyes L P) (now : ℕ) (w : Window) (ready : Want)
    (old mid new : Seat L A S P R) →
    SeatTurns e now w ready old mid → ChecksIf due e now w mid new → IsTrue (is_open new.mark) →
    Attended e now w ready old new
attended false e now w ready old mid new turns same o =
    subst (λ s. Attended e now w ready old s) (sym same)
    (attended_turn e now w ready old mid turns (subst (λ s. IsTrue (is_open s.mark)) same o))
attended true e now w ready old mid new turns checks o = pick (is_open mid.mark) refl
  where
    pick : (b : Bool) → is_open mid.mark ≡ b → Attended e now w ready old new
    pick false n =
        let same = checks.over n in
        subst (λ s. Attended e now w ready old s) (sym same)
        (attended_turn e now w ready old mid turns (subst (λ s. IsTrue (is_open s.mark)) same
        o))
    pick true b =
        let first = attends_turn e now w ready old mid turns b in
        let passes = open_parts now w new.want new.mark (viewed e new.lane)
        (Passes e.tells now w (viewed e mid.lane) (viewed e new.lane)) o (checks.passes b) in
        record {
          follows = follows_trans e.tells now (viewed e old.lane) (viewed e mid.lane)
              (viewed e new.lane) turns.goes.follows checks.goes.follows;
          meets = attends_passes e.tells now w ready (viewed e old.lane) (viewed e mid.lane)
              (viewed e new.lane) turns.goes.follows first checks.goes.follows passes.0;
        }

asks_by : {L P A S R : Type 0} (e : Eyes L P) (now : ℕ) (w : Window) (ready : Want)
    (old new : Seat L A S P R) → IsTrue e.tells → SeatRests e w old →
    asked_of ready ≡ asked_of old.want →
    (IsTrue (is_open new.mark) → Attended e now w ready old new) →
    Asks now w (record {
      ready = ready;
      old = viewed e old.lane;
      new =
          kept_view new.mark (viewed e new.lane);
    })
asks_by e now w ready old new t rests asks did = record {
  wants = asks ∙ rests.holds.asks;
  stirs = rests.holds.stirs;
  serves = if_kept new.mark (viewed e new.lane) (λ v. Serves now w ready (viewed e old.lane) v)
      (λ o. serves_by e.tells now w ready old.want old.mark (viewed e old.lane) (viewed e new.lane)
      t rests.holds (did o).follows (did o).meets);
}

passed_on_time : {L P A S R : Type 0} (due : Bool) (e : Eyes L P) (now : ℕ) (w : Window)
    (old new : Seat L A S P R) → ChecksIf due e now w old new →
    due ≡ true → IsTrue (is_open new.mark) → is_late now w new.lane.shown ≡ false
passed_on_time false e now w old new same d o = cc
passed_on_time true e now w old new checks d o = pick (is_open old.mark) refl
  where
    pick : (b : Bool) → is_open old.mark ≡ b → is_late now w new.lane.shown ≡ false
    pick false n = let over : is_open new.mark ≡ false =
        subst (λ s. is_open s.mark ≡ false) (sym (checks.over n)) n in cc
    pick true b = (open_parts now w new.want new.mark (viewed e new.lane)
        (Passes e.tells now w (viewed e old.lane) (viewed e new.lane)) o
        (checks.passes b)).0.on_time

-- ---- lists

keep_one : {X : Type 0} (p : X → Bool) (P : X → Type 0) (x : X) (xs : List X) (b : Bool) → p x ≡ b →
    (p x ≡ true → P x) → EachIs P (filter p xs) → EachIs P (filter p (x ∷ xs))
keep_one p P x xs true e f h = let same : filter p (x ∷ xs) ≡ x ∷ filter p xs =
    grind (arith, e) in subst (EachIs P) (sym same) (f e, h)
keep_one p P x xs false e f h = let same : filter p (x ∷ xs) ≡ filter p xs =
    grind (arith, e) in subst (EachIs P) (sym same) h

pub filter_each : {X : Type 0} (p : X → Bool) (P : X → Type 0) (xs : List X) → EachIs P xs →
    EachIs P (filter p xs)
filter_each p P [] h = tt
filter_each p P (x ∷ xs) h = keep_one p P x xs (p x) refl (λ _. h.0) (filter_each p P xs h.1)

pub append_each : {X : Type 0} (P : X → Type 0) (xs ys : List X) → EachIs P xs → EachIs P ys →
    EachIs P (xs ++ ys)
append_each P [] ys h k = k
append_each P (x ∷ xs) ys h k = (h.0, append_each P xs ys h.1 k)

both_length : {X Y : Type 0} (R : X → Y → Type 0) (xs : List X) (ys : List Y) → Both R xs ys →
    length ys ≡ length xs
both_length R [] [] b = refl
both_length R [] (y ∷ ys) b = absurd b
both_length R (x ∷ xs) [] b = absurd b
both_length R (x ∷ xs) (y ∷ ys) b = let e = both_length R xs ys b.1 in grind (arith, e)

each_seen : {L P A S R : Type 0} (e : Eyes L P) (Q : View → Type 0)
    (seats : List (Seat L A S P R)) → EachIs (λ s. Q (viewed e s.lane)) seats →
    EachIs Q (map (λ s. viewed e s.lane) seats)
each_seen e Q [] h = tt
each_seen e Q (s ∷ ss) h = (h.0, each_seen e Q ss h.1)

heads : {X : Type 0} {x y : X} {xs ys : List X} → x ∷ xs ≡ y ∷ ys → x ≡ y
heads e = cc

tails : {X : Type 0} {x y : X} {xs ys : List X} → x ∷ xs ≡ y ∷ ys → xs ≡ ys
tails e = cc

pub asks_paired : {L P A S R : Type 0} (e : Eyes L P) (w : Window) (wants : List Want)
    (olds came : List (Seat L A S P R)) →
    map asked_of wants ≡ map (λ s. asked_of s.want) olds → EachIs (SeatRests e w) olds →
    Paired (SeatAsks e w) wants (olds ++ came)
asks_paired e w [] olds came asks h = tt
asks_paired e w (r ∷ rs) [] came asks h = cc
asks_paired e w (r ∷ rs) (o ∷ os) came asks h = (
  record { rests = h.0; asks = heads asks },
  asks_paired e w rs os came (tails asks) h.1,
)

-- ---- who came

-- who came, as it is opened
abbrev pub IsNew : {L P A S R : Type 0} → Eyes L P → ℕ → Seat L A S P R → Type 0
IsNew e now s = IsFresh now (viewed e s.lane)

pub news_by : {L P A S R : Type 0} (e : Eyes L P) (now : ℕ) (came : List (Seat L A S P R)) →
    IsTrue e.tells →
    EachIs (λ seat. IsTrue e.tells → e.state seat.lane.link ≡ opened now) came →
    EachIs (λ seat. e.faults seat.lane.link ≡ 0) came →
    EachIs (λ seat. seat.lane.shown ≡ fresh now) came → EachIs (IsNew e now) came
news_by e now [] t o f h = tt
news_by e now (s ∷ ss) t o f h = (
  record { link = o.0 t; faultless = f.0; shown = h.0 },
  news_by e now ss t o.1 f.1 h.1,
)

-- an idle check does nothing to one that has nothing to send
new_by_check : {L P A S R : Type 0} (due : Bool) (e : Eyes L P) (now : ℕ) (w : Window)
    (old new : Seat L A S P R) → IsNew e now old → ChecksIf due e now w old new →
    IsTrue (is_open new.mark) → IsNew e now new
new_by_check false e now w old new h same o = subst (IsNew e now) (sym same) h
new_by_check true e now w old new h checks o = pick (is_open old.mark) refl
  where
    pick : (b : Bool) → is_open old.mark ≡ b → IsNew e now new
    pick false n = subst (IsNew e now) (sym (checks.over n)) h
    pick true b =
        let passes = open_parts now w new.want new.mark (viewed e new.lane)
        (Passes e.tells now w (viewed e old.lane) (viewed e new.lane)) o (checks.passes b) in
        subst (IsFresh now) (sym (passes.0.nothing (ap is_writable h.shown))) h

new_by_checks : {L P A S R : Type 0} (due : Bool) (e : Eyes L P) (now : ℕ) (w : Window)
    (olds news : List (Seat L A S P R)) → EachIs (IsNew e now) olds →
    Both (ChecksIf due e now w) olds news → EachIs (IsNew e now) (filter is_kept news)
new_by_checks due e now w [] [] h b = tt
new_by_checks due e now w [] (n ∷ ns) h b = absurd b
new_by_checks due e now w (o ∷ os) [] h b = absurd b
new_by_checks due e now w (o ∷ os) (n ∷ ns) h b =
    keep_one is_kept (IsNew e now) n ns (is_kept n) refl (new_by_check due e now w o n h.0 b.0)
    (new_by_checks due e now w os ns h.1 b.1)

-- ---- the seats that are kept

all_on_time : {L P A S R : Type 0} (due : Bool) (e : Eyes L P) (now : ℕ) (w : Window)
    (olds news : List (Seat L A S P R)) → Both (ChecksIf due e now w) olds news →
    due ≡ true → EachIs (λ s. is_late now w s.lane.shown ≡ false) (filter is_kept news)
all_on_time due e now w [] [] b d = tt
all_on_time due e now w [] (n ∷ ns) b d = absurd b
all_on_time due e now w (o ∷ os) [] b d = absurd b
all_on_time due e now w (o ∷ os) (n ∷ ns) b d =
    keep_one is_kept (λ s. is_late now w s.lane.shown ≡ false) n ns (is_kept n) refl
    (passed_on_time due e now w o n b.0 d) (all_on_time due e now w os ns b.1 d)

kept_cons : {L P A S R : Type 0} (e : Eyes L P) (m : Mark) (new : Seat L A S P R)
    (news : List (Seat L A S P R)) (cs rest : List View) → new.mark ≡ m →
    map (λ s. viewed e s.lane) (filter is_kept news) ≡ cs ++ rest →
    map (λ s. viewed e s.lane) (filter is_kept (new ∷ news)) ≡ with_kept
    (kept_view m (viewed e new.lane)) cs ++ rest
kept_cons e (mark.Over end) new news cs rest is h =
    let closed : is_kept new ≡ false = ap is_open is in
    let same : filter is_kept (new ∷ news) ≡ filter is_kept news = grind (arith, closed) in
    ap (map (λ s. viewed e s.lane)) same ∙ h
kept_cons e mark.Rests new news cs rest is h =
    let opened : is_kept new ≡ true = ap is_open is in
    let same : filter is_kept (new ∷ news) ≡ new ∷ filter is_kept news = grind (arith, opened) in
    ap (map (λ s. viewed e s.lane)) same ∙ ap (λ vs. viewed e new.lane ∷ vs) h
kept_cons e mark.Works new news cs rest is h =
    let opened : is_kept new ≡ true = ap is_open is in
    let same : filter is_kept (new ∷ news) ≡ new ∷ filter is_kept news = grind (arith, opened) in
    ap (map (λ s. viewed e s.lane)) same ∙ ap (λ vs. viewed e new.lane ∷ vs) h

-- ---- a turn

-- what a turn makes of the seats that it found, and of those that came in it
pub record Turned {L P A S R : Type 0} (due : Bool) (e : Eyes L P) (now : ℕ) (w : Window)
    (wants : List Want) (olds came news : List (Seat L A S P R)) : Type 0 where
  pub cases : List Case
  pub were : map (λ c. c.old) cases ≡ map (λ s. viewed e s.lane) olds
  pub asked : map (λ c. c.ready) cases ≡ wants
  pub each : EachIs (Asks now w) cases
  -- what became of those that came
  pub rest : List (Seat L A S P R)
  pub are : map (λ s. viewed e s.lane) (filter is_kept news) ≡ kept cases ++ map
      (λ s. viewed e s.lane) (filter is_kept rest)
  pub fresh : EachIs (IsFresh now) (map (λ s. viewed e s.lane) (filter is_kept rest))
  pub few : length rest ≡ length came
  pub on_time : due ≡ true → EachIs (λ s. is_late now w s.lane.shown ≡ false) (filter is_kept news)

turned_by : {L P A S R : Type 0} (due : Bool) (e : Eyes L P) (now : ℕ) (w : Window)
    (wants : List Want) (olds came mids news : List (Seat L A S P R)) → IsTrue e.tells →
    map asked_of wants ≡ map (λ s. asked_of s.want) olds → EachIs (SeatRests e w) olds →
    EachIs (IsNew e now) came →
    UpTo (SeatTurns e now w) (length wants) wants (olds ++ came) mids →
    Both (ChecksIf due e now w) mids news → Turned due e now w wants olds came news
turned_by due e now w [] [] came mids news t asks h k u b = record {
  cases = [];
  were = refl;
  asked = refl;
  each = tt;
  rest = news;
  are = refl;
  fresh = each_seen e (IsFresh now) (filter is_kept news)
      (new_by_checks due e now w mids news (subst (EachIs (IsNew e now)) (sym u) k) b);
  few = both_length (ChecksIf due e now w) mids news b ∙ ap length u;
  on_time = all_on_time due e now w mids news b;
}
turned_by due e now w [] (o ∷ os) came mids news t asks h k u b = cc
turned_by due e now w (r ∷ rs) [] came mids news t asks h k u b = cc
turned_by due e now w (r ∷ rs) (o ∷ os) came [] news t asks h k u b = absurd u
turned_by due e now w (r ∷ rs) (o ∷ os) came (m ∷ ms) [] t asks h k u b = absurd b
turned_by due e now w (r ∷ rs) (o ∷ os) came (m ∷ ms) (n ∷ ns) t asks h k u b =
    let more = turned_by due e now w rs os came ms ns t (tails asks) h.1 k u.1 b.1 in
    record {
      cases = record { ready = r; old = viewed e o.lane; new = kept_view n.mark (viewed e n.lane) }
          ∷ more.cases;
      were = ap (λ vs. viewed e o.lane ∷ vs) more.were;
      asked = ap (λ vs. r ∷ vs) more.asked;
      each = (
        asks_by e now w r o n t h.0 (heads asks) (attended due e now w r o m n u.0 b.0),
        more.each,
      );
      rest = more.rest;
      are = kept_cons e n.mark n ns (kept more.cases) (map (λ s. viewed e s.lane)
          (filter is_kept more.rest)) refl more.are;
      fresh = more.fresh;
      few = more.few;
      on_time = λ d. keep_one is_kept (λ s. is_late now w s.lane.shown ≡ false) n ns (is_kept n)
          refl (passed_on_time due e now w m n b.0 d) (more.on_time d);
    }

pub turned : {L P A S R : Type 0} (due : Bool) (e : Eyes L P) (now : ℕ) (w : Window)
    (wants : List Want) (olds came news : List (Seat L A S P R)) → IsTrue e.tells →
    map asked_of wants ≡ map (λ s. asked_of s.want) olds → EachIs (SeatRests e w) olds →
    EachIs (SeatRests e w) came → EachIs (IsNew e now) came →
    Labours due e now w wants (olds ++ came) news → Turned due e now w wants olds came news
turned due e now w wants olds came news t asks h _ k l =
    turned_by due e now w wants olds came l.mids news t asks h k l.turns l.checks

-- ---- the seats rest again

rests_by_turn : {L P A S R : Type 0} (e : Eyes L P) (now : ℕ) (w : Window) (ready : Want)
    (old new : Seat L A S P R) → SeatRests e w old →
    SeatTurns e now w ready old new → IsTrue (is_kept new) → SeatRests e w new
rests_by_turn e now w ready old new rests turns o = record {
  window = ap (λ f. f.window) turns.goes.same.fixed ∙ rests.window;
  holds = (open_parts now w new.want new.mark (viewed e new.lane)
      (Attends e.tells w ready (viewed e old.lane) (viewed e new.lane)) o turns.leaves).1;
}

rests_by_check : {L P A S R : Type 0} (due : Bool) (e : Eyes L P) (now : ℕ) (w : Window)
    (old new : Seat L A S P R) → (IsTrue (is_kept old) → SeatRests e w old) →
    ChecksIf due e now w old new → IsTrue (is_kept new) → SeatRests e w new
rests_by_check false e now w old new rests same o = subst (SeatRests e w) (sym same)
    (rests (subst (λ s. IsTrue (is_kept s)) same o))
rests_by_check true e now w old new rests checks o = pick (is_open old.mark) refl
  where
    pick : (b : Bool) → is_open old.mark ≡ b → SeatRests e w new
    pick false n = let same = checks.over n in subst (SeatRests e w) (sym same)
        (rests (subst (λ s. IsTrue (is_kept s)) same o))
    pick true b = record {
      window = ap (λ f. f.window) checks.goes.same.fixed ∙ (rests b).window;
      holds = (open_parts now w new.want new.mark (viewed e new.lane)
          (Passes e.tells now w (viewed e old.lane) (viewed e new.lane)) o (checks.passes b)).1;
    }

rest_by_checks : {L P A S R : Type 0} (due : Bool) (e : Eyes L P) (now : ℕ) (w : Window)
    (olds news : List (Seat L A S P R)) → EachIs (SeatRests e w) olds →
    Both (ChecksIf due e now w) olds news → EachIs (SeatRests e w) (filter is_kept news)
rest_by_checks due e now w [] [] h b = tt
rest_by_checks due e now w [] (n ∷ ns) h b = absurd b
rest_by_checks due e now w (o ∷ os) [] h b = absurd b
rest_by_checks due e now w (o ∷ os) (n ∷ ns) h b =
    keep_one is_kept (SeatRests e w) n ns (is_kept n) refl
    (rests_by_check due e now w o n (λ _. h.0) b.0) (rest_by_checks due e now w os ns h.1 b.1)

rest_by : {L P A S R : Type 0} (due : Bool) (e : Eyes L P) (now : ℕ) (w : Window)
    (wants : List Want) (olds mids news : List (Seat L A S P R)) → EachIs (SeatRests e w) olds →
    UpTo (SeatTurns e now w) (length wants) wants olds mids →
    Both (ChecksIf due e now w) mids news → EachIs (SeatRests e w) (filter is_kept news)
rest_by due e now w [] olds mids news h u b = rest_by_checks due e now w mids news
    (subst (EachIs (SeatRests e w)) (sym u) h) b
rest_by due e now w (r ∷ rs) [] mids news h u b = absurd u
rest_by due e now w (r ∷ rs) (o ∷ os) [] news h u b = absurd u
rest_by due e now w (r ∷ rs) (o ∷ os) (m ∷ ms) [] h u b = absurd b
rest_by due e now w (r ∷ rs) (o ∷ os) (m ∷ ms) (n ∷ ns) h u b =
    keep_one is_kept (SeatRests e w) n ns (is_kept n) refl
    (rests_by_check due e now w m n (rests_by_turn e now w r o m h.0 u.0) b.0)
    (rest_by due e now w rs os ms ns h.1 u.1 b.1)

pub rest_again : {L P A S R : Type 0} (due : Bool) (e : Eyes L P) (now : ℕ) (w : Window)
    (wants : List Want) (olds news : List (Seat L A S P R)) → EachIs (SeatRests e w) olds →
    Labours due e now w wants olds news → EachIs (SeatRests e w) (filter is_kept news)
rest_again due e now w wants olds news h l = rest_by due e now w wants olds l.mids news h l.turns
    l.checks

-- ---- what no turn changes

abbrev pub SeatGoes : {L P A S R : Type 0} → Eyes L P → ℕ → Seat L A S P R → Seat L A S P R → Type 0
SeatGoes e now old new = Goes e now old.lane new.lane

goes_by_check : {L P A S R : Type 0} (due : Bool) (e : Eyes L P) (now : ℕ) (w : Window)
    (old new : Seat L A S P R) → ChecksIf due e now w old new → Goes e now old.lane new.lane
goes_by_check false e now w old new same = subst (λ s. Goes e now old.lane s.lane) (sym same)
    (go_nowhere e now old.lane)
goes_by_check true e now w old new checks = checks.goes

go_by_checks : {L P A S R : Type 0} (due : Bool) (e : Eyes L P) (now : ℕ) (w : Window)
    (olds news : List (Seat L A S P R)) → Both (ChecksIf due e now w) olds news →
    Both (SeatGoes e now) olds news
go_by_checks due e now w [] [] b = tt
go_by_checks due e now w [] (n ∷ ns) b = absurd b
go_by_checks due e now w (o ∷ os) [] b = absurd b
go_by_checks due e now w (o ∷ os) (n ∷ ns) b = (
  goes_by_check due e now w o n b.0,
  go_by_checks due e now w os ns b.1,
)

go_by : {L P A S R : Type 0} (due : Bool) (e : Eyes L P) (now : ℕ) (w : Window) (wants : List Want)
    (olds mids news : List (Seat L A S P R)) →
    UpTo (SeatTurns e now w) (length wants) wants olds mids →
    Both (ChecksIf due e now w) mids news → Both (SeatGoes e now) olds news
go_by due e now w [] olds mids news u b = subst (λ l. Both (SeatGoes e now) l news) u
    (go_by_checks due e now w mids news b)
go_by due e now w (r ∷ rs) [] mids news u b = absurd u
go_by due e now w (r ∷ rs) (o ∷ os) [] news u b = absurd u
go_by due e now w (r ∷ rs) (o ∷ os) (m ∷ ms) [] u b = absurd b
go_by due e now w (r ∷ rs) (o ∷ os) (m ∷ ms) (n ∷ ns) u b = (
  go_on e now o.lane m.lane n.lane u.0.goes (goes_by_check due e now w m n b.0),
  go_by due e now w rs os ms ns u.1 b.1,
)

-- all seats went on in calls of one moment
pub all_go : {L P A S R : Type 0} (due : Bool) (e : Eyes L P) (now : ℕ) (w : Window)
    (wants : List Want) (olds news : List (Seat L A S P R)) → Labours due e now w wants olds news →
    Both (SeatGoes e now) olds news
all_go due e now w wants olds news l = go_by due e now w wants olds l.mids news l.turns l.checks

same_ones : {X Y : Type 0} (a b : X) (c d : Y) (xs ys : List (X × Y)) → a ≡ b → c ≡ d → xs ≡ ys →
    (a, c) ∷ xs ≡ (b, d) ∷ ys
same_ones a b c d xs ys p q r = cc

seated_by : {L P A S R : Type 0} (e : Eyes L P) (now : ℕ) (olds news : List (Seat L A S P R)) →
    Both (SeatGoes e now) olds news →
    seated e news ≡ seated e olds
seated_by e now [] [] b = refl
seated_by e now [] (n ∷ ns) b = absurd b
seated_by e now (o ∷ os) [] b = absurd b
seated_by e now (o ∷ os) (n ∷ ns) b =
    same_ones n.lane.peer o.lane.peer (e.plan n.lane.link) (e.plan o.lane.link) (seated e ns)
    (seated e os) b.0.same.peer b.0.same.plan (seated_by e now os ns b.1)

pub seated_again : {L P A S R : Type 0} (due : Bool) (e : Eyes L P) (now : ℕ) (w : Window)
    (wants : List Want) (olds news : List (Seat L A S P R)) → Labours due e now w wants olds news →
    seated e news ≡ seated e olds
seated_again due e now w wants olds news l = seated_by e now olds news
    (all_go due e now w wants olds news l)

pub as_many_again : {L P A S R : Type 0} (due : Bool) (e : Eyes L P) (now : ℕ) (w : Window)
    (wants : List Want) (olds news : List (Seat L A S P R)) → Labours due e now w wants olds news →
    length news ≡ length olds
as_many_again due e now w wants olds news l = both_length (SeatGoes e now) olds news
    (all_go due e now w wants olds news l)

opened_by : {L P A S R : Type 0} (e : Eyes L P) (settings : Settings) (app : A) (now : ℕ)
    (olds news : List (Seat L A S P R)) → EachIs (IsOpenedBy settings app) olds →
    Both (SeatGoes e now) olds news → EachIs (IsOpenedBy settings app) news
opened_by e settings app now [] [] h b = tt
opened_by e settings app now [] (n ∷ ns) h b = absurd b
opened_by e settings app now (o ∷ os) [] h b = absurd b
opened_by e settings app now (o ∷ os) (n ∷ ns) h b = (
  b.0.same.fixed ∙ h.0 ∙ ap (fixed_by settings app) (sym b.0.same.peer),
  opened_by e settings app now os ns h.1 b.1,
)

pub opened_again : {L P A S R : Type 0} (due : Bool) (e : Eyes L P) (settings : Settings) (app : A)
    (now : ℕ) (w : Window) (wants : List Want) (olds news : List (Seat L A S P R)) →
    EachIs (IsOpenedBy settings app) olds → Labours due e now w wants olds news →
    EachIs (IsOpenedBy settings app) news
opened_again due e settings app now w wants olds news h l =
    opened_by e settings app now olds news h (all_go due e now w wants olds news l)

-- ---- moments

stamped_within : {L P : Type 0} (net : NetState L P) (now : ℕ) (bytes : List ℕ) → IsWithin net now →
    EachIs (λ p. IsWithin net p.0) (stamped now bytes)
stamped_within net now [] h = tt
stamped_within net now (byte ∷ bytes) h = (h, stamped_within net now bytes h)

timely_by : {L P : Type 0} (net : NetState L P) (now : ℕ) (old new : LinkState) → IsWithin net now →
    Stamps now old new → IsTimely net old → IsTimely net new
timely_by net now old new h x t = record {
  came = subst (EachIs (λ p. IsWithin net p.0)) (sym x.arrivals)
      (append_each (λ p. IsWithin net p.0) old.arrivals (stamped now x.bytes) t.came
      (stamped_within net now x.bytes h));
  touched = elim x.touched [
    | inl same ↦ subst (IsWithin net) (sym same) t.touched
    | inr is ↦ subst (IsWithin net) (sym is) h
  ];
}

all_timely : {L P A S R : Type 0} (e : Eyes L P) (net : NetState L P) (now : ℕ)
    (olds news : List (Seat L A S P R)) → IsWithin net now → EachIs (SeatIsTimely e net) olds →
    Both (SeatGoes e now) olds news → EachIs (SeatIsTimely e net) news
all_timely e net now [] [] k h b = tt
all_timely e net now [] (n ∷ ns) k h b = absurd b
all_timely e net now (o ∷ os) [] k h b = absurd b
all_timely e net now (o ∷ os) (n ∷ ns) k h b = (
  λ t. timely_by net now (e.state o.lane.link) (e.state n.lane.link) k (b.0.follows.stamps t)
      (h.0 t),
  all_timely e net now os ns k h.1 b.1,
)

pub timely_again : {L P A S R : Type 0} (due : Bool) (e : Eyes L P) (net : NetState L P) (now : ℕ)
    (w : Window) (wants : List Want) (olds news : List (Seat L A S P R)) → IsWithin net now →
    EachIs (SeatIsTimely e net) olds → Labours due e now w wants olds news →
    EachIs (SeatIsTimely e net) news
timely_again due e net now w wants olds news k h l = all_timely e net now olds news k h
    (all_go due e now w wants olds news l)
