-- What is known of a rehearsal between two turns stays known.
use Rattle.std.proofs.Common.{◌≡◌, ◌≤◌, ◌<◌, ◌+◌, ◌^◌, ℕ, zero, suc, true, false}
use Rattle.std.proofs.Common.{List, [], ◌∷◌, ◌++◌, length, map, refl, ap, sym, subst, ◌∙◌, arith}
use Rattle.std.proofs.Math.Bool.{Bool-set}
use Rattle.std.proofs.Math.Logic.{∥∥₁_elim, ∥∥₁_map}
use Rattle.std.proofs.Math.Nat.{ℕ_set}
use Rattle.std.specs.Prelude.{Option, None, Some, IfSome, IsPermutation}
use Rattle.std.specs.List.{list_any, range_with_len}
use Rattle.std.proofs.lemmas.List.{length-map}
use Rattle.std.proofs.lemmas.List.Sorted.{sum_by-IsPermutation}
use Rattle.std.proofs.lemmas.List.Sums.{sum_by-append}
use Rattle.channel.specs.Views.{Seen, View}
use Rattle.channel.specs.declared.types.Window.{Window}
use Rattle.outside.specs.Memory.{is_listed}
use Rattle.outside.specs.MemNet.{KeepsToNetPlan, MemNetState, seat_of}
use Rattle.outside.specs.Net.{NetState}
use Rattle.outside.specs.declared.mem_link.MemLink.{MemLink}
use Rattle.outside.specs.declared.plans.LinkPlan.{LinkPlan}
use Rattle.outside.specs.declared.types.Peer.{Peer}
use Rattle.poll_loop.specs.Connections.{IsOpenedBy}
use Rattle.poll_loop.specs.Lists.{EachIs}
use Rattle.poll_loop.specs.NoIdle.{Asks, Case, IsFresh, NoIdle, Serves, Serving, kept, views, who}
use Rattle.poll_loop.specs.NoIdle.{with_kept}
use Rattle.poll_loop.specs.Seat.{viewed}
use Rattle.poll_loop.specs.declared.seat.Seat.{Seat}
use Rattle.poll_loop.specs.declared.settings.Settings.{Settings}
use Rattle.rehearsal.specs.Plans.{comer_of, link_plan, net_plan}
use Rattle.request_stream.specs.Reading.{ArePositive}
use Rattle.request_stream.specs.Units.{closing, units}
use Rattle.rehearse.specs.Between.{HasNobody, IsEven, IsOnCourse, IsUnderWay, mem_eyes, whole_of}
use Rattle.rehearse.specs.Looked.{IsSound}
use Rattle.rehearse.proofs.Lists.{each_append, each_by, each_given, each_left}

-- ---- the plans of those who are open

even_by : (plan : LinkPlan) → ∥ IsEven plan ∥₁ → IsEven plan
even_by plan h = record {
  goes_on = ∥∥₁_elim h (Bool-set plan.ends false) (λ e. e.goes_on);
  gives = ∥∥₁_elim h (Bool-set (is_listed plan.gives 0) false) (λ e. e.gives);
  takes = ∥∥₁_elim h (Bool-set (is_listed plan.takes 0) false) (λ e. e.takes);
  closes = λ limits x some bytes. ∥∥₁_elim h (Bool-set (list_any closing (units limits x)) true)
      (λ e. e.closes limits x some bytes);
}

module _ (A : Type 0) where
  abbrev who_of : Seen MemLink A → Peer × LinkPlan
  who_of lane = (lane.peer, lane.link.plan)

  even_lanes : (lanes : List (Seen MemLink A)) →
      ∥ EachIs (λ one. IsEven one.1) (map who_of lanes) ∥₁ →
      EachIs (λ lane. IsEven lane.link.plan) lanes
  even_lanes [] h = tt
  even_lanes (l ∷ ls) h = (
    even_by l.link.plan (∥∥₁_map h (λ each. each.0)),
    even_lanes ls (∥∥₁_map h (λ each. each.1)),
  )

even_comers : (first count : ℕ) → first + count < 2 ^ 64 →
    ((connection : ℕ) → connection < 2 ^ 64 → IsEven (link_plan connection)) →
    EachIs (λ one. IsEven one.1) (map seat_of (map comer_of (range_with_len first count)))
even_comers first zero few each = tt
even_comers first (suc count) few each = (
  each first (omega (arith, few)),
  even_comers (first + 1) count (omega (arith, few)) each,
)

-- those who are open are comers of the plan
even_open : (connections : ℕ) (net : MemNetState) (gone open' : List (Peer × LinkPlan)) →
    connections < 2 ^ 64 → ((connection : ℕ) → connection < 2 ^ 64 →
    IsEven (link_plan connection)) →
    net.plan ≡ net_plan connections → KeepsToNetPlan net →
    IsPermutation net.state.given (gone ++ open') → ∥ EachIs (λ one. IsEven one.1) open' ∥₁
even_open connections net gone open' few each is keeps same =
    let even : EachIs (λ one. IsEven one.1) (map seat_of net.plan.comers) =
    subst (λ p. EachIs (λ one. IsEven one.1) (map seat_of p.comers)) (sym is)
    (even_comers 0 connections (omega (arith, few)) each) in
    ∥∥₁_map keeps.comers (λ came.
    each_left (λ one. IsEven one.1) net.state.given gone open' same
    (each_given (λ one. IsEven one.1) (map seat_of net.plan.comers) net.state.given
    (map seat_of net.waiting) came even))

-- they have no more to give together than all comers
pub whole_within : (net : MemNetState) (gone open' : List (Peer × LinkPlan)) →
    KeepsToNetPlan net → IsPermutation net.state.given (gone ++ open') →
    whole_of open' ≤ whole_of (map seat_of net.plan.comers)
whole_within net gone open' keeps same =
    let all : whole_of (map seat_of net.plan.comers)
    ≡ whole_of (net.state.given ++ map seat_of net.waiting) =
    ∥∥₁_elim keeps.comers (ℕ_set (whole_of (map seat_of net.plan.comers))
    (whole_of (net.state.given ++ map seat_of net.waiting)))
    (λ came. sym (sum_by-IsPermutation (λ one. length one.1.input) (map seat_of net.plan.comers)
    (net.state.given ++ map seat_of net.waiting) came)) in
    let sides = sum_by-append (λ one. length one.1.input) net.state.given
    (map seat_of net.waiting) in
    let given : whole_of (gone ++ open') ≡ whole_of net.state.given =
    sum_by-IsPermutation (λ one. length one.1.input) net.state.given (gone ++ open') same in
    let both = sum_by-append (λ one. length one.1.input) gone open' in
    omega (arith, all, sides, given, both)

-- ---- the links of those who are open

module _ (now : ℕ) (w : Window) where
  one_faultless : (c : Case) (n : Option View) (rest : List View) → c.new ≡ n → Asks now w c →
      c.old.faults ≡ 0 → EachIs (λ v. v.faults ≡ 0) rest →
      EachIs (λ v. v.faults ≡ 0) (with_kept n rest)
  one_faultless c None rest e asks old h = h
  one_faultless c (Some new) rest e asks old h =
      let s : Serves now w c.ready c.old new =
      subst (λ o. IfSome o (λ v. Serves now w c.ready c.old v)) e asks.serves in
      (s.faultless ∙ old, h)

  kept_faultless : (cs : List Case) → EachIs (Asks now w) cs →
      EachIs (λ v. v.faults ≡ 0) (map (λ c. c.old) cs) → EachIs (λ v. v.faults ≡ 0) (kept cs)
  kept_faultless [] asks h = tt
  kept_faultless (c ∷ cs) asks h = one_faultless c c.new (kept cs) refl asks.0 h.0
      (kept_faultless cs asks.1 h.1)

turn_faultless : {A R : Type 0} (before now : Serving MemLink A R) (nobody : Type 0)
    (old new : NetState MemLink LinkPlan) → NoIdle mem_eyes before now nobody old new →
    EachIs (λ v. v.faults ≡ 0) (views mem_eyes before) →
    EachIs (λ v. v.faults ≡ 0) (views mem_eyes now)
turn_faultless before now nobody old new turn h =
    subst (λ vs. EachIs (λ v. v.faults ≡ 0) vs) (sym turn.are)
    (each_append (λ v. v.faults ≡ 0) (kept turn.cases) turn.came
    (kept_faultless turn.poll.turn.now before.settings.window turn.cases turn.each
    (subst (λ vs. EachIs (λ v. v.faults ≡ 0) vs) (sym turn.were) h))
    (each_by (IsFresh turn.poll.turn.now) (λ v. v.faults ≡ 0) (λ v fresh. fresh.faultless)
    turn.came turn.fresh))

module _ (A : Type 0) where
  seen_faultless : (lanes : List (Seen MemLink A)) → EachIs IsOnCourse lanes →
      EachIs (λ v. v.faults ≡ 0) (map (viewed mem_eyes) lanes)
  seen_faultless [] h = tt
  seen_faultless (l ∷ ls) h = (h.0.faultless, seen_faultless ls h.1)

  on_course : (lanes : List (Seen MemLink A)) → EachIs (λ lane. IsEven lane.link.plan) lanes →
      EachIs IsSound lanes → EachIs (λ v. v.faults ≡ 0) (map (viewed mem_eyes) lanes) →
      EachIs (λ lane. 0 < lane.fixed.limits.max_head) lanes → EachIs IsOnCourse lanes
  on_course [] even sound faultless positive = tt
  on_course (l ∷ ls) even sound faultless positive = (
    record {
      plan = even.0;
      keeps = sound.0.keeps;
      faultless = faultless.0;
      positive = positive.0;
      finished = sound.0.finished;
    },
    on_course ls even.1 sound.1 faultless.1 positive.1,
  )

pub positive_seats : {A S R : Type 0} (settings : Settings) (app : A)
    (seats : List (Seat MemLink A S LinkPlan R)) → ArePositive settings.limits →
    EachIs (IsOpenedBy settings app) seats →
    EachIs (λ lane. 0 < lane.fixed.limits.max_head) (map (λ seat. seat.lane) seats)
positive_seats settings app [] some by = tt
positive_seats settings app (s ∷ ss) some by = (
  (
      let high : 0 < settings.limits.max_head = some.head in
      subst (λ f. 0 < f.limits.max_head) (sym by.0) high),
  positive_seats settings app ss some by.1,
)

-- ---- a turn

-- What is known behind a turn of those who are open and came to it.
pub record Follows {A R : Type 0} (old new : MemNetState) (before now : Serving MemLink A R) :
    Type 0 where
  pub plan : new.plan ≡ old.plan
  pub keeps : KeepsToNetPlan new
  pub live : new.state.live + length (who mem_eyes before)
      ≡ old.state.live + length (who mem_eyes now)
  pub settings : now.settings ≡ before.settings
  pub gone : List (Peer × LinkPlan)
  pub same : IsPermutation new.state.given (gone ++ who mem_eyes now)
  pub sound : EachIs IsSound now.open'
  pub positive : EachIs (λ lane. 0 < lane.fixed.limits.max_head) now.open'

pub under_way : {A R : Type 0} (connections : ℕ) (old new : MemNetState)
    (before now : Serving MemLink A R) → connections < 2 ^ 64 →
    ((connection : ℕ) → connection < 2 ^ 64 → IsEven (link_plan connection)) →
    IsUnderWay connections old before → Follows old new before now →
    NoIdle mem_eyes before now (HasNobody new) old.state new.state →
    IsUnderWay connections new now
under_way {A} {R} connections old new before now few each was f turn =
    let live = f.live in
    let had = was.live in
    let m : length (who mem_eyes before) ≡ length before.open' =
    length-map before.open' (λ lane. (lane.peer, lane.link.plan)) in
    let n : length (who mem_eyes now) ≡ length now.open' =
    length-map now.open' (λ lane. (lane.peer, lane.link.plan)) in
    record {
      plan = f.plan ∙ was.plan;
      keeps = f.keeps;
      live = omega (arith, live, had, m, n);
      room = subst (λ s. 0 < s.connection_limit) (sym f.settings) was.room;
      unlimited = ap (λ s. s.serve_limit) f.settings ∙ was.unlimited;
      lanes = on_course A now.open'
          (even_lanes A now.open'
          (even_open connections new f.gone (who mem_eyes now) few each (f.plan ∙ was.plan) f.keeps
          f.same))
          f.sound
          (turn_faultless before now (HasNobody new) old.state new.state turn
          (seen_faultless A before.open' was.lanes))
          f.positive;
    }
