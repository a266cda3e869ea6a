-- A turn of a rehearsal that lets serving go on: what is known stays known, and less is left.
use Rattle.std.proofs.Common.{◌≡◌, ◌≤◌, ◌<◌, ◌^◌, ℕ, Bool, true, false, List, [], ◌∷◌, ◌++◌, length}
use Rattle.std.proofs.Common.{map, ap, sym, subst, ◌∙◌, arith}
use Rattle.std.specs.Prelude.{All, IsPermutation, None}
use Rattle.std.proofs.lemmas.List.{length-map}
use Rattle.std.proofs.lemmas.List.Elements.{All-cons, All-contains_itself, All-nil}
use Rattle.std.proofs.lemmas.List.Sorted.{IsPermutation-refl}
use Rattle.channel.specs.Output.{Script}
use Rattle.channel.specs.Views.{Seen, telling}
use Rattle.outside.specs.MemNet.{KeepsToNetPlan, MemNetState, fresh, seat_of}
use Rattle.outside.specs.Net.{NetState}
use Rattle.outside.specs.declared.mem_link.MemLink.{MemLink}
use Rattle.outside.specs.declared.plans.Comer.{Comer}
use Rattle.outside.specs.declared.plans.LinkPlan.{LinkPlan}
use Rattle.outside.specs.declared.plans.NetPlan.{NetPlan}
use Rattle.outside.specs.declared.types.Peer.{Peer}
use Rattle.poll_loop.specs.Accounts.{Accounts, LastKnows, retired_of}
use Rattle.poll_loop.specs.Connections.{CameMore}
use Rattle.poll_loop.specs.Lists.{EachIs}
use Rattle.poll_loop.specs.NoIdle.{Hosts, NoIdle, Serving, views, who}
use Rattle.poll_loop.specs.Seat.{viewed}
use Rattle.poll_loop.specs.Server.{booked}
use Rattle.poll_loop.specs.declared.settings.Settings.{Settings}
use Rattle.poll_loop.proofs.Ending.{GoesOn, serve_again}
use Rattle.rehearsal.specs.Plans.{link_plan, net_plan}
use Rattle.rehearse.specs.Between.{HasNobody, IsAccounted, IsEven, IsOnCourse, IsUnderWay, mem_eyes}
use Rattle.rehearse.specs.Between.{whole_of}
use Rattle.rehearse.specs.Falling.{IsCounted, Measure, bound_of, measure, number_of}
use Rattle.rehearse.specs.Looked.{IsSound}
use Rattle.rehearse.specs.Rehearsed.{IsRehearsal, holds_of}
use Rattle.rehearse.proofs.Courses.{turns_flow}
use Rattle.rehearse.proofs.Numbers.{numbers_fall, numbers_within}
use Rattle.rehearse.proofs.Turns.{turns_fall}
use Rattle.rehearse.proofs.UnderWay.{Follows, under_way, whole_within}

-- ---- the beginning

all_late : (comers : List Comer) → All (λ comer. 0 ≤ comer.turn) comers
all_late [] = All-nil (λ comer. 0 ≤ comer.turn)
all_late (c ∷ cs) = All-cons (λ comer. 0 ≤ comer.turn) c cs (omega arith) (all_late cs)

keeps_fresh : (connections : ℕ) → KeepsToNetPlan (fresh (net_plan connections))
keeps_fresh connections = record {
  comers = ∣ IsPermutation-refl (map seat_of (net_plan connections).comers) ∣₁;
  who = All-contains_itself (net_plan connections).comers;
  cleared = all_late (net_plan connections).comers;
  first = λ moment e. absurd (cc e);
  last = λ poll e. absurd (cc e);
  polled = λ poll e. absurd (cc e);
  bind_caused = λ some. absurd (let h : 0 < 0 = some in omega (arith, h));
  poll_caused = λ some. absurd (let h : 0 < 0 = some in omega (arith, h));
}

-- what is known between two turns, of some number of connections
pub record IsBetween {A R : Type 0} (net : MemNetState) (server : Serving MemLink A R) : Type 0
  where
    pub connections : ℕ
    pub few : connections ≤ 20000
    pub way : IsUnderWay connections net server

pub begins : {A R : Type 0} (net : MemNetState) (server : Serving MemLink A R) →
    IsRehearsal net → server.open' ≡ [] → 0 < server.settings.connection_limit →
    server.settings.serve_limit ≡ None → IsBetween net server
begins net server start none room unlimited = record {
  connections = start.connections;
  few = start.few;
  way = record {
    plan = ap (λ n. n.plan) start.is;
    keeps = subst (λ n. KeepsToNetPlan n) (sym start.is) (keeps_fresh start.connections);
    live = ap (λ n. n.state.live) start.is ∙ sym (ap length none);
    room = room;
    unlimited = unlimited;
    lanes = subst (λ lanes. EachIs IsOnCourse lanes) (sym none) tt;
  };
}

pub hosts_nobody : {A : Type 0} (net : NetState MemLink LinkPlan) (lanes : List (Seen MemLink A)) →
    lanes ≡ [] → Hosts mem_eyes net lanes
hosts_nobody net lanes none =
    subst (λ xs. Hosts mem_eyes net xs) (sym none)
    (record { room = omega arith; timely = λ _. tt })

-- ---- what is left

-- No more can be left than this.
abbrev pub left_over : {A R : Type 0} → MemNetState → Serving MemLink A R → ℕ
left_over net server =
    number_of (bound_of server.settings.connection_limit (whole_of (map seat_of net.plan.comers)))
    (measure (length net.waiting) (whole_of (who mem_eyes server)) (views mem_eyes server))

all_counted : {A : Type 0} (lanes : List (Seen MemLink A)) → EachIs IsSound lanes →
    EachIs IsCounted (map (viewed mem_eyes) lanes)
all_counted [] h = tt
all_counted (l ∷ ls) h = (h.0.counted, all_counted ls h.1)

fewer_left : {A R : Type 0} (connections : ℕ) (old new : MemNetState)
    (before now : Serving MemLink A R) → IsUnderWay connections old before →
    IsUnderWay connections new now → Follows old new before now →
    NoIdle mem_eyes before now (HasNobody new) old.state new.state →
    IsAccounted old.state new.state (who mem_eyes before) (who mem_eyes now) →
    left_over new now < left_over old before
fewer_left {A} {R} connections old new before now was is f turn accounted =
    let olds : Measure = measure (length old.waiting) (whole_of (who mem_eyes before))
    (views mem_eyes before) in
    let news : Measure = measure (length new.waiting) (whole_of (who mem_eyes now))
    (views mem_eyes now) in
    let left : NetPlan → Settings → ℕ = λ plan settings.
    number_of (bound_of settings.connection_limit (whole_of (map seat_of plan.comers))) olds in
    let falls = turns_fall mem_eyes before now (HasNobody new) old.state new.state turn
    (length old.waiting) (length new.waiting) (whole_of (who mem_eyes before))
    (whole_of (who mem_eyes now))
    (turns_flow A R connections old new before now was is turn accounted) in
    let many = length-map now.open' (viewed mem_eyes) in
    let room = turn.within in
    let same : now.settings.connection_limit ≡ before.settings.connection_limit =
    ap (λ s. s.connection_limit) f.settings in
    let within = numbers_within now.settings.connection_limit
    (whole_of (map seat_of new.plan.comers)) (whole_of (who mem_eyes now)) (length new.waiting)
    (views mem_eyes now) (omega (arith, many, room, same))
    (whole_within new f.gone (who mem_eyes now) f.keeps f.same) (all_counted now.open' f.sound) in
    subst (λ s. left_over new now < left old.plan s) f.settings
    (subst (λ p. left_over new now < left p now.settings) f.plan
    (numbers_fall
    (bound_of now.settings.connection_limit (whole_of (map seat_of new.plan.comers)))
    news olds within falls))

-- ---- a turn

-- What is told of a turn that lets serving go on, and of the connections that were asked behind it;
-- spills count the faults of those that were settled.
pub record Turned {A R : Type 0} (tells : Bool) (script : A → Script) (faults : R → ℕ)
    (old new : MemNetState) (spills spills' : ℕ) (before now : Serving MemLink A R) : Type 0 where
  pub no_idle : NoIdle mem_eyes before now (HasNobody new) old.state new.state
  pub accounts : Accounts (holds_of tells script faults before.settings before.app)
      (λ link. link.plan) (booked mem_eyes old.state spills before)
      (booked mem_eyes new.state spills' now)
  pub came_more : CameMore before.settings.serve_limit before.accepted now.accepted
      (length old.state.given) (length new.state.given)
  pub unstopped : new.state.stopped ≡ false
  pub knows : LastKnows new.state
  pub plan : new.plan ≡ old.plan
  pub settings : now.settings ≡ before.settings
  pub keeps : KeepsToNetPlan new
  pub sound : EachIs IsSound now.open'
  pub positive : EachIs (λ lane. 0 < lane.fixed.limits.max_head) now.open'

-- what turns that let serving go on did so far
abbrev pub Went : {A R : Type 0} → Bool → (A → Script) → (R → ℕ) → MemNetState → MemNetState →
    ℕ → ℕ → Serving MemLink A R → Serving MemLink A R → Type 0
Went tells script faults start net spills spills' begin server =
    GoesOn (holds_of tells script faults begin.settings begin.app) (λ link. link.plan)
    begin.settings.serve_limit begin.accepted server.accepted
    (booked mem_eyes start.state spills begin) (booked mem_eyes net.state spills' server)

-- what is known behind such a turn
pub record Round {A R : Type 0} (tells : Bool) (script : A → Script) (faults : R → ℕ)
    (start old new : MemNetState) (spills spills' : ℕ) (begin before now : Serving MemLink A R) :
    Type 0 where
  pub goes : Went tells script faults start new spills spills' begin now
  pub between : IsBetween new now
  pub less : left_over new now < left_over old before

abbrev one_open : {A : Type 0} → Seen MemLink A → Peer × LinkPlan
one_open lane = (lane.peer, lane.link.plan)

pub nobody_open : {A R : Type 0} (server : Serving MemLink A R) → server.open' ≡ [] →
    who mem_eyes server ≡ []
nobody_open server none = ap (λ lanes. map one_open lanes) none

-- of nobody at first, all that came were given
all_given : {X : Type 0} (given given' since old gone now : List X) → given ≡ [] → old ≡ [] →
    given' ≡ given ++ since → IsPermutation (old ++ since) (gone ++ now) →
    IsPermutation given' (gone ++ now)
all_given given given' since old gone now none nobody is same =
    subst (λ xs. IsPermutation xs (gone ++ now)) (sym (is ∙ ap (λ xs. xs ++ since) none))
    (subst (λ xs. IsPermutation (xs ++ since) (gone ++ now)) nobody same)

module _ {A R : Type 0} (tells : Bool) (script : A → Script) (faults : R → ℕ)
    (start old new : MemNetState) (first was is : ℕ) (begin before now : Serving MemLink A R) where
  went_on : before.settings ≡ begin.settings → before.app ≡ begin.app →
      Went tells script faults start old first was begin before →
      Turned tells script faults old new was is before now →
      Went tells script faults start new first is begin now
  went_on settings app went t =
      serve_again (telling true true tells) script faults mem_eyes begin.settings before.settings
      begin.app before.app begin.accepted before.accepted
      (booked mem_eyes start.state first begin) (booked mem_eyes old.state was before)
      (booked mem_eyes new.state is now) now.accepted settings app went t.accounts t.came_more
      t.unstopped t.knows

  follows : IsRehearsal start → begin.open' ≡ [] →
      Went tells script faults start new first is begin now →
      Turned tells script faults old new was is before now → Follows old new before now
  follows rehearsal nobody went t = record {
    plan = t.plan;
    keeps = t.keeps;
    live = t.accounts.live;
    settings = t.settings;
    gone = retired_of (λ link. link.plan) went.accounts.entries;
    same = all_given start.state.given new.state.given went.accounts.since (who mem_eyes begin)
        (retired_of (λ link. link.plan) went.accounts.entries) (who mem_eyes now)
        (ap (λ n. n.state.given) rehearsal.is)
        (nobody_open begin nobody)
        went.accounts.given went.accounts.same;
    sound = t.sound;
    positive = t.positive;
  }

  pub round : ((connection : ℕ) → connection < 2 ^ 64 → IsEven (link_plan connection)) →
      IsRehearsal start → begin.open' ≡ [] → before.settings ≡ begin.settings →
      before.app ≡ begin.app → Went tells script faults start old first was begin before →
      IsBetween old before → Turned tells script faults old new was is before now →
      Round tells script faults start old new first is begin before now
  round even rehearsal nobody settings app went between t =
      let on = went_on settings app went t in
      let f = follows rehearsal nobody on t in
      let few = between.few in
      let way = under_way between.connections old new before now (omega (arith, few)) even
      between.way f t.no_idle in
      record {
        goes = on;
        between = record { connections = between.connections; few = few; way = way };
        less = fewer_left between.connections old new before now between.way way f t.no_idle
            (record {
              since = t.accounts.since;
              gone = retired_of (λ link. link.plan) t.accounts.entries;
              given = t.accounts.given;
              same = t.accounts.same;
            });
      }
