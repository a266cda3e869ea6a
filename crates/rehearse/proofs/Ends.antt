-- What a rehearsal leaves once it told to stop: everybody came and was retired, and no end has
-- another cause than want of memory, a spill or the application.
use Rattle.std.proofs.Common.{◌≡◌, ◌≤◌, ◌<◌, ◌+◌, ◌-◌, ◌==◌, ◌&&◌, ◌||◌, inl, inr, ℕ, Bool}
use Rattle.std.proofs.Common.{true, false, IsTrue, List, [], ◌∷◌, ◌++◌, length, map, refl, ap, sym}
use Rattle.std.proofs.Common.{subst, ◌∙◌, arith, append-nil, length-append, nat_eq}
use Rattle.std.proofs.Math.Logic.{∥∥₁_elim, ∥∥₁_map}
use Rattle.std.proofs.Math.Nat.{ℕ_set}
use Rattle.std.specs.Prelude.{IsPermutation, Result, Ok, Err, Option, None, Some}
use Rattle.std.specs.List.{range_with_len}
use Rattle.std.proofs.lemmas.Bool.{eqb-true}
use Rattle.std.proofs.lemmas.List.{length-map}
use Rattle.std.proofs.lemmas.List.Sorted.{IsPermutation-trans, length_permutation}
use Rattle.channel.specs.Output.{Script}
use Rattle.channel.specs.Views.{Owed, telling}
use Rattle.outside.specs.Causes.{Rose}
use Rattle.outside.specs.Memory.{is_listed}
use Rattle.outside.specs.MemLink.{KeepsToPlan}
use Rattle.outside.specs.MemNet.{Found, KeepsToNetPlan, MemNetState, PolledByPlan, seat_of}
use Rattle.outside.specs.MemNet.{stops_at}
use Rattle.outside.specs.Net.{NetState, Poll, last_moment}
use Rattle.outside.specs.declared.mem_link.MemLink.{MemLink}
use Rattle.outside.specs.declared.plans.LinkPlan.{LinkPlan}
use Rattle.outside.specs.declared.plans.NetPlan.{NetPlan}
use Rattle.outside.specs.declared.retired.Retired.{Retired}
use Rattle.outside.specs.declared.types.End.{End}
use Rattle.outside.specs.declared.types.End.TheVariants as over
use Rattle.outside.specs.declared.types.Peer.{Peer}
use Rattle.poll_loop.specs.Accounts.{LastKnows, ServeCause, ServeEnds, Served, Stops, retired_of}
use Rattle.poll_loop.specs.Connections.{HasBroken, going_on, service_by, shutting_down}
use Rattle.poll_loop.specs.Entries.{EndHolds, EntryHolds, IsTimely, Service}
use Rattle.poll_loop.specs.Lists.{EachIs}
use Rattle.poll_loop.specs.NoIdle.{Serving}
use Rattle.poll_loop.specs.Server.{booked}
use Rattle.poll_loop.specs.declared.settings.Going.{Going}
use Rattle.poll_loop.specs.declared.settings.Going.TheVariants as going
use Rattle.poll_loop.specs.declared.settings.ServeFault.{ServeFault}
use Rattle.poll_loop.specs.declared.settings.ServeFault.TheVariants as fault
use Rattle.poll_loop.specs.declared.settings.Settings.{Settings}
use Rattle.poll_loop.proofs.Ending.{serve_ended, serve_ends}
use Rattle.rehearsal.specs.Plans.{comer_of, net_plan}
use Rattle.rehearse.specs.Between.{mem_eyes}
use Rattle.rehearse.specs.Rehearsed.{IsRehearsal, MayEnd, Rehearsed, holds_of}
use Rattle.rehearse.proofs.Courses.{found_by, nil_of, risen}
use Rattle.rehearse.proofs.Lists.{each_given}
use Rattle.rehearse.proofs.Rounds.{Went, nobody_open}

-- ---- the moment of all turns

-- the one number of a list
one_listed : (m n : ℕ) → IsTrue (is_listed (m ∷ []) n) → n ≡ m
one_listed m n listed = sym (eqb-true m n (alone (nat_eq m n) listed))
  where
    alone : (b : Bool) → IsTrue (b || false) → b ≡ true
    alone true h = refl
    alone false h = h

at_moment : (plan : NetPlan) (connections moment : ℕ) → plan ≡ net_plan connections →
    IsTrue (is_listed plan.moments moment) → moment ≡ 784111777
at_moment plan connections moment is listed =
    one_listed 784111777 moment (subst (λ p. IsTrue (is_listed p.moments moment)) is listed)

-- ---- ends

-- the calls of such a link that fail by its plan
abbrev failing : LinkPlan → ℕ
failing plan = length plan.recv_fails + length plan.send_fails

-- it failed only where it was refused memory
link_starved : (failing starved faults : ℕ) → failing ≡ 0 → 0 < faults →
    (0 < faults → 0 < failing + starved) → 0 < starved
link_starved failing starved faults none some caused =
    let h = caused some in omega (arith, none, h)

module _ (service : Service) (broke : Type 0) (net : NetState MemLink LinkPlan) (moment : ℕ)
    (link : MemLink) (owed : Owed) where
  may_end : IsTrue service.tells.link → ((first : ℕ) → net.first ≡ Some first → first ≡ moment) →
      last_moment net.last ≡ moment → KeepsToPlan link → failing link.plan ≡ 0 →
      IsTimely net link.state → (end : End) →
      EndHolds service (going_on broke) net link.state link.faults owed end →
      MayEnd broke link end
  may_end told first last keeps calm timely over.Done h = tt
  may_end told first last keeps calm timely over.NoMemory h = tt
  may_end told first last keeps calm timely over.SpillFault h = tt
  may_end told first last keeps calm timely over.LinkFault h =
      link_starved (failing link.plan) link.starved link.faults calm h keeps.caused
  may_end told first last keeps calm timely over.AppFault h = h
  may_end told first last keeps calm timely (over.TimedOut touched now) h =
      let touch : touched ≡ link.state.touched = h.0.touched_is told in
      let late : touched + service.timeout < now = h.0.late in
      let until : now ≤ last_moment net.last = h.1 in
      let within = timely.touched in
      let begun : within.first ≡ moment = first within.first within.began in
      let since = within.since in
      absurd (omega (arith, touch, late, until, begun, since, last))
  may_end told first last keeps calm timely over.ShutDown h = h

module _ {A R : Type 0} (tells : Bool) (script : A → Script) (faults : R → ℕ) (settings : Settings)
    (app : A) (net : NetState MemLink LinkPlan) (moment : ℕ) where
  all_may_end : ((first : ℕ) → net.first ≡ Some first → first ≡ moment) →
      last_moment net.last ≡ moment → (entries : List (Retired MemLink)) →
      EachIs (λ entry. KeepsToPlan entry.link) entries →
      EachIs (λ entry. failing entry.link.plan ≡ 0) entries →
      EachIs (holds_of tells script faults settings app net) entries →
      EachIs (λ entry. MayEnd (HasBroken faults) entry.link entry.end) entries
  all_may_end first last [] keeps calm holds = tt
  all_may_end first last (e ∷ es) keeps calm holds =
      let service : Service = service_by (telling true true tells) script settings app in (
        may_end service (HasBroken faults) net moment e.link
            (service.owed e.peer e.link.state.arrivals) refl first last keeps.0 calm.0
            (holds.0.timely refl) e.end holds.0.cause,
        all_may_end first last es keeps.1 calm.1 holds.1,
      )

-- ---- who was retired

all_calm : (numbers : List ℕ) →
    EachIs (λ one. failing one.1 ≡ 0) (map seat_of (map comer_of numbers))
all_calm [] = tt
all_calm (n ∷ ns) = (refl, all_calm ns)

calm_comers : (plan : NetPlan) (connections : ℕ) → plan ≡ net_plan connections →
    EachIs (λ one. failing one.1 ≡ 0) (map seat_of plan.comers)
calm_comers plan connections is =
    subst (λ p. EachIs (λ one. failing one.1 ≡ 0) (map seat_of p.comers)) (sym is)
    (all_calm (range_with_len 0 connections))

abbrev entry_of : Retired MemLink → Peer × LinkPlan
entry_of entry = (entry.peer, entry.link.plan)

calm_entries : (entries : List (Retired MemLink)) →
    ∥ EachIs (λ one. failing one.1 ≡ 0) (map entry_of entries) ∥₁ →
    EachIs (λ entry. failing entry.link.plan ≡ 0) entries
calm_entries [] h = tt
calm_entries (e ∷ es) h = (
  ∥∥₁_elim h (ℕ_set (failing e.link.plan) 0) (λ each. each.0),
  calm_entries es (∥∥₁_map h (λ each. each.1)),
)

-- ---- nobody was shut down

abbrev live_of : Option (Poll LinkPlan) → ℕ
live_of None = 0
live_of (Some poll) = poll.live

abbrev given_of : Option (Poll LinkPlan) → ℕ
given_of None = 0
given_of (Some poll) = length poll.given

same_counts : (net : NetState MemLink LinkPlan) (more : ℕ) (poll : Poll LinkPlan) →
    net.last ≡ Some poll → net.given ≡ poll.given → poll.live ≡ 0 →
    LastKnows (record net { live = net.live + more }) → more ≡ 0
same_counts net more poll last given live known =
    let is : Some known.poll ≡ Some poll = sym known.last ∙ last in
    let l : known.poll.live ≡ poll.live = ap live_of is in
    let g : length known.poll.given ≡ length poll.given = ap given_of is in
    let n : length net.given ≡ length poll.given = ap length given in
    let bound : net.live + more ≤ known.poll.live + (length net.given - length known.poll.given) =
    known.open' in
    omega (arith, l, g, n, live, bound)

none_behind : (olds before after news : List (Retired MemLink)) →
    news ≡ olds ++ (before ++ after) → news ≡ olds → length after ≡ 0
none_behind olds before after news are same =
    let n : length news ≡ length (olds ++ (before ++ after)) = ap length are in
    let m : length news ≡ length olds = ap length same in
    let k = length-append olds (before ++ after) in
    let l = length-append before after in
    omega (arith, n, m, k, l)

-- ---- nobody is left to come

both_zero : (a b : ℕ) → ((a == 0) && (b == 0)) ≡ true → b ≡ 0
both_zero a b h = eqb-true b 0 (second (a == 0) (b == 0) h)
  where
    second : (p q : Bool) → (p && q) ≡ true → q ≡ true
    second true true h = refl
    second true false h = h
    second false true h = refl
    second false false h = h

-- all comers were given where a poll told to stop
all_came : (net : MemNetState) (connections : ℕ) (poll : Poll LinkPlan) →
    net.plan ≡ net_plan connections → KeepsToNetPlan net → net.state.last ≡ Some poll →
    IsTrue poll.turn.stop → net.state.given ≡ poll.given →
    ∥ IsPermutation (map seat_of net.plan.comers) net.state.given ∥₁
all_came net connections poll is keeps last told given =
    let found = found_by net.found (λ f. PolledByPlan net.plan f poll) (keeps.polled poll last) in
    let f : Found = found.0 in
    let polled : PolledByPlan net.plan f poll = found.1 in
    let stop : stops_at None f.number poll.live f.waiting ≡ true =
    ap (λ o. stops_at o f.number poll.live f.waiting) (sym (ap (λ p. p.stop_at) is)) ∙
    (sym polled.turn.stop ∙ told) in
    let nobody : f.waiting ≡ [] = nil_of f.waiting (both_zero poll.live (length f.waiting) stop) in
    ∥∥₁_map polled.comers (λ same.
    subst (λ xs. IsPermutation (map seat_of net.plan.comers) xs)
    (ap (λ cs. poll.given ++ map seat_of cs) nobody ∙ (append-nil poll.given ∙ sym given)) same)

-- ---- the end

-- what holds of those that were shut down
abbrev pub last_of : {A R : Type 0} → Bool → (A → Script) → (R → ℕ) → Settings → A →
    NetState MemLink LinkPlan → Retired MemLink → Type 0
last_of tells script faults settings app =
    EntryHolds (service_by (telling true true tells) script settings app)
    (shutting_down (HasBroken faults)) (λ link. link.state) (λ link. link.faults)

-- What is told of serving that ended by a stop.
pub record Ended {A R : Type 0} (tells : Bool) (script : A → Script) (faults : R → ℕ)
    (old new : MemNetState) (spills spills' : ℕ) (begin now : Serving MemLink A R) : Type 0 where
  pub served : Served (Ok going.Stopped)
      (holds_of tells script faults begin.settings begin.app)
      (last_of tells script faults begin.settings begin.app) (λ link. link.plan)
      (booked mem_eyes old.state spills begin) (booked mem_eyes new.state spills' now)
  pub stops : Stops old.state new.state
  pub plan : new.plan ≡ old.plan
  pub keeps : KeepsToNetPlan new
  pub links : EachIs (λ entry. KeepsToPlan entry.link) new.state.closed

-- turns that let serving go on, and one that ended it
pub stopped : {A R : Type 0} (tells : Bool) (script : A → Script) (faults : R → ℕ)
    (start old new : MemNetState) (first was is : ℕ) (begin before now : Serving MemLink A R)
    (result : Result Going ServeFault) → result ≡ Ok going.Stopped →
    before.settings ≡ begin.settings → before.app ≡ begin.app →
    Went tells script faults start old first was begin before →
    Served result (holds_of tells script faults before.settings before.app)
    (last_of tells script faults before.settings before.app) (λ link. link.plan)
    (booked mem_eyes old.state was before) (booked mem_eyes new.state is now) →
    (LastKnows old.state → LastKnows new.state) →
    ServeEnds result before.settings.serve_limit before.accepted old.state new.state →
    new.plan ≡ start.plan → KeepsToNetPlan new →
    EachIs (λ entry. KeepsToPlan entry.link) new.state.closed →
    Ended tells script faults start new first is begin now
stopped tells script faults start old new first was is begin before now result stop settings app
    went served still ends plan keeps links = record {
      served = serve_ended (telling true true tells) script faults mem_eyes begin.settings
          before.settings begin.app before.app begin.accepted before.accepted
          (booked mem_eyes start.state first begin) (booked mem_eyes old.state was before)
          (booked mem_eyes new.state is now) result (Ok going.Stopped) stop settings app went
          served still;
      stops = serve_ends (telling true true tells) script faults mem_eyes begin.settings
          before.settings begin.app before.app begin.accepted before.accepted
          (booked mem_eyes start.state first begin) (booked mem_eyes old.state was before)
          (booked mem_eyes new.state is now) result (Ok going.Stopped) stop settings went ends;
      plan = plan;
      keeps = keeps;
      links = links;
    }

-- what never comes

pub no_limit : {L P : Type 0} (result : Result Going ServeFault) (limit : Option ℕ) (before : ℕ)
    (old new : NetState L P) → result ≡ Ok going.LimitMet → limit ≡ None →
    ServeEnds result limit before old new → ⊥
no_limit result limit before old new is none ends =
    let met : ServeEnds (Ok going.LimitMet) limit before old new =
    subst (λ r. ServeEnds r limit before old new) is ends in
    let some = met.0.limited in
    cc

pub no_fault : (result : Result Going ServeFault) (before connections : ℕ) (net : MemNetState) →
    result ≡ Err fault.Net → net.plan ≡ net_plan connections → KeepsToNetPlan net →
    ServeCause result before net.poll_faults → ⊥
no_fault result before connections net is plan keeps cause =
    let rose : Rose before net.poll_faults =
    subst (λ r. ServeCause r before net.poll_faults) is cause in
    let some : 0 < length net.plan.poll_fails + length net.plan.accept_fails =
    keeps.poll_caused (risen before net.poll_faults rose) in
    let none : length net.plan.poll_fails + length net.plan.accept_fails ≡ 0 =
    ap (λ p. length p.poll_fails + length p.accept_fails) plan in
    omega (arith, some, none)

module _ {A R : Type 0} (tells : Bool) (script : A → Script) (faults : R → ℕ)
    (old new : MemNetState) (spills spills' : ℕ) (begin now : Serving MemLink A R)
    (start : IsRehearsal old) (nobody : begin.open' ≡ [])
    (e : Ended tells script faults old new spills spills' begin now) where
  none_shut : e.served.after ≡ []
  none_shut =
      let quiet : IsTrue old.state.quiet = ap (λ n. n.state.quiet) start.is in
      nil_of e.served.after (elim (e.served.knows (inl (nobody_open begin nobody))) [
        | inl same ↦ none_behind old.state.closed e.served.before e.served.after new.state.closed
            e.served.closed same
        | inr known ↦ same_counts new.state (length e.served.after) e.stops.poll e.stops.last
            e.stops.given (e.stops.empty quiet) known
      ])

  all_before : new.state.closed ≡ e.served.before
  all_before =
      e.served.closed ∙ (ap (λ es. es ++ (e.served.before ++ e.served.after))
      (ap (λ n. n.state.closed) start.is) ∙ (ap (λ es. e.served.before ++ es) none_shut ∙
      append-nil e.served.before))

  same_plan : new.plan ≡ net_plan start.connections
  same_plan = e.plan ∙ ap (λ n. n.plan) start.is

  came : map seat_of new.plan.comers ≡ map seat_of old.waiting
  came = ap (λ p. map seat_of p.comers) same_plan ∙ sym (ap (λ n. map seat_of n.waiting) start.is)

  -- those who were given are those who were retired
  given_retired : IsPermutation new.state.given (retired_of (λ link. link.plan) new.state.closed)
  given_retired =
      let since : new.state.given ≡ e.served.since =
      e.served.given ∙ ap (λ xs. xs ++ e.served.since) (ap (λ n. n.state.given) start.is) in
      let entries : e.served.before ++ e.served.after ≡ new.state.closed =
      ap (λ es. e.served.before ++ es) none_shut ∙ (append-nil e.served.before ∙ sym all_before) in
      subst (λ xs. IsPermutation xs (retired_of (λ link. link.plan) new.state.closed)) (sym since)
      (subst (λ es. IsPermutation e.served.since (retired_of (λ link. link.plan) es)) entries
      (subst (λ xs. IsPermutation (xs ++ e.served.since)
      (retired_of (λ link. link.plan) (e.served.before ++ e.served.after)))
      (nobody_open begin nobody) e.served.same))

  all_retired : ∥ IsPermutation (map seat_of new.plan.comers)
      (retired_of (λ link. link.plan) new.state.closed) ∥₁
  all_retired = ∥∥₁_map (all_came new start.connections e.stops.poll same_plan e.keeps e.stops.last
      e.stops.told e.stops.given) (λ same.
      IsPermutation-trans (map seat_of new.plan.comers) new.state.given
      (retired_of (λ link. link.plan) new.state.closed) same given_retired)

  as_many : length new.state.closed ≡ length old.waiting
  as_many = ∥∥₁_elim all_retired (ℕ_set (length new.state.closed) (length old.waiting)) (λ same.
      let a = length_permutation (map seat_of new.plan.comers)
      (retired_of (λ link. link.plan) new.state.closed) same in
      let b : length (retired_of (λ link. link.plan) new.state.closed) ≡ length new.state.closed =
      length-map new.state.closed entry_of in
      let c : length (map seat_of new.plan.comers) ≡ length (map seat_of old.waiting) =
      ap length came in
      let d = length-map old.waiting seat_of in
      omega (arith, a, b, c, d))

  all_hold : EachIs (holds_of tells script faults begin.settings begin.app new.state)
      new.state.closed
  all_hold = subst (λ es. EachIs (holds_of tells script faults begin.settings begin.app new.state)
      es) (sym all_before) e.served.each

  calm : EachIs (λ entry. failing entry.link.plan ≡ 0) new.state.closed
  calm = calm_entries new.state.closed (∥∥₁_map all_retired (λ same.
      each_given (λ one. failing one.1 ≡ 0) (map seat_of new.plan.comers)
      (map entry_of new.state.closed) []
      (subst (λ xs. IsPermutation (map seat_of new.plan.comers) xs)
      (sym (append-nil (map entry_of new.state.closed))) same)
      (calm_comers new.plan start.connections same_plan)))

  pub rehearsed : Rehearsed (holds_of tells script faults begin.settings begin.app)
      (HasBroken faults) old new
  rehearsed = record {
    all = as_many;
    who = ∥∥₁_map all_retired (λ same.
        subst (λ xs. IsPermutation xs (retired_of (λ link. link.plan) new.state.closed)) came same);
    each = all_hold;
    ends = all_may_end tells script faults begin.settings begin.app new.state 784111777
        (λ first began. at_moment new.plan start.connections first same_plan
        (e.keeps.first first began))
        (ap (λ p. last_moment p) e.stops.last ∙
        at_moment new.plan start.connections e.stops.poll.turn.now same_plan
        (e.keeps.last e.stops.poll e.stops.last))
        new.state.closed e.links calm all_hold;
  }
