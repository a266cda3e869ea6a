-- What a turn leaves behind its poll, put together from accepting and from the connections' parts.
use Rattle.std.proofs.Common.{◌≡◌, ◌≤◌, ◌+◌, ◌⊎◌, inl, inr, ℕ, true, false, IsTrue, List, [], ◌∷◌}
use Rattle.std.proofs.Common.{◌++◌, Option, None, Some, refl, ap, sym, subst, ◌∙◌, arith, length}
use Rattle.std.proofs.Common.{map, filter, nat_le, length-append}
use Rattle.std.proofs.lemmas.List.{length-map}
use Rattle.std.proofs.lemmas.List.Sorted.{length_permutation}
use Rattle.outside.specs.Causes.{Rose}
use Rattle.outside.specs.Link.{opened}
use Rattle.outside.specs.Net.{NetState, asked_of}
use Rattle.outside.specs.declared.retired.Retired.{Retired}
use Rattle.outside.specs.declared.types.Peer.{Peer}
use Rattle.outside.specs.declared.types.Turn.{Turn}
use Rattle.outside.specs.declared.types.Want.{Want}
use Rattle.channel.specs.Views.{View, is_late}
use Rattle.poll_loop.specs.Accounts.{Accounts, Books, IsMet, LastKnows, TimeGoesOn, books}
use Rattle.poll_loop.specs.Accounts.{retired_of}
use Rattle.poll_loop.specs.Connections.{AcceptsAll, CameMore, Counted, OnlyRetires, SamePolls}
use Rattle.poll_loop.specs.Connections.{SeatIsTimely, Takes, is_kept, seated}
use Rattle.poll_loop.specs.Entries.{IsWithin}
use Rattle.poll_loop.specs.Lists.{EachIs}
use Rattle.poll_loop.specs.NoIdle.{Answers, Hosts, Serving, checked_after, checked_by, views}
use Rattle.poll_loop.specs.Seat.{Eyes, Labours, SeatRests, viewed}
use Rattle.poll_loop.specs.Server.{Carries, StepEnds, Steps}
use Rattle.poll_loop.specs.Settings.{is_below}
use Rattle.poll_loop.specs.declared.seat.Seat.{Seat}
use Rattle.poll_loop.specs.declared.settings.ServeFault.{ServeFault}
use Rattle.poll_loop.specs.declared.settings.Settings.{Settings}
use Rattle.poll_loop.specs.declared.turning.Why.{Why}
use Rattle.poll_loop.specs.declared.turning.Why.TheVariants as why
use Rattle.poll_loop.proofs.Books.{accounts_trans, each_append}
use Rattle.poll_loop.proofs.Cases.{Turned, news_by, turned}
use Rattle.poll_loop.proofs.Working.{accounts_as, fewer, hosted_room, hosted_timely, hosts_seats}
use Rattle.poll_loop.proofs.Working.{map_length, map_twice, room_after, timely_goes_on, who_is}

-- as many were open or came as were retired or are open
pub as_many : {L P : Type 0} (Holds : NetState L P → Retired L → Type 0) (plan : L → P)
    (old new : Books L P) (a : Accounts Holds plan old new) →
    length old.who + length a.since ≡ length a.entries + length new.who
as_many {L} {P} Holds plan old new a =
    let p = length_permutation _ _ a.same in
    let p' = length-append old.who a.since in
    let p'' = length-append (retired_of plan a.entries) new.who in
    let m : length (retired_of plan a.entries) ≡ length a.entries =
    length-map {B = Peer × P} a.entries (λ (e : Retired L). (e.peer, plan e.link)) in
    omega (arith, p, p', p'', m)

-- the last poll still knows who is open
pub knows_on : {L P : Type 0} (Holds : NetState L P → Retired L → Type 0) (plan : L → P)
    (old new : Books L P) → Accounts Holds plan old new → new.net.last ≡ old.net.last →
    LastKnows old.net → LastKnows new.net
knows_on Holds plan old new a same k = record {
  poll = k.poll;
  last = same ∙ k.last;
  accepted = let g = ap length a.given in let g' = length-append old.net.given a.since in let h =
      k.accepted in omega (arith, g, g', h);
  open' =
      let g = ap length a.given in
      let g' = length-append old.net.given a.since in
      let n = as_many Holds plan old new a in
      let l = a.live in
      let h = k.accepted in
      let o = k.open' in
      omega (arith, g, g', n, l, h, o);
}

-- ---- accepting

opened_timely : {L P A S R : Type 0} (e : Eyes L P) (net : NetState L P) (now : ℕ)
    (seats : List (Seat L A S P R)) → IsWithin net now →
    EachIs (λ seat. IsTrue e.tells → e.state seat.lane.link ≡ opened now) seats →
    EachIs (SeatIsTimely e net) seats
opened_timely e net now [] h o = tt
opened_timely e net now (s ∷ ss) h o = (
  λ t. let is = o.0 t in record {
    came = subst (λ l. EachIs (λ p. IsWithin net p.0) l.arrivals)
        (sym is) tt;
    touched = subst (λ l. IsWithin net l.touched) (sym is) h;
  },
  opened_timely e net now ss h o.1,
)

pub within_same : {L P : Type 0} (old new : NetState L P) (now : ℕ) → SamePolls old new →
    IsWithin old now → IsWithin new now
within_same old new now s h = record {
  first = h.first;
  began = s.first ∙ h.began;
  since = h.since;
  until = subst (λ p. now ≤ p) (ap (λ l. Rattle.outside.specs.Net.last_moment l) (sym s.last))
      h.until;
}

-- the connections that came are hosted too
pub hosts_came : {L P A S R : Type 0} (Holds : NetState L P → Retired L → Type 0) (e : Eyes L P)
    (settings : Settings) (app : A) (now : ℕ) (old new : NetState L P) (x y f g : ℕ)
    (olds news : List (Seat L A S P R)) →
    Takes e settings app now olds news → Accounts Holds e.plan (books old x f (seated e olds))
    (books new y g (seated e news)) → SamePolls old new → IsWithin old now →
    Hosts e old (map (λ seat. seat.lane) olds) → Hosts e new (map (λ seat. seat.lane) news)
hosts_came Holds e settings app now old new x y f g olds news t a s within hosts =
    hosts_seats e new news (room_after Holds e old new x y f g olds news a
    (hosted_room e old olds hosts))
    (subst (EachIs (SeatIsTimely e new)) (sym t.are)
    (each_append (SeatIsTimely e new) olds t.came
    (timely_goes_on e old new olds a.time (hosted_timely e old olds hosts))
    (opened_timely e new now t.came (within_same old new now s within) t.opened)))

-- ---- retiring

retires_time : {L P : Type 0} (old new : NetState L P) → OnlyRetires old new → SamePolls old new
retires_time old new r = record {
  polls = ap (λ n. n.polls) r.same;
  stopped = ap (λ n. n.stopped) r.same;
  first = ap (λ n. n.first) r.same;
  last = ap (λ n. n.last) r.same;
}

pub polls_same : {L P : Type 0} (old new : NetState L P) → OnlyRetires old new → SamePolls old new
polls_same old new r = retires_time old new r

-- as many were retired as there are fewer open
sum_same : {L P : Type 0} (Holds : NetState L P → Retired L → Type 0) (plan : L → P)
    (old new : Books L P) → Accounts Holds plan old new → new.net.given ≡ old.net.given →
    length new.net.closed + new.net.live ≡ length old.net.closed + old.net.live
sum_same Holds plan old new a same =
    let g = ap length a.given in
    let g' = length-append old.net.given a.since in
    let s = ap length same in
    let c = ap length a.closed in
    let c' = length-append old.net.closed a.entries in
    let n = as_many Holds plan old new a in
    let l = a.live in
    omega (arith, g, g', s, c, c', n, l)

answers_on : {L P : Type 0} (Holds : NetState L P → Retired L → Type 0) (plan : L → P)
    (old : NetState L P) (mid new : Books L P) → Accounts Holds plan mid new →
    OnlyRetires mid.net new.net →
    Answers old mid.net → Answers old new.net
answers_on Holds plan old mid new a r h = (
  subst (λ k. Rose old.asked k) (sym (ap (λ n. n.asked) r.same)) h.0,
  elim h.1 [
    | inl p ↦ inl (subst (λ k. Rose old.put_off k) (sym (ap (λ n. n.put_off) r.same)) p)
    | inr q ↦ inr (let s = sum_same Holds plan mid new a (ap (λ n. n.given) r.same) in omega
        (arith, q, s))
  ],
)

-- so many came as there is room for, counted by those that came since
until_on : {L P : Type 0} (settings : Settings) (there nobody : Type 0)
    (n n' accepted accepted' : ℕ) (since : List (Peer × P)) (old mid : NetState L P) → n' ≡ n →
    accepted' ≡ accepted → mid.given ≡ old.given ++ since →
    (there → nobody) → AcceptsAll settings there n accepted old mid →
    nobody ⊎ ((settings.connection_limit ≤ n' + length since)
    ⊎ (is_below settings.serve_limit accepted' ≡ false))
until_on settings there nobody n n' accepted accepted' since old mid same count given still h =
    elim h [
      | inl p ↦ inl (still p)
      | inr (inl q) ↦ inr (inl (let g = ap length given in let g' =
          length-append old.given since in omega (arith, q, g, g', same)))
      | inr (inr b) ↦ inr (inr (ap (is_below settings.serve_limit) count ∙ b))
    ]

-- ---- a turn behind its poll

each_lane : {L P A S R : Type 0} (e : Eyes L P) (Q : View → Type 0)
    (seats : List (Seat L A S P R)) → EachIs (λ s. Q (viewed e s.lane)) seats →
    EachIs Q (map (viewed e) (map (λ seat. seat.lane) seats))
each_lane e Q [] h = tt
each_lane e Q (s ∷ ss) h = (h.0, each_lane e Q ss h.1)

le_true : (a b : ℕ) → a ≤ b → nat_le a b ≡ true
le_true a b h = grind (arith, h)

module _ {L P A S R : Type 0} (Holds : NetState L P → Retired L → Type 0) (e : Eyes L P)
    (before now : Serving L A R) (turn : Turn) (wants : List Want)
    (olds mids news lasts : List (Seat L A S P R)) (old mid new : NetState L P) (x y z f g h : ℕ)
  where
    pub carries : IsTrue e.tells → before.open' ≡ map (λ seat. seat.lane) olds →
        now.open' ≡ map (λ seat. seat.lane) lasts →
        EachIs (SeatRests e before.settings.window) olds →
        map asked_of wants ≡ map (λ s. asked_of s.want) olds →
        Takes e before.settings before.app turn.now olds mids →
        Labours (nat_le (checked_by turn.now before.checked + before.settings.cleanup_interval)
        turn.now) e turn.now before.settings.window wants mids news →
        lasts ≡ filter is_kept news →
        Accounts Holds e.plan (books old x f (seated e olds)) (books mid y g (seated e mids)) →
        SamePolls old mid → (IsTrue turn.come → Answers old mid) →
        (accepted : ℕ) → now.accepted ≡ accepted → (there nobody : Type 0) → (there → nobody) →
        (IsTrue turn.come →
        AcceptsAll before.settings there (length olds) accepted old mid) →
        (turn.come ≡ false → mid.given ≡ old.given) →
        Accounts Holds e.plan (books mid y g (seated e mids)) (books new z h (seated e lasts)) →
        OnlyRetires mid new →
        now.checked ≡ checked_after turn.now before.checked before.settings.cleanup_interval →
        length lasts ≤ before.settings.connection_limit → IsTrue
        (is_below before.settings.serve_limit now.retired) →
        Carries e wants turn before now nobody old new
    carries told were are rest asks takes labours kept_is a1 same answers accepted count there
        nobody still all uncalled a2 r checked within unmet =
        let w = before.settings.window in
        let due = nat_le (checked_by turn.now before.checked + before.settings.cleanup_interval)
        turn.now in
        let T : Turned due e turn.now w wants olds takes.came news =
        turned due e turn.now w wants olds takes.came news told asks rest takes.rest
        (news_by e turn.now takes.came told takes.opened takes.faultless takes.shown)
        (subst (λ ss. Labours due e turn.now w wants ss news) takes.are labours) in
        let seen : views e now ≡ map (λ s. viewed e s.lane) lasts = ap (map (viewed e)) are ∙
        map_twice (viewed e) (λ s. s.lane) lasts in
        let sp = retires_time mid new r in
        record {
          cases = T.cases;
          were = T.were ∙ sym (ap (map (viewed e)) were ∙ map_twice (viewed e) (λ s. s.lane) olds);
          asked = T.asked;
          each = T.each;
          came = map (λ s. viewed e s.lane) (filter is_kept T.rest);
          are = seen ∙ ap (map (λ s. viewed e s.lane)) kept_is ∙ T.are;
          fresh = T.fresh;
          since = a1.since;
          given_since = ap (λ n. n.given) r.same ∙ a1.given;
          few =
              let k = length-map {B = View} (filter is_kept T.rest) (λ s. viewed e s.lane) in
              let b = fewer is_kept T.rest in
              let c = T.few in
              let n = as_many Holds e.plan (books old x f (seated e olds))
              (books mid y g (seated e mids)) a1 in
              let m = ap length takes.are in
              let m' = length-append olds takes.came in
              let s = Rattle.poll_loop.proofs.Sifting.seated_length e olds in
              let s' = Rattle.poll_loop.proofs.Sifting.seated_length e mids in
              omega (arith, k, b, c, n, m, m', s, s');
          answers = λ come. answers_on Holds e.plan old (books mid y g (seated e mids))
              (books new z h (seated e lasts)) a2 r (answers come);
          all = λ come. until_on before.settings there nobody (length olds) (length before.open')
              accepted now.accepted a1.since old mid
              (ap length were ∙ map_length (λ seat. seat.lane) olds) count a1.given still
              (all come);
          uncalled = λ none. ap (λ n. n.given) r.same ∙ uncalled none;
          on_time = λ late.
              subst (λ ls. EachIs (λ v. is_late turn.now w v.shown ≡ false) (map (viewed e) ls))
              (sym are)
              (each_lane e (λ v. is_late turn.now w v.shown ≡ false) lasts
              (subst (EachIs (λ s. is_late turn.now w s.lane.shown ≡ false)) (sym kept_is)
              (T.on_time (le_true _ _ late))));
          checked = checked;
          within = let k = ap length are in let k' = map_length (λ seat. seat.lane) lasts in omega
              (arith, k, k', within);
          unmet = unmet;
          polls = record {
            polls = sp.polls ∙ same.polls;
            stopped = sp.stopped ∙ same.stopped;
            first =
                sp.first ∙ same.first;
            last = sp.last ∙ same.last;
          };
        }

-- ---- a met limit

not_below : (limit : Option ℕ) (accepted retired seats : ℕ) → is_below limit retired ≡ false →
    Counted limit accepted retired seats → (count : ℕ) × (limit ≡ Some count) × (accepted ≡ count)
    × (seats ≡ 0)
not_below None accepted retired seats n c = cc
not_below (Some count) accepted retired seats n c =
    let a = c.0 in
    let b = c.1 in
    let k : count ≤ retired = grind (arith, n) in
    (count, refl, omega (arith, a, b, k), omega (arith, a, b, k))

pub none_left : {X : Type 0} (xs : List X) → length xs ≡ 0 → xs ≡ []
none_left [] e = refl
none_left (x ∷ xs) e = absurd (let n = e in grind (arith, n))

pub met_by : {L P : Type 0} (limit : Option ℕ) (before accepted retired seats : ℕ)
    (old new : NetState L P) → is_below limit retired ≡ false →
    Counted limit accepted retired seats →
    CameMore limit before accepted (length old.given) (length new.given) →
    IsMet limit before old new
met_by limit before accepted retired seats old new n c more =
    let m = not_below limit accepted retired seats n c in
    let k : CameMore (Some m.0) before accepted (length old.given) (length new.given) =
    subst (λ l. CameMore l before accepted (length old.given) (length new.given)) m.1 more in
    let a = m.2 in
    record { count = m.0; limited = m.1; met = omega (arith, k, a) }

pub nobody_left : {X : Type 0} (limit : Option ℕ) (accepted retired : ℕ) (xs : List X) →
    is_below limit retired ≡ false → Counted limit accepted retired (length xs) → xs ≡ []
nobody_left limit accepted retired xs n c = none_left xs
    (not_below limit accepted retired (length xs) n c).3

pub more_same : (limit : Option ℕ) (a b b' x y y' : ℕ) → b' ≡ b → y' ≡ y → CameMore limit a b x y →
    CameMore limit a b' x y'
more_same None a b b' x y y' e f h = tt
more_same (Some limit) a b b' x y y' e f h = omega (arith, e, f, h)

pub limit_met : {L P X Y : Type 0} (limit limit' : Option ℕ) (before accepted retired : ℕ)
    (seats : List X) (who_of : List X → List Y) (old new : NetState L P) → limit' ≡ limit →
    who_of [] ≡ [] →
    is_below limit' retired ≡ false → Counted limit' accepted retired (length seats) →
    CameMore limit before accepted (length old.given) (length new.given) → new.stopped ≡ false →
    IsMet limit before old new × (new.stopped ≡ false) × (who_of seats ≡ [])
limit_met limit limit' before accepted retired seats who_of old new e none n c more stopped =
    let n' : is_below limit retired ≡ false = subst (λ l. is_below l retired ≡ false) e n in
    let c' : Counted limit accepted retired (length seats) =
    subst (λ l. Counted l accepted retired (length seats)) e c in (
      met_by limit before accepted retired (length seats) old new n' c' more,
      stopped,
      ap who_of (nobody_left limit accepted retired seats n' c') ∙ none,
    )

-- ---- what is told of a turn behind its poll

-- who has a seat, as the books of a server say it
abbrev pub open_of : {L P A S R : Type 0} → Eyes L P → List (Seat L A S P R) → List (Peer × P)
open_of e seats = map (λ lane. (lane.peer, e.plan lane.link)) (map (λ seat. seat.lane) seats)

unstopped_still : {L P : Type 0} (old mid new : NetState L P) → SamePolls old mid →
    OnlyRetires mid new → old.stopped ≡ false → new.stopped ≡ false
unstopped_still old mid new same retires unstopped =
    (polls_same mid new retires).stopped ∙ (same.stopped ∙ unstopped)

module _ {L P A S R : Type 0} (Holds : NetState L P → Retired L → Type 0) (e : Eyes L P)
    (limit : Option ℕ) (before now : ℕ) (old mid : NetState L P) (x y f g : ℕ)
    (olds mids : List (Seat L A S P R))
    (accounts : Accounts Holds e.plan (books old x f (seated e olds)) (books mid y g
    (seated e mids)))
    (same : SamePolls old mid) (knows : LastKnows old)
    (more : CameMore limit before now (length old.given) (length mid.given)) where
  -- the same accounts, of who is open
  accounts_open : Accounts Holds e.plan (books old x f (open_of e olds))
      (books mid y g (open_of e mids))
  accounts_open = accounts_as Holds e.plan old mid _ _ _ _ _ _ _ _ _ _ _ _ refl refl refl refl
      (sym (who_is e olds)) (sym (who_is e mids)) accounts

  pub accept_failed : (fault : ServeFault) → Steps (Some (why.Failed fault)) Holds e.plan limit
      before now (books old x f (open_of e olds)) (books mid y g (open_of e mids))
  accept_failed fault =
      let still = knows_on Holds e.plan _ _ accounts_open same.last in
      record {
        accounts = accounts_open;
        knows = record { still = still; either = inr (still knows) };
        ends = λ stopped. sym same.stopped ∙ stopped;
        came_more = more;
      }

  pub worked : (later : (old new : NetState L P) → TimeGoesOn old new → (entry : Retired L) →
      Holds old entry → Holds new entry) → (why : Option Why) (after : ℕ) (new : NetState L P)
      (z h : ℕ) (lasts : List (Seat L A S P R)) →
      Accounts Holds e.plan (books mid y g (open_of e mids)) (books new z h (open_of e lasts)) →
      OnlyRetires mid new → old.stopped ≡ false → after ≡ now →
      (new.stopped ≡ false → LastKnows new →
      CameMore limit before after (length old.given) (length new.given) →
      StepEnds why limit before (books old x f (open_of e olds))
      (books new z h (open_of e lasts))) →
      Steps why Holds e.plan limit before after (books old x f (open_of e olds))
      (books new z h (open_of e lasts))
  worked later why after new z h lasts then retires unstopped count ends =
      let whole = accounts_trans Holds e.plan later _ _ _ accounts_open then in
      let still = knows_on Holds e.plan _ _ whole ((polls_same mid new retires).last ∙
      same.last) in
      let since = more_same limit before now after _ _ _ count
      (ap (λ n. length n.given) retires.same) more in
      record {
        accounts = whole;
        knows = record { still = still; either = inr (still knows) };
        ends = ends (unstopped_still old mid new same retires unstopped) (still knows) since;
        came_more = since;
      }
