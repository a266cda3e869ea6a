-- A turn of a rehearsal is one in which nothing is put off.
use Rattle.std.proofs.Common.{◌≡◌, ◌≤◌, ◌<◌, ◌+◌, ◌-◌, ◌==◌, ◌&&◌, ◌⊎◌, inl, inr, ℕ, Bool, true}
use Rattle.std.proofs.Common.{false, IsTrue, List, [], ◌∷◌, ◌++◌}
use Rattle.std.proofs.Common.{length, map, refl, ap, ap₂, sym, subst, subst₂, ◌∙◌, cond}
use Rattle.std.proofs.Common.{arith, append-nil, length-append, take_all}
use Rattle.std.proofs.Math.Logic.{∥∥₁_elim}
use Rattle.std.proofs.Math.Nat.{ℕ_set}
use Rattle.std.specs.Prelude.{Option, None, Some, IfSome, All, Contains, IsPermutation, is_some}
use Rattle.std.specs.Prelude.{nat_lt}
use Rattle.std.specs.Prelude.{nat_le, nat_eq, not, position}
use Rattle.std.specs.List.{prefix_len, position_or_len, range_with_len}
use Rattle.std.specs.Option.{IsSomeAnd}
use Rattle.std.proofs.lemmas.Bool.{lt-ltb}
use Rattle.std.proofs.lemmas.List.{length-map}
use Rattle.std.proofs.lemmas.List.Elements.{All-cons, All-contains, All-head, All-nil, All-tail}
use Rattle.std.proofs.lemmas.List.Sorted.{length_permutation, sum_by-IsPermutation}
use Rattle.std.proofs.lemmas.List.Sums.{sum_by-cons}
use Rattle.channel.specs.Views.{LinkGoes, Seen, Stamps, View, units_of}
use Rattle.channel.specs.declared.types.Window.{Window}
use Rattle.outside.specs.Causes.{Rose, raised}
use Rattle.outside.specs.Link.{LinkState, stamped}
use Rattle.outside.specs.Memory.{is_listed}
use Rattle.outside.specs.MemNet.{Found, IsReady, KeepsToNetPlan, MemNetState}
use Rattle.outside.specs.MemNet.{PolledByPlan, first_due, seat_of, stops_at}
use Rattle.outside.specs.declared.mem_link.MemLink.{MemLink}
use Rattle.outside.specs.declared.plans.Comer.{Comer}
use Rattle.outside.specs.declared.plans.LinkPlan.{LinkPlan}
use Rattle.outside.specs.declared.plans.NetPlan.{NetPlan}
use Rattle.outside.specs.declared.types.Peer.{Peer}
use Rattle.outside.specs.declared.types.Want.{Want}
use Rattle.poll_loop.specs.Lists.{EachIs}
use Rattle.poll_loop.specs.NoIdle.{Asks, Case, NoIdle, Serves, Serving, is_accepting, kept, views}
use Rattle.poll_loop.specs.NoIdle.{who, with_kept}
use Rattle.poll_loop.specs.Seat.{viewed}
use Rattle.poll_loop.specs.Settings.{is_below}
use Rattle.rehearsal.specs.Plans.{comer_of, net_plan}
use Rattle.request_stream.specs.Units.{bytes_of}
use Rattle.rehearse.specs.Between.{HasNobody, IsAccounted, IsOnCourse, IsUnderWay, TurnsFlow}
use Rattle.rehearse.specs.Between.{mem_eyes}
use Rattle.rehearse.specs.Between.{whole_of}
use Rattle.rehearse.proofs.Channels.{equal_or_less}
use Rattle.rehearse.specs.Falling.{Flows, IsFree, arrived, sum_of}

-- ---- who waits

counted : (net : MemNetState) → KeepsToNetPlan net →
    length net.state.given + length net.waiting ≡ length net.plan.comers
counted net keeps =
    ∥∥₁_elim keeps.comers (ℕ_set (length net.state.given + length net.waiting)
    (length net.plan.comers)) (λ same.
    let whole : length (net.state.given ++ map seat_of net.waiting) ≡ length
    (map seat_of net.plan.comers) =
    length_permutation (map seat_of net.plan.comers)
    (net.state.given ++ map seat_of net.waiting) same in
    let sides = length-append net.state.given (map seat_of net.waiting) in
    let waited = length-map net.waiting seat_of in
    let comers = length-map net.plan.comers seat_of in
    omega (arith, whole, sides, waited, comers))

fewer : (old new : MemNetState) (since : List (Peer × LinkPlan)) → KeepsToNetPlan old →
    KeepsToNetPlan new → new.plan ≡ old.plan →
    new.state.given ≡ old.state.given ++ since →
    length old.waiting ≡ length new.waiting + length since
fewer old new since k l same given =
    let a = counted old k in
    let b = counted new l in
    let plan : length new.plan.comers ≡ length old.plan.comers = ap (λ p. length p.comers) same in
    let c = ap length given in
    let d = length-append old.state.given since in
    omega (arith, a, b, plan, c, d)

first_is : (p : Comer → Bool) (c : Comer) (cs : List Comer) → p c ≡ true →
    is_some (position p (c ∷ cs)) ≡ true
first_is p c cs h =
    let zero : position_or_len p (c ∷ cs) ≡ 0 =
    ap (λ t. cond (not t) (1 + prefix_len (λ x. not (p x)) cs) 0) h in
    ap (λ n. is_some (cond (nat_lt n (length (c ∷ cs))) (Some n) None)) zero
    ∙ ap (λ t. is_some {T = ℕ} (cond t (Some 0) None)) (lt-ltb 0 (length (c ∷ cs)) (omega arith))

pub found_by : (found : Option Found) (P : Found → Type 0) → IsSomeAnd found P → (f : Found) × P f
found_by None P p = absurd p
found_by (Some f) P p = (f, p)

-- it comes at the first turn
abbrev IsPrompt : Comer → Type 0
IsPrompt comer = comer.turn ≡ 0

all_prompt : (numbers : List ℕ) → All IsPrompt (map comer_of numbers)
all_prompt [] = All-nil IsPrompt
all_prompt (n ∷ ns) = All-cons IsPrompt (comer_of n) (map comer_of ns) refl (all_prompt ns)

each_prompt : (connections : ℕ) (plan : NetPlan) → plan ≡ net_plan connections →
    (waiting : List Comer) → All (Contains plan.comers) waiting → All IsPrompt waiting
each_prompt connections plan is [] all = All-nil IsPrompt
each_prompt connections plan is (c ∷ cs) all = All-cons IsPrompt c cs
    (All-contains IsPrompt plan.comers c
    (subst (λ p. All IsPrompt p.comers) (sym is) (all_prompt (range_with_len 0 connections)))
    (All-head (Contains plan.comers) c cs all))
    (each_prompt connections plan is cs (All-tail (Contains plan.comers) c cs all))

-- whoever comes at the first turn is due behind a poll
some_due : (waiting : List Comer) (polls : ℕ) → 0 < polls → All IsPrompt waiting →
    first_due waiting polls ≡ None → length waiting ≡ 0
some_due [] polls some all none = refl
some_due (c ∷ cs) polls some all none = absurd (
    let prompt : c.turn ≡ 0 = All-head IsPrompt c cs all in
    let due : is_some (first_due (c ∷ cs) polls) ≡ true =
    first_is (λ comer. nat_lt comer.turn polls) c cs
    (lt-ltb c.turn polls (omega (arith, prompt, some))) in
    let bad : true ≡ false = sym due ∙ ap is_some none in cc)

some_by : (number live : ℕ) (waiting : List Comer) → live ≡ 0 →
    stops_at None number live waiting ≡ false → 0 < length waiting
some_by number live waiting none h = elim (none_at (length waiting)) [
  | inr some ↦ some
  | inl nobody ↦ absurd (
      let both : ((live == 0) && (length waiting == 0)) ≡ true =
      ap₂ (λ a b. (a == 0) && (b == 0)) none nobody in
      let bad : true ≡ false = sym both ∙ h in cc)
]
  where
    none_at : (k : ℕ) → (k ≡ 0) ⊎ (0 < k)
    none_at k = grind (arith)

due_first : (waiting : List Comer) (polls : ℕ) → 0 < length waiting → All IsPrompt waiting →
    is_some (first_due waiting (raised polls)) ≡ true
due_first [] polls some all = absurd (let h : 0 < 0 = some in omega (arith, h))
due_first (c ∷ cs) polls some all =
    let prompt : c.turn ≡ 0 = All-head IsPrompt c cs all in
    let high : 0 < raised polls = omega arith in
    first_is (λ comer. nat_lt comer.turn (raised polls)) c cs
    (lt-ltb c.turn (raised polls) (omega (arith, prompt, high)))

none_or : (k : ℕ) → (k ≡ 0) ⊎ (0 < k)
none_or k = grind (arith)

pub nil_of : {X : Type 0} (xs : List X) → length xs ≡ 0 → xs ≡ []
nil_of [] h = refl
nil_of (x ∷ xs) h = absurd (omega (arith, h))

pub risen : (a b : ℕ) → Rose a b → 0 < b
risen a b rose = let r : raised a ≤ b = rose in omega (arith, r)

not_both : (b : Bool) → b ≡ false → IsTrue b → ⊥
not_both true e h = cc
not_both false e h = cc

module _ {A R : Type 0} (connections : ℕ) (old new : MemNetState) (before now : Serving MemLink A R)
    (was : IsUnderWay connections old before) (is : IsUnderWay connections new now)
    (turn : NoIdle mem_eyes before now (HasNobody new) old.state new.state) where
  same_plan : new.plan ≡ old.plan
  same_plan = is.plan ∙ sym was.plan

  left_waiting : length old.waiting ≡ length new.waiting + length turn.since
  left_waiting = fewer old new turn.since was.keeps is.keeps same_plan turn.given_since

  polled_by : (f : Found) × PolledByPlan new.plan f turn.poll
  polled_by = found_by new.found (λ f. PolledByPlan new.plan f turn.poll)
      (is.keeps.polled turn.poll turn.last)

  -- as many waited at the poll as before the turn
  found_waiting : (f : Found) → PolledByPlan new.plan f turn.poll →
      length f.waiting ≡ length old.waiting
  found_waiting f polled =
      let a = counted old was.keeps in
      let plan : length new.plan.comers ≡ length old.plan.comers =
      ap (λ p. length p.comers) same_plan in
      let given : length turn.poll.given ≡ length old.state.given = ap length turn.given in
      ∥∥₁_elim polled.comers (ℕ_set (length f.waiting) (length old.waiting)) (λ same.
      let whole : length (turn.poll.given ++ map seat_of f.waiting) ≡ length
      (map seat_of new.plan.comers) =
      length_permutation (map seat_of new.plan.comers)
      (turn.poll.given ++ map seat_of f.waiting) same in
      let sides = length-append turn.poll.given (map seat_of f.waiting) in
      let waited = length-map f.waiting seat_of in
      let comers = length-map new.plan.comers seat_of in
      omega (arith, a, plan, given, whole, sides, waited, comers))

  accepts : length before.open' ≡ 0 → is_accepting before ≡ true
  accepts none =
      let room = was.room in
      ap₂ (λ a b. a && b) (lt-ltb (length before.open') before.settings.connection_limit
      (omega (arith, none, room)))
      (ap (λ o. is_below o before.accepted) was.unlimited)

  somebody : length new.waiting ≡ length old.waiting → length before.open' ≡ 0 → ⊥
  somebody same none =
      let found = polled_by in
      let f : Found = found.0 in
      let polled : PolledByPlan new.plan f turn.poll = found.1 in
      let prompt : All IsPrompt f.waiting =
      each_prompt connections new.plan is.plan f.waiting polled.who in
      let stop_at : new.plan.stop_at ≡ None = ap (λ p. p.stop_at) is.plan in
      let live : turn.poll.live ≡ 0 = turn.live ∙ (was.live ∙ none) in
      let stop : stops_at None f.number turn.poll.live f.waiting ≡ false =
      sym (polled.turn.stop ∙ ap (λ o. stops_at o f.number turn.poll.live f.waiting) stop_at) ∙
      turn.unstopped in
      let some : 0 < length f.waiting = some_by f.number turn.poll.live f.waiting live stop in
      let come : turn.poll.turn.come ≡ true =
      polled.turn.come ∙ ap₂ (λ a b. a && b) (turn.accepting ∙ accepts none)
      (due_first f.waiting f.number some prompt) in
      let waited = found_waiting f polled in
      let left = left_waiting in
      let room = was.room in
      elim (turn.all come) [
        | inl nobody ↦ (
            let polls : new.state.polls ≡ raised old.state.polls = turn.polled in
            let high : 0 < new.state.polls = omega (arith, polls) in
            let none = some_due new.waiting new.state.polls high
            (each_prompt connections new.plan is.plan new.waiting is.keeps.who) nobody in
            omega (arith, none, same, waited, some))
        | inr other ↦ elim other [
          | inl full ↦ omega (arith, full, none, room, left, same)
          | inr met ↦ (let unmet : is_below None now.accepted ≡ false =
              sym (ap (λ o. is_below o now.accepted) was.unlimited) ∙ met in cc)
        ]
      ]

  some_open : length new.waiting ≡ length old.waiting → 0 < length (views mem_eyes before)
  some_open same = elim (none_or (length before.open')) [
    | inl none ↦ absurd (somebody same none)
    | inr some ↦ (let l = length-map before.open' (viewed mem_eyes) in omega (arith, some, l))
  ]

-- ---- what is known of a connection

unreadable : (c f n l e : Bool) → f ≡ true → (not c && not f && not n && l && e) ≡ true → ⊥
unreadable true f n l e finished h = cc
unreadable false true n l e finished h = cc
unreadable false false n l e finished h = cc

same_arrivals : (now : ℕ) (old new : LinkState) → Stamps now old new →
    length new.arrivals ≡ length old.arrivals → new.arrivals ≡ old.arrivals
same_arrivals now old new s same =
    let l : length new.arrivals ≡ length (old.arrivals ++ stamped now s.bytes) =
    ap length s.arrivals in
    let k = length-append old.arrivals (stamped now s.bytes) in
    let none : stamped now s.bytes ≡ [] = nil_of (stamped now s.bytes) (omega (arith, l, k, same))
    in
    s.arrivals ∙ (ap (λ xs. old.arrivals ++ xs) none ∙ append-nil old.arrivals)

ready_each : (wants nudge : List Want) → All IsReady (wants ++ nudge) → EachIs IsReady wants
ready_each [] nudge all = tt
ready_each (w ∷ ws) nudge all = (
  All-head IsReady w (ws ++ nudge) all,
  ready_each ws nudge
      (All-tail IsReady w (ws ++ nudge) all),
)

-- an open connection is seen so
record IsSeen (A : Type 0) (v : View) : Type 0 where
  lane : Seen MemLink A
  seen : viewed mem_eyes lane ≡ v
  course : IsOnCourse lane

module _ (A : Type 0) where
  all_came : (lane : Seen MemLink A) → IsOnCourse lane → 0 < lane.link.state.recv_put_off →
      bytes_of lane.link.state.arrivals ≡ lane.link.plan.input
  all_came lane c put_off = elim (none_or (length lane.link.plan.input - length
      lane.link.state.arrivals)) [
        | inr some ↦ absurd (not_both (is_listed lane.link.plan.gives 0) c.plan.gives
            (c.keeps.recv_put_off put_off some))
        | inl none ↦ (
            c.keeps.came ∙ take_all (length lane.link.state.arrivals) lane.link.plan.input
            (omega (arith, none)))
      ]

  flows : (now : ℕ) (w : Window) (old new : Seen MemLink A) → IsOnCourse old → IsOnCourse new →
      LinkGoes (viewed mem_eyes old) (viewed mem_eyes new) →
      Stamps now old.link.state new.link.state →
      Flows w (viewed mem_eyes old) (viewed mem_eyes new)
  flows now w old new c d g s = record {
    faultless = c.faultless;
    recv = λ readable rose. elim (equal_or_less (length old.link.state.arrivals)
        (length new.link.state.arrivals) g.came) [
          | inr less ↦ less
          | inl same ↦ absurd (
              let whole = all_came new d
              (risen old.link.state.recv_put_off new.link.state.recv_put_off rose) in
              let equal = same_arrivals now old.link.state new.link.state s same in
              let closes = d.plan.closes old.fixed.limits old.link.state.arrivals c.positive
              (ap bytes_of (sym equal) ∙ whole) in
              unreadable old.shown.closing old.shown.finished old.shown.ended
              (nat_le (units_of old.shown) w.lookahead) (nat_eq old.shown.output 0)
              (c.finished closes) readable)
        ];
    send = λ rose. not_both (is_listed new.link.plan.takes 0) d.plan.takes
        (d.keeps.send_put_off (risen old.link.state.send_put_off new.link.state.send_put_off rose));
    goes_on = going new.link.state.ended refl;
  }
    where
      going : (b : Bool) → new.link.state.ended ≡ b → b ≡ false
      going true e = absurd (not_both new.link.plan.ends d.plan.goes_on (d.keeps.ended e))
      going false e = refl

  flows_seen : (now : ℕ) (w : Window) (old new : View) → IsSeen A old → IsSeen A new →
      LinkGoes old new → Stamps now old.link new.link → Flows w old new
  flows_seen now w old new o n g s =
      let from : LinkGoes (viewed mem_eyes o.lane) (viewed mem_eyes n.lane) =
      subst₂ (λ a b. LinkGoes a b) (sym o.seen) (sym n.seen) g in
      let stamps : Stamps now (viewed mem_eyes o.lane).link (viewed mem_eyes n.lane).link =
      subst₂ (λ a b. Stamps now a.link b.link) (sym o.seen) (sym n.seen) s in
      subst₂ (λ a b. Flows w a b) o.seen n.seen
      (flows now w o.lane n.lane o.course n.course from stamps)

  all_seen : (lanes : List (Seen MemLink A)) → EachIs IsOnCourse lanes →
      EachIs (IsSeen A) (map (viewed mem_eyes) lanes)
  all_seen [] c = tt
  all_seen (l ∷ ls) c = (record { lane = l; seen = refl; course = c.0 }, all_seen ls c.1)

  module _ (now : ℕ) (w : Window) where
    one_free : (c : Case) (n : Option View) (rest : List View) → c.new ≡ n → Asks now w c →
        IsReady c.ready → IsSeen A c.old →
        EachIs (IsSeen A) (with_kept n rest) → IsFree w c × EachIs (IsSeen A) rest
    one_free c None rest e asks ready old news = (
      record {
        read = ready.0;
        write = ready.1;
        flows = subst (λ o. IfSome o (λ v. Flows w c.old v)) (sym e) tt;
      },
      news,
    )
    one_free c (Some new) rest e asks ready old news =
        let s : Serves now w c.ready c.old new =
        subst (λ o. IfSome o (λ v. Serves now w c.ready c.old v)) e asks.serves in (
          record {
            read = ready.0;
            write = ready.1;
            flows = subst (λ o. IfSome o (λ v. Flows w c.old v)) (sym e)
                (flows_seen now w c.old new old news.0 s.goes s.stamps);
          },
          news.1,
        )

    all_free : (cs : List Case) (came : List View) → EachIs (Asks now w) cs →
        EachIs IsReady (map (λ c. c.ready) cs) →
        EachIs (IsSeen A) (map (λ c. c.old) cs) → EachIs (IsSeen A) (kept cs ++ came) →
        EachIs (IsFree w) cs
    all_free [] came a r o n = tt
    all_free (c ∷ cs) came a r o n =
        let one = one_free c c.new (kept cs ++ came) refl a.0 r.0 o.0 (front c.new (kept cs) n) in
        (one.0, all_free cs came a.1 r.1 o.1 one.1)
      where
        front : (n : Option View) (rest : List View) →
            EachIs (IsSeen A) (with_kept n rest ++ came) →
            EachIs (IsSeen A) (with_kept n (rest ++ came))
        front None rest e = e
        front (Some v) rest e = e

  bounded : (lanes : List (Seen MemLink A)) → EachIs IsOnCourse lanes →
      sum_of arrived (map (viewed mem_eyes) lanes) ≤ whole_of
      (map (λ lane. (lane.peer, lane.link.plan)) lanes)
  bounded [] c = omega arith
  bounded (l ∷ ls) c =
      let rest = bounded ls c.1 in
      let one : arrived (viewed mem_eyes l) ≤ length l.link.plan.input = c.0.keeps.no_more in
      let more : whole_of (map (λ lane. (lane.peer, lane.link.plan)) (l ∷ ls))
      ≡ length l.link.plan.input + whole_of (map (λ lane. (lane.peer, lane.link.plan)) ls) =
      sum_by-cons (λ one. length one.1.input) (l.peer, l.link.plan)
      (map (λ lane. (lane.peer, lane.link.plan)) ls) in
      omega (arith, rest, one, more)

-- ---- a turn

same_whole : {A R : Type 0} (old new : MemNetState) (before now : Serving MemLink A R)
    (a : IsAccounted old.state new.state (who mem_eyes before) (who mem_eyes now)) →
    KeepsToNetPlan old → KeepsToNetPlan new → new.plan ≡ old.plan →
    length new.waiting ≡ length old.waiting →
    length (views mem_eyes now) ≡ length (views mem_eyes before) →
    whole_of (who mem_eyes now) ≡ whole_of (who mem_eyes before)
same_whole old new before now a k l plan waiting open' =
    let left = fewer old new a.since k l plan a.given in
    let nobody : a.since ≡ [] = nil_of a.since (omega (arith, left, waiting)) in
    let gone : List (Peer × LinkPlan) = a.gone in
    let olds : List (Peer × LinkPlan) = who mem_eyes before in
    let news : List (Peer × LinkPlan) = who mem_eyes now in
    let same : IsPermutation olds (gone ++ news) =
    subst (λ xs. IsPermutation xs (gone ++ news))
    (ap (λ xs. olds ++ xs) nobody ∙ append-nil olds) a.same in
    let count = length_permutation olds (gone ++ news) same in
    let sides = length-append gone news in
    let m = length-map before.open' (viewed mem_eyes) in
    let n = length-map now.open' (viewed mem_eyes) in
    let p : length olds ≡ length before.open' =
    length-map before.open' (λ lane. (lane.peer, lane.link.plan)) in
    let q : length news ≡ length now.open' = length-map now.open'
    (λ lane. (lane.peer, lane.link.plan)) in
    let none : gone ≡ [] = nil_of gone (omega (arith, count, sides, m, n, p, q, open')) in
    sum_by-IsPermutation (λ one. length one.1.input) olds news
    (subst (λ xs. IsPermutation olds (xs ++ news)) none same)

pub turns_flow : (A R : Type 0) → TurnsFlow A R
turns_flow A R connections old new before now was is turn a = record {
  comers = left_waiting connections old new before now was is turn;
  some = some_open connections old new before now was is turn;
  free = all_free A turn.poll.turn.now before.settings.window turn.cases turn.came turn.each
      (ready_each (map (λ c. c.ready) turn.cases) turn.nudge
      (subst (λ ws. All IsReady ws) turn.asked
      (polled_by connections old new before now was is turn).1.ready))
      (subst (λ vs. EachIs (IsSeen A) vs) (sym turn.were) (all_seen A before.open' was.lanes))
      (subst (λ vs. EachIs (IsSeen A) vs) turn.are (all_seen A now.open' is.lanes));
  kept = λ waiting open'. same_whole old new before now a was.keeps is.keeps
      (same_plan connections old new before now was is turn) waiting open';
  bound = bounded A now.open' is.lanes;
}
