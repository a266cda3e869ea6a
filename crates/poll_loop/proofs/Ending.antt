-- How a turn ends serving, and how turns add up.
use Rattle.std.proofs.Common.{◌≡◌, ◌≤◌, ◌+◌, ℕ, false, IsTrue, List, [], ◌∷◌, ◌++◌, length, Option}
use Rattle.std.proofs.Common.{None, Some, inl, inr, refl, ap, sym, subst, ◌∙◌, arith, append_assoc}
use Rattle.std.proofs.Common.{append-nil, length-append}
use Rattle.std.specs.Prelude.{◌⊎◌, IsPermutation, map, Result, Ok, Err}
use Rattle.std.proofs.lemmas.List.Sorted.{IsPermutation-append_right, IsPermutation-trans}
use Rattle.std.proofs.lemmas.List.Sorted.{length_permutation}
use Rattle.channel.specs.Output.{Script}
use Rattle.channel.specs.Views.{Seen, Telling}
use Rattle.outside.specs.Causes.{Rose, added}
use Rattle.outside.specs.Net.{NetState}
use Rattle.outside.specs.declared.retired.Retired.{Retired}
use Rattle.outside.specs.declared.types.Peer.{Peer}
use Rattle.poll_loop.specs.Accounts.{Accounts, Books, books, IsMet, IsShutDown, LastKnows}
use Rattle.poll_loop.specs.Accounts.{NobodyShut, ServeCause, ServeEnds, Served, Stops, TimeGoesOn}
use Rattle.poll_loop.specs.Accounts.{retired_of}
use Rattle.poll_loop.specs.Connections.{CameMore, HasBroken, SeatIsTimely, ShutsDown, going_on}
use Rattle.poll_loop.specs.Connections.{seated, service_by, shutting_down}
use Rattle.poll_loop.specs.Entries.{EntryHolds, IsTimely, app_faults, spill_faults}
use Rattle.poll_loop.specs.Lists.{EachIs}
use Rattle.poll_loop.specs.Seat.{Eyes}
use Rattle.poll_loop.specs.Server.{KnowsStill, StepEnds, Steps, answer_of}
use Rattle.poll_loop.specs.declared.seat.Seat.{Seat}
use Rattle.poll_loop.specs.declared.settings.Going.{Going}
use Rattle.poll_loop.specs.declared.settings.Going.TheVariants as going
use Rattle.poll_loop.specs.declared.settings.ServeFault.{ServeFault}
use Rattle.poll_loop.specs.declared.settings.Settings.{Settings}
use Rattle.poll_loop.specs.declared.turning.Why.{Why}
use Rattle.poll_loop.specs.declared.turning.Why.TheVariants as why
use Rattle.poll_loop.proofs.Books.{accounts_refl, accounts_trans, app_faults_append, each_append}
use Rattle.poll_loop.proofs.Books.{each_map, entry_holds_later, open_trans, retired_of_append}
use Rattle.poll_loop.proofs.Books.{spill_faults_append, spilled_more, time_same, time_trans}

-- ---- those that are open

pub seats_timely : {L P A S R : Type 0} (e : Eyes L P) (net : NetState L P)
    (seats : List (Seat L A S P R)) →
    (IsTrue e.tells → EachIs (λ lane. IsTimely net (e.state lane.link))
    (map (λ seat. seat.lane) seats)) → EachIs (SeatIsTimely e net) seats
seats_timely e net [] h = tt
seats_timely e net (x ∷ xs) h = (λ t. (h t).0, seats_timely e net xs (λ t. (h t).1))

-- who is open, by peer and plan
abbrev pub lanes_open : {L P A : Type 0} → Eyes L P → List (Seen L A) → List (Peer × P)
lanes_open e lanes = map (λ lane. (lane.peer, e.plan lane.link)) lanes

lanes_seated : {L P A S R : Type 0} (e : Eyes L P) (seats : List (Seat L A S P R)) →
    lanes_open e (map (λ seat. seat.lane) seats) ≡ seated e seats
lanes_seated e [] = refl
lanes_seated e (x ∷ xs) = ap (λ ps. (x.lane.peer, e.plan x.lane.link) ∷ ps) (lanes_seated e xs)

-- ---- those that were shut down

no_spills : {L : Type 0} (entries : List (Retired L)) → EachIs IsShutDown entries →
    spill_faults entries ≡ 0
no_spills [] h = refl
no_spills (x ∷ xs) h = rw h.0 (no_spills xs h.1)

no_faults : {L : Type 0} (entries : List (Retired L)) → EachIs IsShutDown entries →
    app_faults entries ≡ 0
no_faults [] h = refl
no_faults (x ∷ xs) h = rw h.0 (no_faults xs h.1)

retired_length : {L P : Type 0} (plan : L → P) (entries : List (Retired L)) →
    length (retired_of plan entries) ≡ length entries
retired_length plan [] = refl
retired_length plan (x ∷ xs) = let h = retired_length plan xs in grind (arith, h)

none_of : {X : Type 0} (xs : List X) → length xs ≡ 0 → xs ≡ []
none_of [] h = refl
none_of (x ∷ xs) h = absurd (grind (arith, h))

longer_same : {X : Type 0} (xs ys zs : List X) → zs ≡ xs ++ ys → zs ≡ xs → ys ≡ []
longer_same xs ys zs are same =
    let n = ap length are in
    let m = ap length same in
    let k = length-append xs ys in
    none_of ys (omega (arith, n, m, k))

added_none : (before more now extra : ℕ) → added before more ≤ now → extra ≡ 0 →
    added before (more + extra) ≤ now
added_none before more now extra h none = let l : more + extra ≡ more =
    omega (arith, none) in subst (λ n. added before n ≤ now) (sym l) h

-- it knows as many as before, where those are counted that were shut down
knows_same : {L P : Type 0} (old new : NetState L P) (count : ℕ) → new.last ≡ old.last →
    new.given ≡ old.given → new.live + count ≡ old.live →
    LastKnows old → LastKnows (record new { live = new.live + count })
knows_same old new count last given live k =
    let a = k.accepted in
    let b = k.open' in
    let g = ap length given in
    record {
      poll = k.poll;
      last = last ∙ k.last;
      accepted = omega (arith, a, g);
      open' = omega (arith, a, b, g, live);
    }

module _ {L P : Type 0} (Last : Retired L → Type 0) (plan : L → P) (who : List (Peer × P))
    (old new : NetState L P) (s : ShutsDown Last plan who old new) where
  shut_many : length who ≡ length s.entries
  shut_many =
      let l = length_permutation who (retired_of plan s.entries) s.same in
      let r = retired_length plan s.entries in
      omega (arith, l, r)

  shut_nobody : who ≡ [] → s.entries ≡ []
  shut_nobody none = none_of s.entries (sym shut_many ∙ ap length none)

  pub shut_time : TimeGoesOn old new
  shut_time = time_same old new (ap (λ n. n.first) s.state) (ap (λ n. n.last) s.state)

  shut_knows : LastKnows old → LastKnows (record new { live = new.live + length s.entries })
  shut_knows = knows_same old new (length s.entries) (ap (λ n. n.last) s.state)
      (ap (λ n. n.given) s.state) s.live

pub nobody_shut : {L P : Type 0} (why' : Why) (limit : Option ℕ) (before : ℕ) (old mid : Books L P)
    (Last : Retired L → Type 0) (plan : L → P) (new : NetState L P)
    (s : ShutsDown Last plan mid.who mid.net new) →
    StepEnds (Some why') limit before old mid → NobodyShut (answer_of why') s.entries
nobody_shut why.Stopped limit before old mid Last plan new s h = tt
nobody_shut why.LimitMet limit before old mid Last plan new s h =
    shut_nobody Last plan mid.who mid.net new s h.2
nobody_shut (why.Failed fault) limit before old mid Last plan new s h = tt

-- ---- a turn that ends serving

module _ {L P : Type 0} (Holds Last : NetState L P → Retired L → Type 0) (plan : L → P)
    (result : Result Going ServeFault) (a b c : Books L P) where
  down_knows : Accounts Holds plan a b → KnowsStill a b →
      (s : ShutsDown (Last c.net) plan b.who b.net c.net) → (a.who ≡ []) ⊎ LastKnows a.net →
      (c.net.closed ≡ a.net.closed) ⊎ LastKnows (record c.net
      { live = c.net.live + length s.entries })
  down_knows x still s known = elim (still.either) [
    | inr later ↦ inr (shut_knows (Last c.net) plan b.who b.net c.net s later)
    | inl same ↦ elim known [
      | inl none ↦ inl (ap (λ n. n.closed) s.state ∙ (ap (λ es. b.net.closed ++ es)
          (shut_nobody (Last c.net) plan b.who b.net c.net s (same.1 ∙ none)) ∙
          (append-nil b.net.closed ∙ same.0)))
      | inr knows ↦ inr (shut_knows (Last c.net) plan b.who b.net c.net s (still.still knows))
    ]
  ]

  -- what a turn did, and then all that were open are shut down
  pub served_down : ((entry : Retired L) → TimeGoesOn b.net c.net → Holds b.net entry →
      Holds c.net entry) →
      Accounts Holds plan a b → KnowsStill a b → (s : ShutsDown (Last c.net) plan b.who b.net c.net)
      → NobodyShut result s.entries →
      c.spills ≡ b.spills → c.fallen ≡ b.fallen → Served result Holds Last plan a c
  served_down later x still s nobody spills fallen =
      let n = shut_many (Last c.net) plan b.who b.net c.net s in
      let time = shut_time (Last c.net) plan b.who b.net c.net s in
      let l = x.live in
      let m = s.live in
      let f = x.fell in
      let g = app_faults_append x.entries s.entries in
      let none = no_faults s.entries s.shut in
      let p = x.polls in
      let q = ap (λ n. n.polls) s.state in
      record {
        before = x.entries;
        after = s.entries;
        closed = ap (λ n. n.closed) s.state ∙ (ap (λ es. es ++ s.entries) x.closed ∙
            append_assoc a.net.closed x.entries s.entries);
        each = each_map (Holds b.net) (Holds c.net) (λ entry h. later entry time h) x.entries
            x.each;
        last = s.each;
        shut = s.shut;
        nobody = nobody;
        since = x.since;
        given = ap (λ n. n.given) s.state ∙ x.given;
        same = subst (λ r. IsPermutation (a.who ++ x.since) r)
            (sym (retired_of_append plan x.entries s.entries))
            (IsPermutation-trans (a.who ++ x.since) (retired_of plan x.entries ++ b.who)
            (retired_of plan x.entries ++ retired_of plan s.entries) x.same
            (IsPermutation-append_right (retired_of plan x.entries) b.who
            (retired_of plan s.entries) s.same));
        live = omega (arith, l, m, n);
        spilled = subst (λ n. added a.spills n ≤ c.spills)
            (sym (spill_faults_append x.entries s.entries))
            (added_none a.spills (spill_faults x.entries) c.spills (spill_faults s.entries)
            (subst (λ n. added a.spills (spill_faults x.entries) ≤ n) (sym spills) x.spilled)
            (no_spills s.entries s.shut));
        fell = omega (arith, f, g, none, fallen);
        bound = ap (λ n. n.bound) s.state ∙ x.bound;
        quiet = ap (λ n. n.quiet) s.state ∙ x.quiet;
        polls = omega (arith, p, q);
        time = time_trans a.net b.net c.net x.time time;
        knows = λ known. down_knows x still s known;
      }

down_ends : {L P : Type 0} (why' : Why) (limit : Option ℕ) (before : ℕ) (old mid new : Books L P) →
    StepEnds (Some why') limit before old mid → new.net ≡ record mid.net
    { closed = new.net.closed; live = new.net.live } →
    ServeEnds (answer_of why') limit before old.net new.net
down_ends why.Stopped limit before old mid new h is = record {
  stopped = subst (λ b. IsTrue b) (sym (ap (λ n. n.stopped) is)) h.stopped;
  polled = subst (λ n. Rose old.net.polls n) (sym (ap (λ n. n.polls) is)) h.polled;
  poll = h.poll;
  last = ap (λ n. n.last) is ∙ h.last;
  told = h.told;
  given = ap (λ n. n.given) is ∙ h.given;
  empty = h.empty;
}
down_ends why.LimitMet limit before old mid new h is = (
  record {
    count = h.0.count;
    limited = h.0.limited;
    met = h.0.met ∙ ap (λ n. before + length n.given) (sym is);
  },
  λ stopped. let e = ap (λ n. n.stopped) is ∙ h.1 in absurd (grind (arith, stopped, e)),
)
down_ends (why.Failed fault) limit before old mid new h is = λ stopped.
    h (subst (λ b. IsTrue b) (ap (λ n. n.stopped) is) stopped)

pub turn_ends : {L P : Type 0} (why' : Why) (answer : Option Why) (result : Result Going ServeFault)
    (limit : Option ℕ) (before : ℕ) (old mid new : Books L P) →
    answer ≡ Some why' → result ≡ answer_of why' → StepEnds answer limit before old mid →
    new.net ≡ record mid.net { closed = new.net.closed; live = new.net.live } →
    ServeEnds result limit before old.net new.net
turn_ends why' answer result limit before old mid new is is' h same =
    subst (λ r. ServeEnds r limit before old.net new.net) (sym is')
    (down_ends why' limit before old mid new (subst (λ w. StepEnds w limit before old mid) is h)
    same)

-- the net after a shut down, but for what was closed and how many are open
pub shut_same : {L P : Type 0} (Last : Retired L → Type 0) (plan : L → P) (who : List (Peer × P))
    (old new : NetState L P) → ShutsDown Last plan who old new →
    new ≡ record old { closed = new.closed; live = new.live }
shut_same {L} {P} Last plan who old new s =
    let f : List (Retired L) → NetState L P = λ cs. record old { closed = cs; live = new.live } in
    s.state ∙ ap f (sym (ap (λ n. n.closed) s.state))

-- ---- turns, one after the other

-- What is told of turns that let serving go on; before and now are how many were accepted.
pub record GoesOn {L P : Type 0} (Holds : NetState L P → Retired L → Type 0) (plan : L → P)
    (limit : Option ℕ) (before now : ℕ) (old new : Books L P) : Type 0 where
  pub accounts : Accounts Holds plan old new
  pub came_more : CameMore limit before now (length old.net.given) (length new.net.given)
  pub unstopped : IsTrue new.net.stopped → IsTrue old.net.stopped
  pub knows : (old.who ≡ []) ⊎ LastKnows old.net → ((new.net.closed ≡ old.net.closed)
      × (new.who ≡ [])) ⊎ LastKnows new.net

came_none : (limit : Option ℕ) (count given : ℕ) → CameMore limit count count given given
came_none None count given = tt
came_none (Some n) count given = refl

came_both : (limit : Option ℕ) (a b c x y z : ℕ) → CameMore limit a b x y → CameMore limit b c y z →
    CameMore limit a c x z
came_both None a b c x y z h k = tt
came_both (Some n) a b c x y z h k = omega (arith, h, k)

rose_since : (first before now : ℕ) → first ≤ before → Rose before now → Rose first now
rose_since first before now less h = omega (arith, less, h)

met_since : (limit : Option ℕ) (first before count x y z : ℕ) → limit ≡ Some count →
    CameMore limit first before x y → y + count ≡ before + z → x + count ≡ first + z
met_since limit first before count x y z is came met =
    let k : CameMore (Some count) first before x y = subst (λ l. CameMore l first before x y) is
    came in
    omega (arith, k, met)

-- nobody was retired, so nobody was shut down
shut_none : {X : Type 0} (olds before after news : List X) → news ≡ olds ++ (before ++ after) →
    news ≡ olds → length after ≡ 0
shut_none olds before after news are same =
    let n = ap length (longer_same olds (before ++ after) news are same) in
    let m = length-append before after in
    omega (arith, n, m)

knows_nobody : {L P : Type 0} (net : NetState L P) (count : ℕ) → count ≡ 0 → LastKnows net →
    LastKnows (record net { live = net.live + count })
knows_nobody net count none k =
    let a = k.open' in
    record {
      poll = k.poll;
      last = k.last;
      accepted = k.accepted;
      open' = omega (arith, a, none);
    }

-- those who were open and came went or stayed, and then all went
open_end : {X : Type 0} (a s r b t q : List X) → IsPermutation (a ++ s) (r ++ b) →
    IsPermutation (b ++ t) q → IsPermutation (a ++ (s ++ t)) (r ++ q)
open_end a s r b t q h k =
    subst (λ z. IsPermutation (a ++ (s ++ t)) z) (append-nil (r ++ q))
    (open_trans a s r b t q [] h (subst (λ z. IsPermutation (b ++ t) z) (sym (append-nil q)) k))

module _ {L P : Type 0} (Holds : NetState L P → Retired L → Type 0) (plan : L → P)
    (limit : Option ℕ) where
  pub goes_none : (count : ℕ) (a : Books L P) → GoesOn Holds plan limit count count a a
  goes_none count a = record {
    accounts = accounts_refl Holds plan a;
    came_more = came_none limit count (length a.net.given);
    unstopped = λ h. h;
    knows = λ known. elim known [
      | inl none ↦ inl (refl, none)
      | inr knows ↦ inr knows
    ];
  }

  pub goes_again : (first before now : ℕ) (a b c : Books L P) →
      ((old new : NetState L P) → TimeGoesOn old new → (entry : Retired L) → Holds old entry →
      Holds new entry) →
      GoesOn Holds plan limit first before a b → Accounts Holds plan b c →
      CameMore limit before now (length b.net.given) (length c.net.given) →
      c.net.stopped ≡ false → LastKnows c.net → GoesOn Holds plan limit first now a c
  goes_again first before now a b c later g accounts came stopped knows = record {
    accounts = accounts_trans Holds plan later a b c g.accounts accounts;
    came_more = came_both limit first before now (length a.net.given) (length b.net.given)
        (length c.net.given) g.came_more came;
    unstopped = λ h. absurd (grind (arith, stopped, h));
    knows = λ _. inr knows;
  }

  module _ (Last : NetState L P → Retired L → Type 0) (result : Result Going ServeFault)
      (first before : ℕ) (a b c : Books L P) (g : GoesOn Holds plan limit first before a b) where
    served_knows : (s : Served result Holds Last plan b c) → (LastKnows b.net → LastKnows c.net) →
        (a.who ≡ []) ⊎ LastKnows a.net →
        (c.net.closed ≡ a.net.closed) ⊎ LastKnows (record c.net
        { live = c.net.live + length s.after })
    served_knows s still known = elim (g.knows known) [
      | inl same ↦ elim (s.knows (inl same.1)) [
        | inl none ↦ inl (none ∙ same.0)
        | inr knows ↦ inr knows
      ]
      | inr knows ↦ elim (s.knows (inr knows)) [
        | inl none ↦ inr (knows_nobody c.net (length s.after)
            (shut_none b.net.closed s.before s.after c.net.closed s.closed none) (still knows))
        | inr later ↦ inr later
      ]
    ]

    -- a turn that ends serving, and those before it
    pub served_then : ((entry : Retired L) → TimeGoesOn b.net c.net → Holds b.net entry →
        Holds c.net entry) →
        Served result Holds Last plan b c → (LastKnows b.net → LastKnows c.net) →
        Served result Holds Last plan a c
    served_then later s still =
        let x = g.accounts in
        let l = x.live in
        let m = s.live in
        let f = x.fell in
        let h = s.fell in
        let n = app_faults_append x.entries (s.before ++ s.after) in
        let p = x.polls in
        let q = s.polls in
        let are : x.entries ++ (s.before ++ s.after) ≡ (x.entries ++ s.before) ++ s.after =
        sym (append_assoc x.entries s.before s.after) in
        record {
          before = x.entries ++ s.before;
          after = s.after;
          closed = s.closed ∙ (ap (λ es. es ++ (s.before ++ s.after)) x.closed ∙
              (append_assoc a.net.closed x.entries (s.before ++ s.after) ∙
              ap (λ es. a.net.closed ++ es) are));
          each = each_append (Holds c.net) x.entries s.before
              (each_map (Holds b.net) (Holds c.net) (λ entry k. later entry s.time k) x.entries
              x.each) s.each;
          last = s.last;
          shut = s.shut;
          nobody = s.nobody;
          since = x.since ++ s.since;
          given = s.given ∙ (ap (λ xs. xs ++ s.since) x.given ∙
              append_assoc a.net.given x.since s.since);
          same = subst (λ r. IsPermutation (a.who ++ (x.since ++ s.since)) (retired_of plan r)) are
              (subst (λ r. IsPermutation (a.who ++ (x.since ++ s.since)) r)
              (sym (retired_of_append plan x.entries (s.before ++ s.after)))
              (open_end a.who x.since (retired_of plan x.entries) b.who s.since
              (retired_of plan (s.before ++ s.after)) x.same s.same));
          live = omega (arith, l, m);
          spilled = subst (λ es. added a.spills (spill_faults es) ≤ c.spills) are
              (spilled_more a.spills b.spills c.spills x.entries (s.before ++ s.after) x.spilled
              s.spilled);
          fell = subst (λ es. c.fallen ≡ a.fallen + app_faults es) are (omega (arith, f, h, n));
          bound = s.bound ∙ x.bound;
          quiet = s.quiet ∙ x.quiet;
          polls = omega (arith, p, q);
          time = time_trans a.net b.net c.net x.time s.time;
          knows = λ known. served_knows s still known;
        }

    then_stops : Stops b.net c.net → Stops a.net c.net
    then_stops h = record {
      stopped = h.stopped;
      polled = rose_since a.net.polls b.net.polls c.net.polls g.accounts.polls h.polled;
      poll = h.poll;
      last = h.last;
      told = h.told;
      given = h.given;
      empty = λ quiet. h.empty (subst (λ b. IsTrue b) (sym g.accounts.quiet) quiet);
    }

    then_met : IsMet limit before b.net c.net → IsMet limit first a.net c.net
    then_met h = record {
      count = h.count;
      limited = h.limited;
      met = met_since limit first before h.count (length a.net.given) (length b.net.given)
          (length c.net.given) h.limited g.came_more h.met;
    }

  pub ends_then : (Last : NetState L P → Retired L → Type 0) (result : Result Going ServeFault)
      (first before : ℕ) (a b c : Books L P) (g : GoesOn Holds plan limit first before a b) →
      ServeEnds result limit before b.net c.net → ServeEnds result limit first a.net c.net
  ends_then Last (Ok going.Stopped) first before a b c g h =
      then_stops Last (Ok going.Stopped) first before a b c g h
  ends_then Last (Ok going.LimitMet) first before a b c g h =
      (then_met Last (Ok going.LimitMet) first before a b c g h.0, λ t. g.unstopped (h.1 t))
  ends_then Last (Ok going.On) first before a b c g h = λ t. g.unstopped (h t)
  ends_then Last (Err fault) first before a b c g h = λ t. g.unstopped (h t)

-- ---- a server

module _ {L P A R : Type 0} (tells : Telling) (script : A → Script) (run_faults : R → ℕ)
    (e : Eyes L P) where
  -- what holds of an entry while serving goes on, and where it ended
  abbrev pub holds_on : Settings → A → NetState L P → Retired L → Type 0
  holds_on settings app = EntryHolds (service_by tells script settings app)
      (going_on (HasBroken run_faults)) e.state e.faults

  abbrev pub holds_down : Settings → A → NetState L P → Retired L → Type 0
  holds_down settings app = EntryHolds (service_by tells script settings app)
      (shutting_down (HasBroken run_faults)) e.state e.faults

  pub turn_down : {S : Type 0} (settings settings' : Settings) (app app' : A) (why' : Why)
      (answer : Option Why) (result : Result Going ServeFault) (limit : Option ℕ) (before now : ℕ)
      (old : Books L P) (mid new : NetState L P)
      (spills spills' fallen fallen' : ℕ) (seats : List (Seat L A S P R)) (who' : List (Peer × P)) →
      answer ≡ Some why' → result ≡ answer_of why' → settings' ≡ settings → app' ≡ app →
      Steps answer (holds_on settings app) e.plan limit before now old
      (books mid spills fallen (lanes_open e (map (λ seat. seat.lane) seats))) →
      ShutsDown (holds_down settings' app' new) e.plan (seated e seats) mid new →
      spills' ≡ spills → fallen' ≡ fallen →
      Served result (holds_on settings app) (holds_down settings app) e.plan old
      (books new spills' fallen' who')
  turn_down settings settings' app app' why' answer result limit before now old mid new spills
      spills' fallen fallen' seats who' is is' same same' steps shuts put kept =
      let b : Books L P = books mid spills fallen (lanes_open e (map (λ seat. seat.lane) seats)) in
      let c : Books L P = books new spills' fallen' who' in
      let Holds : NetState L P → Retired L → Type 0 = holds_on settings app in
      let Last : NetState L P → Retired L → Type 0 = holds_down settings app in
      let s : ShutsDown (Last new) e.plan b.who mid new =
      subst (λ w. ShutsDown (Last new) e.plan w mid new) (sym (lanes_seated e seats))
      (subst (λ x. ShutsDown (holds_down settings x new) e.plan (seated e seats) mid new) same'
      (subst (λ x. ShutsDown (holds_down x app' new) e.plan (seated e seats) mid new) same shuts))
      in
      let ends : StepEnds (Some why') limit before old b =
      subst (λ w. StepEnds w limit before old b) is steps.ends in
      served_down Holds Last e.plan result old b c
      (λ entry t. entry_holds_later (service_by tells script settings app)
      (going_on (HasBroken run_faults)) e.state e.faults mid new t entry)
      steps.accounts steps.knows s
      (subst (λ r. NobodyShut r s.entries) (sym is') (nobody_shut why' limit before old b (Last new)
      e.plan new s ends)) put kept

  module _ (settings settings' : Settings) (app app' : A) (first before : ℕ) (a b c : Books L P)
    where
      pub serve_again : (now : ℕ) → settings' ≡ settings → app' ≡ app →
          GoesOn (holds_on settings app) e.plan settings.serve_limit first before a b →
          Accounts (holds_on settings' app') e.plan b c →
          CameMore settings'.serve_limit before now (length b.net.given) (length c.net.given) →
          c.net.stopped ≡ false → LastKnows c.net →
          GoesOn (holds_on settings app) e.plan settings.serve_limit first now a c
      serve_again now same same' g accounts came stopped knows =
          goes_again (holds_on settings app) e.plan settings.serve_limit first before now a b c
          (entry_holds_later (service_by tells script settings app)
          (going_on (HasBroken run_faults))
          e.state e.faults) g
          (subst (λ x. Accounts (holds_on settings x) e.plan b c) same'
          (subst (λ x. Accounts (holds_on x app') e.plan b c) same accounts))
          (subst (λ x. CameMore x.serve_limit before now (length b.net.given) (length c.net.given))
          same came) stopped knows

      pub serve_ended : (was result : Result Going ServeFault) → was ≡ result →
          settings' ≡ settings →
          app' ≡ app →
          GoesOn (holds_on settings app) e.plan settings.serve_limit first before a b →
          Served was (holds_on settings' app') (holds_down settings' app') e.plan b c →
          (LastKnows b.net → LastKnows c.net) →
          Served result (holds_on settings app) (holds_down settings app) e.plan a c
      serve_ended was result is same same' g served still =
          served_then (holds_on settings app) e.plan settings.serve_limit (holds_down settings app)
          result first before a b c g
          (λ entry t. entry_holds_later (service_by tells script settings app)
          (going_on (HasBroken run_faults)) e.state e.faults b.net c.net t entry)
          (subst (λ r. Served r (holds_on settings app) (holds_down settings app) e.plan b c) is
          (subst (λ x. Served was (holds_on settings x) (holds_down settings x) e.plan b c) same'
          (subst (λ x. Served was (holds_on x app') (holds_down x app') e.plan b c) same served)))
          still

      pub serve_ends : (was result : Result Going ServeFault) → was ≡ result →
          settings' ≡ settings →
          GoesOn (holds_on settings app) e.plan settings.serve_limit first before a b →
          ServeEnds was settings'.serve_limit before b.net c.net →
          ServeEnds result settings.serve_limit first a.net c.net
      serve_ends was result is same g ends =
          ends_then (holds_on settings app) e.plan settings.serve_limit (holds_down settings app)
          result first before a b c g
          (subst (λ r. ServeEnds r settings.serve_limit before b.net c.net) is
          (subst (λ x. ServeEnds was x.serve_limit before b.net c.net) same ends))

pub serve_cause : (was result : Result Going ServeFault) (first before now : ℕ) → was ≡ result →
    before ≡ first → ServeCause was before now → ServeCause result first now
serve_cause was result first before now is same h = subst (λ r. ServeCause r first now) is
    (subst (λ n. ServeCause was n now) same h)
