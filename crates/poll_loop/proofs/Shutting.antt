-- Shutting down those that are open, one after the other.
use Rattle.std.proofs.Common.{◌≡◌, ◌≤◌, ◌<◌, ◌+◌, ◌-◌, ℕ, Bool, IsTrue, List, [], ◌∷◌, ◌++◌, refl}
use Rattle.std.proofs.Common.{ap, sym, subst, ◌∙◌, arith, length, append_assoc, append-nil}
use Rattle.std.proofs.Common.{length-append, slice_index_or}
use Rattle.std.specs.Prelude.{remove}
use Rattle.std.proofs.lemmas.List.{map-append}
use Rattle.std.specs.List.Sorted.{IsPermutation}
use Rattle.std.proofs.lemmas.List.Sorted.{IsPermutation-append, IsPermutation-refl}
use Rattle.std.proofs.lemmas.List.Sorted.{length_permutation}
use Rattle.channel.specs.Output.{IsPrefix, Script}
use Rattle.channel.specs.Owed.{owed_by}
use Rattle.channel.specs.Views.{Telling}
use Rattle.channel.specs.declared.shared.Fixed.{Fixed}
use Rattle.outside.specs.Link.{LinkState}
use Rattle.outside.specs.Net.{NetState, last_moment}
use Rattle.outside.specs.declared.retired.Retired.{Retired}
use Rattle.outside.specs.declared.types.End.TheVariants as over
use Rattle.outside.specs.declared.types.Peer.{Peer}
use Rattle.poll_loop.specs.Accounts.{IsShutDown, TimeGoesOn, retired_of}
use Rattle.poll_loop.specs.Connections.{HasBroken, SeatIsTimely, ShutsDown, seated, service_by}
use Rattle.poll_loop.specs.Connections.{shutting_down}
use Rattle.poll_loop.specs.Entries.{EntryHolds, IsTimely}
use Rattle.poll_loop.specs.Lists.{EachIs}
use Rattle.poll_loop.specs.Seat.{Eyes}
use Rattle.poll_loop.specs.Settings.{fixed_by}
use Rattle.poll_loop.specs.declared.seat.Seat.{Seat}
use Rattle.poll_loop.specs.declared.settings.Settings.{Settings}
use Rattle.poll_loop.proofs.Entries.{each_append, each_back, each_by, shut_entry, timely_goes_on}
use Rattle.poll_loop.proofs.Retired.{one_goes_on}
use Rattle.poll_loop.proofs.Sifting.{seated_length}

-- ---- one

shuts_one : {L P : Type 0} (Holds : Retired L → Type 0) (plan : L → P) (old new : NetState L P)
    (entry : Retired L) (peer : Peer) (p : P) →
    new ≡ record old { closed = old.closed ++ entry ∷ []; live = old.live - 1 } → 1 ≤ old.live →
    Holds entry → IsShutDown entry →
    entry.peer ≡ peer → plan entry.link ≡ p → ShutsDown Holds plan ((peer, p) ∷ []) old new
shuts_one {L} {P} Holds plan old new entry peer p is some holds shut peer_is plan_is =
    let live = ap (λ n. n.live) is in
    let f : ℕ → NetState L P = λ m. record old { closed = old.closed ++ entry ∷ []; live = m } in
    record {
      entries = entry ∷ [];
      state = is ∙ ap f (sym live);
      each = (holds, tt);
      shut = (shut, tt);
      same = subst (λ (q : List (Peer × P)). IsPermutation q ((entry.peer, plan entry.link) ∷ []))
          (ap (λ (q : Peer). (q, plan entry.link) ∷ []) peer_is ∙
          ap (λ (q : P). (peer, q) ∷ []) plan_is)
          (IsPermutation-refl ((entry.peer, plan entry.link) ∷ []));
      live = let one : length (entry ∷ []) ≡ 1 = refl in omega (arith, live, some, one);
    }

module _ {L P A R : Type 0} (tells : Telling) (script : A → Script) (settings : Settings) (app : A)
    (run_faults : R → ℕ)
    (state : L → LinkState) (faults : L → ℕ) (plan : L → P) (old new : NetState L P)
    (fixed : Fixed A) (was link : L) (who peer : Peer) where
  pub closed_shuts : new ≡ record old {
    closed = old.closed ++ record
        { peer = peer; link = link; end = over.ShutDown } ∷ [];
    live = old.live - 1;
  } → 1 ≤ old.live →
      link ≡ was → peer ≡ who → fixed ≡ fixed_by settings app who →
      (IsTrue tells.all → IsPrefix (state link).sent (owed_by script fixed
      (state link).arrivals).output) →
      (IsTrue tells.link → IsTimely old (state was)) →
      ShutsDown (EntryHolds (service_by tells script settings app)
      (shutting_down (HasBroken run_faults)) state faults new) plan ((who, plan was) ∷ []) old
      new
  closed_shuts is some link_is peer_is by sent timely =
      let entry : Retired L = record { peer = peer; link = link; end = over.ShutDown } in
      shuts_one (EntryHolds (service_by tells script settings app)
      (shutting_down (HasBroken run_faults)) state faults new) plan old new entry who (plan was)
      is some
      (shut_entry tells script settings app run_faults state faults new fixed link peer
      (by ∙ ap (λ p. fixed_by settings app p) (sym peer_is)) sent
      (λ t. timely_goes_on old new (state link) (one_goes_on old new entry is)
      (subst (λ l. IsTimely old (state l)) (sym link_is) (timely t))))
      refl peer_is (ap plan link_is)

-- ---- some, and then others

module _ {L P : Type 0} (Holds : NetState L P → Retired L → Type 0) (plan : L → P) where
  shuts_none : (net : NetState L P) → ShutsDown (Holds net) plan [] net net
  shuts_none net =
      let f : List (Retired L) → NetState L P = λ cs. record net { closed = cs } in
      record {
        entries = [];
        state = ap f (sym (append-nil net.closed));
        each = tt;
        shut = tt;
        same = IsPermutation-refl [];
        live = let none : length {A = Retired L} [] ≡ 0 = refl in omega (arith, none);
      }

  shuts_time : (a b : NetState L P) (w : List (Peer × P)) → ShutsDown (Holds b) plan w a b →
      TimeGoesOn a b
  shuts_time a b w x = record {
    first = λ moment e. ap (λ n. n.first) x.state ∙ e;
    later = let e = ap (λ n. last_moment n.last) x.state in omega (arith, e);
  }

  module _ (a b c : NetState L P) (w v : List (Peer × P)) where
    shuts_join : ((entry : Retired L) → Holds b entry → Holds c entry) →
        ShutsDown (Holds b) plan w a b → ShutsDown (Holds c) plan v b c →
        ShutsDown (Holds c) plan (w ++ v) a c
    shuts_join goes x y =
        let f : NetState L P → NetState L P = λ n. record n
        { closed = b.closed ++ y.entries; live = c.live } in
        let g : List (Retired L) → NetState L P = λ cs. record a { closed = cs; live = c.live } in
        record {
          entries = x.entries ++ y.entries;
          state = y.state ∙ (ap f x.state ∙ ap g (ap (λ es. es ++ y.entries)
              (ap (λ n. n.closed) x.state) ∙ append_assoc a.closed x.entries y.entries));
          each = each_append (Holds c) x.entries y.entries
              (each_by (Holds b) (Holds c) goes x.entries x.each) y.each;
          shut = each_append IsShutDown x.entries y.entries x.shut y.shut;
          same = subst (λ r. IsPermutation (w ++ v) r) (sym
              (map-append (λ e. (e.peer, plan e.link)) x.entries y.entries))
              (IsPermutation-append w (retired_of plan x.entries) v (retired_of plan y.entries)
              x.same y.same);
          live = let l = x.live in let m = y.live in let n =
              length-append x.entries y.entries in omega (arith, l, m, n);
        }

retired_length : {L P : Type 0} (plan : L → P) (entries : List (Retired L)) →
    length (retired_of plan entries) ≡ length entries
retired_length plan [] = refl
retired_length plan (x ∷ xs) = let h = retired_length plan xs in grind (arith, h)

pub taken_first : {X : Type 0} (nows left : List X) (taken : X) → 0 < length nows →
    taken ≡ slice_index_or nows 0 taken → left ≡ remove nows 0 → nows ≡ taken ∷ left
taken_first [] left taken some is was = absurd (grind (arith, some))
taken_first (x ∷ xs) left taken some is was = cc

-- ---- the loop

-- those that were looked at are shut down
pub record Shuts {L P A S R : Type 0} (tells : Bool) (e : Eyes L P)
    (Holds : NetState L P → Retired L → Type 0)
    (olds left : List (Seat L A S P R)) (old new : NetState L P) : Type 0 where
  pub looked : List (Seat L A S P R)
  pub were : olds ≡ looked ++ left
  pub shuts : IsTrue tells → ShutsDown (Holds new) e.plan (seated e looked) old new

module _ {L P A S R : Type 0} (tells : Bool) (e : Eyes L P)
    (Holds : NetState L P → Retired L → Type 0) (olds : List (Seat L A S P R)) (old : NetState L P)
  where
    pub shut_none : Shuts tells e Holds olds olds old old
    shut_none = record {
      looked = [];
      were = refl;
      shuts = λ _. shuts_none Holds e.plan old;
    }

    module _ (nows rest : List (Seat L A S P R)) (seat : Seat L A S P R) (new : NetState L P)
        (s : Shuts tells e Holds olds nows old new) (is : nows ≡ seat ∷ rest) where
      were_next : olds ≡ s.looked ++ seat ∷ rest
      were_next = s.were ∙ ap (λ r. s.looked ++ r) is

      pub of_next : (Q : Seat L A S P R → Type 0) → EachIs Q olds → Q seat
      of_next Q h = (each_back Q s.looked (seat ∷ rest) (subst (λ xs. EachIs Q xs) were_next h)).0

      -- one is open at least
      pub next_open : length olds ≤ old.live → IsTrue tells → 1 ≤ new.live
      next_open few t =
          let l = (s.shuts t).live in
          let n = ap length were_next in
          let m = length-append s.looked (seat ∷ rest) in
          let one : length (seat ∷ rest) ≡ length rest + 1 = grind (arith) in
          let k = length_permutation (seated e s.looked) (retired_of e.plan (s.shuts t).entries)
          (s.shuts t).same in
          let a = seated_length e s.looked in
          let b = retired_length e.plan (s.shuts t).entries in
          omega (arith, l, n, m, one, few, k, a, b)

      pub next_timely : EachIs (SeatIsTimely e old) olds → IsTrue tells → IsTrue e.tells →
          IsTimely new (e.state seat.lane.link)
      next_timely h t link = timely_goes_on old new (e.state seat.lane.link)
          (shuts_time Holds e.plan old new (seated e s.looked) (s.shuts t))
          (of_next (SeatIsTimely e old) h link)

      pub next_fewer : length rest + 1 ≡ length nows
      next_fewer =
          let n = ap length is in
          let one : length (seat ∷ rest) ≡ length rest + 1 = grind (arith) in
          omega (arith, n, one)

      pub shut_next : (after : NetState L P) → ((entry : Retired L) → TimeGoesOn new after →
          Holds new entry → Holds after entry) →
          (IsTrue tells → ShutsDown (Holds after) e.plan ((seat.lane.peer, e.plan seat.lane.link) ∷
          []) new after) → Shuts tells e Holds olds rest old after
      shut_next after goes one = record {
        looked = s.looked ++ seat ∷ [];
        were = were_next ∙ sym (append_assoc s.looked (seat ∷ []) rest);
        shuts = λ t.
            let who : List (Peer × P) = (seat.lane.peer, e.plan seat.lane.link) ∷ [] in
            let time = shuts_time Holds e.plan new after who (one t) in
            subst (λ xs. ShutsDown (Holds after) e.plan xs old after)
            (sym (map-append (λ (x : Seat L A S P R). (x.lane.peer, e.plan x.lane.link)) s.looked
            (seat ∷ [])))
            (shuts_join Holds e.plan old new after (seated e s.looked) who
            (λ entry h. goes entry time h) (s.shuts t) (one t));
      }
