-- Retiring one connection, and all that are over.
use Rattle.std.proofs.Common.{◌≡◌, ◌≤◌, ◌<◌, ◌+◌, ◌-◌, ◌⊎◌, ℕ, Bool, true, false, IsTrue, List, []}
use Rattle.std.proofs.Common.{◌∷◌, ◌++◌, Option, None, Some, refl, ap, sym, subst, ◌∙◌, arith, cond}
use Rattle.std.proofs.Common.{length, max, min, inl, inr, append_assoc, append-nil, length-append}
use Rattle.std.specs.Prelude.{filter}
use Rattle.std.specs.List.{All}
use Rattle.std.proofs.lemmas.List.{map-append}
use Rattle.std.proofs.lemmas.List.Elements.{All-push, filter-append}
use Rattle.std.specs.List.Sorted.{IsPermutation}
use Rattle.std.proofs.lemmas.List.Sorted.{IsPermutation-append, IsPermutation-append_comm}
use Rattle.std.proofs.lemmas.List.Sorted.{IsPermutation-append_left, IsPermutation-append_right}
use Rattle.std.proofs.lemmas.List.Sorted.{IsPermutation-refl, IsPermutation-trans}
use Rattle.channel.specs.Views.{Counted, Counts, EndsBy, Rest, Telling}
use Rattle.channel.specs.Output.{IsPrefix, Script}
use Rattle.channel.specs.Owed.{owed_by}
use Rattle.channel.specs.declared.shared.Fixed.{Fixed}
use Rattle.outside.specs.Causes.{added}
use Rattle.outside.specs.Link.{LinkState}
use Rattle.outside.specs.Net.{NetState, last_moment}
use Rattle.outside.specs.declared.retired.Retired.{Retired}
use Rattle.outside.specs.declared.types.End.{End}
use Rattle.outside.specs.declared.types.End.TheVariants as over
use Rattle.outside.specs.declared.types.Peer.{Peer}
use Rattle.poll_loop.specs.Accounts.{Accounts, TimeGoesOn, books, retired_of}
use Rattle.poll_loop.specs.Connections.{HasBroken, going_on, service_by}
use Rattle.poll_loop.specs.Entries.{EntryHolds, IsTimely, app_faults, is_app_fault, is_spill_fault}
use Rattle.poll_loop.specs.Entries.{spill_faults}
use Rattle.poll_loop.specs.Retiring.{Keeps, PutsRun, Settles}
use Rattle.poll_loop.specs.Seat.{BearsMoment}
use Rattle.poll_loop.specs.Settings.{fixed_by}
use Rattle.poll_loop.specs.declared.settings.Settings.{Settings}
use Rattle.poll_loop.proofs.Entries.{app_one, closed_entry, each_append, each_by, spill_one}
use Rattle.poll_loop.proofs.Entries.{rest_of, timely_goes_on}

-- ---- counts of spills

more_added : (cap count m n : ℕ) → m ≤ n → max count (min (count + m) cap) ≤ max count
    (min (count + n) cap)
more_added cap count m n h = omega (arith, h)

no_less : (cap count m : ℕ) → count ≤ max count (min (count + m) cap)
no_less cap count m = omega arith

none_more : (cap count : ℕ) → max count (min (count + 0) cap) ≡ count
none_more cap count = omega arith

more_later : (cap old mid m : ℕ) → old ≤ mid → max old (min (old + m) cap) ≤ max mid
    (min (mid + m) cap)
more_later cap old mid m h = omega (arith, h)

settles_up : {T : Type 0} (faults : T → ℕ) (x : Option T) (old new : ℕ) → Settles faults x old new →
    old ≤ new
settles_up faults None old new e = omega (arith, e)
settles_up faults (Some x) old new e = subst (λ n. old ≤ n) (sym e) (no_less _ old (faults x))

settles_one : {T : Type 0} (faults : T → ℕ) (x : Option T) (old new : ℕ) → Counted faults x →
    Settles faults x old new → added old 1 ≤ new
settles_one faults None old new k e = absurd k
settles_one faults (Some x) old new k e = subst (λ n. added old 1 ≤ n) (sym e)
    (more_added _ old 1 (faults x) k)

puts_up : {R : Type 0} (b : Bool) (faults : R → ℕ) (run : Option R) (olds news : List R)
    (old new : ℕ) → PutsRun b faults run olds news old new → old ≤ new
puts_up true faults run olds news old new h = let e = h.1 in omega (arith, e)
puts_up false faults run olds news old new h = settles_up faults run old new h.1

none_added : (old new : ℕ) → old ≤ new → added old 0 ≤ new
none_added old new h = subst (λ n. n ≤ new) (sym (none_more _ old)) h

spill_settled : {R S : Type 0} (counts : Counts R S) (broken : Option S) (fallen : Option R)
    (olds news : List R) (old mid new : ℕ) →
    Counted counts.spill broken ⊎ Counted counts.body fallen → Settles counts.spill broken old mid →
    PutsRun false counts.body fallen olds news mid new → added old 1 ≤ new
spill_settled counts broken fallen olds news old mid new (inl k) s p =
    let a = settles_one counts.spill broken old mid k s in
    let b = puts_up false counts.body fallen olds news mid new p in
    omega (arith, a, b)
spill_settled counts broken fallen olds news old mid new (inr k) s p =
    let a : added old 1 ≤ added mid 1 = more_later _ old mid 1
    (settles_up counts.spill broken old mid s) in
    let b = settles_one counts.body fallen mid new k p.1 in
    omega (arith, a, b)

pub settled_up : {R S : Type 0} (counts : Counts R S) (b : Bool) (broken : Option S)
    (fallen : Option R) (olds news : List R) (old mid new : ℕ) →
    Settles counts.spill broken old mid → PutsRun b counts.body fallen olds news mid new → old ≤ new
settled_up counts b broken fallen olds news old mid new s p =
    let a = settles_up counts.spill broken old mid s in
    let c = puts_up b counts.body fallen olds news mid new p in
    omega (arith, a, c)

pub settled_by : {R S : Type 0} (tells : Telling) (counts : Counts R S) (timeout : ℕ)
    (rest : Rest R S) (end : End) (olds news : List R) (old mid new : ℕ) →
    EndsBy tells counts timeout rest end → Settles counts.spill rest.broken old mid →
    PutsRun (is_app_fault end) counts.body rest.fallen olds news mid new →
    added old (cond (is_spill_fault end) 1 0) ≤ new
settled_by tells counts timeout rest over.Done olds news old mid new e s p =
    none_added old new (settled_up counts false rest.broken rest.fallen olds news old mid new s p)
settled_by tells counts timeout rest over.LinkFault olds news old mid new e s p =
    none_added old new (settled_up counts false rest.broken rest.fallen olds news old mid new s p)
settled_by tells counts timeout rest over.SpillFault olds news old mid new e s p =
    spill_settled counts rest.broken rest.fallen olds news old mid new e s p
settled_by tells counts timeout rest over.AppFault olds news old mid new e s p =
    none_added old new (settled_up counts true rest.broken rest.fallen olds news old mid new s p)
settled_by tells counts timeout rest over.NoMemory olds news old mid new e s p =
    none_added old new (settled_up counts false rest.broken rest.fallen olds news old mid new s p)
settled_by tells counts timeout rest (over.TimedOut touched now) olds news old mid new e s p =
    none_added old new (settled_up counts false rest.broken rest.fallen olds news old mid new s p)
settled_by tells counts timeout rest over.ShutDown olds news old mid new e s p = absurd e

-- ---- runs that are kept

keeps_one : {R : Type 0} (faults : R → ℕ) (run : Option R) (olds news : List R) →
    Counted faults run → Keeps run olds news → length news ≡ length olds + 1
keeps_one faults None olds news k e = absurd k
keeps_one faults (Some run) olds news k e =
    let a = ap length e in
    let b = length-append olds (run ∷ []) in
    let one : length (run ∷ []) ≡ 1 = refl in
    omega (arith, a, b, one)

keeps_broken : {R : Type 0} (faults : R → ℕ) (run : Option R) (olds news : List R) →
    Counted faults run → Keeps run olds news →
    All (λ r. 0 < faults r) olds → All (λ r. 0 < faults r) news
keeps_broken faults None olds news k e all = absurd k
keeps_broken faults (Some run) olds news k e all = subst (λ xs. All (λ r. 0 < faults r) xs) (sym e)
    (All-push (λ r. 0 < faults r) olds run all k)

fell_none : {R : Type 0} (olds news : List R) → news ≡ olds → length news ≡ length olds + 0
fell_none olds news e = let a = ap length e in omega (arith, a)

pub fell_by : {R S : Type 0} (tells : Telling) (counts : Counts R S) (timeout : ℕ) (rest : Rest R S)
    (end : End) (olds news : List R) (mid new : ℕ) →
    EndsBy tells counts timeout rest end → PutsRun (is_app_fault end) counts.body rest.fallen olds
    news mid new →
    length news ≡ length olds + cond (is_app_fault end) 1 0
fell_by tells counts timeout rest over.Done olds news mid new e p = fell_none olds news p.0
fell_by tells counts timeout rest over.LinkFault olds news mid new e p = fell_none olds news p.0
fell_by tells counts timeout rest over.SpillFault olds news mid new e p = fell_none olds news p.0
fell_by tells counts timeout rest over.AppFault olds news mid new e p =
    keeps_one counts.run rest.fallen olds news e p.0
fell_by tells counts timeout rest over.NoMemory olds news mid new e p = fell_none olds news p.0
fell_by tells counts timeout rest (over.TimedOut touched now) olds news mid new e p =
    fell_none olds news p.0
fell_by tells counts timeout rest over.ShutDown olds news mid new e p = absurd e

same_broken : {R : Type 0} (faults : R → ℕ) (olds news : List R) → news ≡ olds →
    All (λ r. 0 < faults r) olds → All (λ r. 0 < faults r) news
same_broken faults olds news e all = subst (λ xs. All (λ r. 0 < faults r) xs) (sym e) all

pub broke_by : {R S : Type 0} (tells : Telling) (counts : Counts R S) (timeout : ℕ)
    (rest : Rest R S) (end : End) (olds news : List R) (mid new : ℕ) →
    EndsBy tells counts timeout rest end → PutsRun (is_app_fault end) counts.body rest.fallen olds
    news mid new →
    All (λ r. 0 < counts.run r) olds → All (λ r. 0 < counts.run r) news
broke_by tells counts timeout rest over.Done olds news mid new e p all =
    same_broken counts.run olds news p.0 all
broke_by tells counts timeout rest over.LinkFault olds news mid new e p all =
    same_broken counts.run olds news p.0 all
broke_by tells counts timeout rest over.SpillFault olds news mid new e p all =
    same_broken counts.run olds news p.0 all
broke_by tells counts timeout rest over.AppFault olds news mid new e p all =
    keeps_broken counts.run rest.fallen olds news e p.0 all
broke_by tells counts timeout rest over.NoMemory olds news mid new e p all =
    same_broken counts.run olds news p.0 all
broke_by tells counts timeout rest (over.TimedOut touched now) olds news mid new e p all =
    same_broken counts.run olds news p.0 all
broke_by tells counts timeout rest over.ShutDown olds news mid new e p all = absurd e

pub few_more : (b : Bool) (old new : ℕ) → new ≡ old + cond b 1 0 → new ≤ old + 1
few_more true old new e = omega (arith, e)
few_more false old new e = omega (arith, e)

-- ---- the accounts of one

pub one_goes_on : {L P : Type 0} (old new : NetState L P) (entry : Retired L) →
    new ≡ record old { closed = old.closed ++ entry ∷ []; live = old.live - 1 } → TimeGoesOn old new
one_goes_on old new entry is = record {
  first = λ moment e. ap (λ n. n.first) is ∙ e;
  later = let e = ap (λ n. last_moment n.last) is in omega (arith, e);
}

module _ {L P : Type 0} (Holds : NetState L P → Retired L → Type 0) (plan : L → P)
    (old new : NetState L P) (entry : Retired L) where
  pub one_accounts : (spills spills' fallen fallen' : ℕ) (peer : Peer) (p : P) →
      new ≡ record old { closed = old.closed ++ entry ∷ []; live = old.live - 1 } → 1 ≤ old.live →
      Holds new entry →
      entry.peer ≡ peer → plan entry.link ≡ p →
      added spills (cond (is_spill_fault entry.end) 1 0) ≤ spills' →
      fallen' ≡ fallen + cond (is_app_fault entry.end) 1 0 →
      Accounts Holds plan (books old spills fallen ((peer, p) ∷ [])) (books new spills' fallen' [])
  one_accounts spills spills' fallen fallen' peer p is some holds peer_is plan_is spilled fell =
      record {
        entries = entry ∷ [];
        closed = ap (λ n. n.closed) is;
        each = (holds, tt);
        since = [];
        given = ap (λ n. n.given) is ∙ sym (append-nil old.given);
        same = subst (λ (q : List (Peer × P)). IsPermutation q ((entry.peer, plan entry.link) ∷ []))
            (ap (λ (q : Peer). (q, plan entry.link) ∷ []) peer_is ∙
            ap (λ (q : P). (peer, q) ∷ []) plan_is)
            (IsPermutation-refl ((entry.peer, plan entry.link) ∷ []));
        live = let e = ap (λ n. n.live) is in omega (arith, e, some);
        spilled = subst (λ n. added spills n ≤ spills') (sym (spill_one entry)) spilled;
        fell = subst (λ n. fallen' ≡ fallen + n) (sym (app_one entry)) fell;
        bound = ap (λ n. n.bound) is;
        quiet = ap (λ n. n.quiet) is;
        polls = let e = ap (λ n. n.polls) is in omega (arith, e);
        time = one_goes_on old new entry is;
      }

-- the same of a channel that was closed
module _ {L P A R S : Type 0} (tells : Telling) (script : A → Script) (settings : Settings)
    (app : A) (counts : Counts R S)
    (state : L → LinkState) (faults : L → ℕ) (plan : L → P) (old new : NetState L P)
    (fixed : Fixed A) (was link : L) (who peer : Peer) (end : End)
    (broken : Option S) (fallen : Option R) (olds news : List R) (spills mid spills' : ℕ) where
  pub closed_accounts : new ≡ record old {
    closed = old.closed ++ record
        { peer = peer; link = link; end = end } ∷ [];
    live = old.live - 1;
  } → 1 ≤ old.live →
      link ≡ was → peer ≡ who → fixed ≡ fixed_by settings app who →
      (IsTrue tells.all → IsPrefix (state link).sent (owed_by script fixed
      (state link).arrivals).output) →
      EndsBy tells counts fixed.window.timeout
      (rest_of script state faults fixed link broken fallen) end →
      (IsTrue tells.link → IsTimely old (state was)) → BearsMoment (last_moment old.last) end →
      Settles counts.spill broken spills mid → PutsRun (is_app_fault end) counts.body fallen olds
      news mid spills' →
      Accounts (EntryHolds (service_by tells script settings app) (going_on (HasBroken counts.run))
      state faults) plan
      (books old spills (length olds) ((who, plan was) ∷ [])) (books new spills' (length news) [])
  closed_accounts is some link_is peer_is by sent ends timely bears settles puts =
      let entry : Retired L = record { peer = peer; link = link; end = end } in
      let rest : Rest R S = rest_of script state faults fixed link broken fallen in
      one_accounts (EntryHolds (service_by tells script settings app)
      (going_on (HasBroken counts.run)) state faults) plan old new entry
      spills spills' (length olds) (length news) who (plan was) is some
      (closed_entry tells script settings app counts state faults new fixed link peer end broken
      fallen
      (by ∙ ap (λ p. fixed_by settings app p) (sym peer_is)) sent ends
      (λ t. timely_goes_on old new (state link) (one_goes_on old new entry is)
      (subst (λ l. IsTimely old (state l)) (sym link_is) (timely t)))
      (subst (λ n. BearsMoment (last_moment n.last) end) (sym is) bears))
      peer_is (ap plan link_is)
      (settled_by tells counts fixed.window.timeout rest end olds news spills mid spills' ends
      settles puts)
      (fell_by tells counts fixed.window.timeout rest end olds news mid spills' ends puts)

-- ---- the accounts of some, and then of others

spills_of : {L : Type 0} (xs ys : List (Retired L)) → spill_faults (xs ++ ys) ≡ spill_faults xs
    + spill_faults ys
spills_of xs ys = ap length (filter-append (λ e. is_spill_fault e.end) xs ys) ∙
    length-append (filter (λ e. is_spill_fault e.end) xs) (filter (λ e. is_spill_fault e.end) ys)

apps_of : {L : Type 0} (xs ys : List (Retired L)) → app_faults (xs ++ ys) ≡ app_faults xs
    + app_faults ys
apps_of xs ys = ap length (filter-append (λ e. is_app_fault e.end) xs ys) ∙
    length-append (filter (λ e. is_app_fault e.end) xs) (filter (λ e. is_app_fault e.end) ys)

added_twice : (cap a b c m n : ℕ) → max a (min (a + m) cap) ≤ b → max b (min (b + n) cap) ≤ c →
    max a (min (a + (m + n)) cap) ≤ c
added_twice cap a b c m n h k = omega (arith, h, k)

crossed : {X : Type 0} (a b c d : List X) → IsPermutation ((a ++ b) ++ (c ++ d))
    ((a ++ c) ++ (b ++ d))
crossed a b c d =
    let left : (a ++ b) ++ (c ++ d) ≡ a ++ ((b ++ c) ++ d) = append_assoc a b (c ++ d) ∙
    ap (λ r. a ++ r) (sym (append_assoc b c d)) in
    let right : (a ++ c) ++ (b ++ d) ≡ a ++ ((c ++ b) ++ d) = append_assoc a c (b ++ d) ∙
    ap (λ r. a ++ r) (sym (append_assoc c b d)) in
    subst (λ xs. IsPermutation xs ((a ++ c) ++ (b ++ d))) (sym left)
    (subst (λ xs. IsPermutation (a ++ ((b ++ c) ++ d)) xs) (sym right)
    (IsPermutation-append_right a ((b ++ c) ++ d) ((c ++ b) ++ d)
    (IsPermutation-append_left d (b ++ c) (c ++ b) (IsPermutation-append_comm b c))))

joined : {X : Type 0} (w v s t a b w' v' : List X) → IsPermutation (w ++ s) (a ++ w') →
    IsPermutation (v ++ t) (b ++ v') →
    IsPermutation ((w ++ v) ++ (s ++ t)) ((a ++ b) ++ (w' ++ v'))
joined w v s t a b w' v' h k =
    IsPermutation-trans _ _ _ (crossed w v s t) (IsPermutation-trans _ _ _
    (IsPermutation-append (w ++ s) (a ++ w') (v ++ t) (b ++ v') h k) (crossed a w' b v'))

pub time_trans : {L P : Type 0} (a b c : NetState L P) → TimeGoesOn a b → TimeGoesOn b c →
    TimeGoesOn a c
time_trans a b c t u = record {
  first = λ moment e. u.first moment (t.first moment e);
  later = let x = t.later in let y = u.later in omega (arith, x, y);
}

module _ {L P : Type 0} (Holds : NetState L P → Retired L → Type 0) (plan : L → P) where
  pub accounts_none : (net : NetState L P) (spills fallen : ℕ) (who : List (Peer × P)) →
      Accounts Holds plan (books net spills fallen who) (books net spills fallen who)
  accounts_none net spills fallen who = record {
    entries = [];
    closed = sym (append-nil net.closed);
    each = tt;
    since = [];
    given = sym (append-nil net.given);
    same = subst (λ xs. IsPermutation xs who) (sym (append-nil who)) (IsPermutation-refl who);
    live = refl;
    spilled = none_added spills spills (omega arith);
    fell = omega arith;
    bound = refl;
    quiet = refl;
    polls = omega arith;
    time = record { first = λ moment e. e; later = omega arith };
  }

  module _ (a b c : NetState L P) (spills spills' spills'' fallen fallen' fallen'' : ℕ)
      (w v w' v' : List (Peer × P)) where
    pub accounts_join : ((entry : Retired L) → TimeGoesOn b c → Holds b entry → Holds c entry) →
        Accounts Holds plan (books a spills fallen w) (books b spills' fallen' w') →
        Accounts Holds plan (books b spills' fallen' v) (books c spills'' fallen'' v') →
        Accounts Holds plan (books a spills fallen (w ++ v)) (books c spills'' fallen'' (w' ++ v'))
    accounts_join goes x y = record {
      entries = x.entries ++ y.entries;
      closed = y.closed ∙ (ap (λ es. es ++ y.entries) x.closed ∙
          append_assoc a.closed x.entries y.entries);
      each = each_append (Holds c) x.entries y.entries (each_by (Holds b) (Holds c)
          (λ e h. goes e y.time h) x.entries x.each) y.each;
      since = x.since ++ y.since;
      given = y.given ∙ (ap (λ es. es ++ y.since) x.given ∙ append_assoc a.given x.since y.since);
      same = subst (λ r. IsPermutation ((w ++ v) ++ (x.since ++ y.since)) (r ++ (w' ++ v')))
          (sym (map-append (λ e. (e.peer, plan e.link)) x.entries y.entries))
          (joined w v x.since y.since (retired_of plan x.entries) (retired_of plan y.entries) w' v'
          x.same y.same);
      live = let l = x.live in let m = y.live in let n = length-append w v in let k =
          length-append w' v' in omega (arith, l, m, n, k);
      spilled = subst (λ n. added spills n ≤ spills'') (sym (spills_of x.entries y.entries))
          (added_twice _ spills spills' spills'' (spill_faults x.entries) (spill_faults y.entries)
          x.spilled y.spilled);
      fell = let l = x.fell in let m = y.fell in let n =
          apps_of x.entries y.entries in omega (arith, l, m, n);
      bound = y.bound ∙ x.bound;
      quiet = y.quiet ∙ x.quiet;
      polls = let l = x.polls in let m = y.polls in omega (arith, l, m);
      time = time_trans a b c x.time y.time;
    }
