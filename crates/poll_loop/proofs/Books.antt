-- What is known of a net and of those who are open, from one moment to a later one.
use Rattle.std.proofs.Common.{◌≡◌, ◌≤◌, ◌+◌, ℕ, List, [], ◌∷◌, ◌++◌, length, refl, ap, sym, subst}
use Rattle.std.proofs.Common.{◌∙◌, arith, append_assoc, append-nil, length-append}
use Rattle.std.specs.Prelude.{IsPermutation, filter}
use Rattle.std.proofs.lemmas.List.{map-append}
use Rattle.std.proofs.lemmas.List.Elements.{filter-append}
use Rattle.std.proofs.lemmas.List.Sorted.{IsPermutation-append_left, IsPermutation-append_right}
use Rattle.std.proofs.lemmas.List.Sorted.{IsPermutation-refl, IsPermutation-trans}
use Rattle.channel.specs.Views.{Owed}
use Rattle.outside.specs.Causes.{added}
use Rattle.outside.specs.Link.{LinkState}
use Rattle.outside.specs.Net.{NetState, last_moment}
use Rattle.outside.specs.declared.retired.Retired.{Retired}
use Rattle.outside.specs.declared.types.End.{End}
use Rattle.outside.specs.declared.types.End.TheVariants as over
use Rattle.outside.specs.declared.types.Peer.{Peer}
use Rattle.poll_loop.specs.Accounts.{Accounts, Books, TimeGoesOn, retired_of}
use Rattle.poll_loop.specs.Entries.{EndHolds, EntryHolds, Grounds, IsTimely, IsWithin, Service}
use Rattle.poll_loop.specs.Entries.{app_faults, is_app_fault, is_spill_fault, spill_faults}
use Rattle.poll_loop.specs.Lists.{EachIs}

-- ---- lists

pub each_append : {X : Type 0} (Q : X → Type 0) (xs ys : List X) → EachIs Q xs → EachIs Q ys →
    EachIs Q (xs ++ ys)
each_append Q [] ys h k = k
each_append Q (x ∷ xs) ys h k = (h.0, each_append Q xs ys h.1 k)

pub each_map : {X : Type 0} (Q Also : X → Type 0) → ((x : X) → Q x → Also x) → (xs : List X) →
    EachIs Q xs → EachIs Also xs
each_map Q Also f [] h = tt
each_map Q Also f (x ∷ xs) h = (f x h.0, each_map Q Also f xs h.1)

-- ---- time

pub time_refl : {L P : Type 0} (net : NetState L P) → TimeGoesOn net net
time_refl net = record { first = λ _ e. e; later = omega arith }

pub time_trans : {L P : Type 0} (old mid new : NetState L P) → TimeGoesOn old mid →
    TimeGoesOn mid new → TimeGoesOn old new
time_trans old mid new a b =
    let p = a.later in
    let q = b.later in
    record { first = λ m e. b.first m (a.first m e); later = omega arith }

-- the first turn and the last one are the same
pub time_same : {L P : Type 0} (old new : NetState L P) → new.first ≡ old.first →
    new.last ≡ old.last → TimeGoesOn old new
time_same old new first last =
    let l : last_moment new.last ≡ last_moment old.last = ap (λ p. last_moment p) last in
    record { first = λ _ e. first ∙ e; later = omega (arith, l) }

pub within_later : {L P : Type 0} (old new : NetState L P) (moment : ℕ) → TimeGoesOn old new →
    IsWithin old moment → IsWithin new moment
within_later old new moment t h =
    let u = h.until in
    let l = t.later in
    record {
      first = h.first;
      began = t.first h.first h.began;
      since = h.since;
      until =
          omega arith;
    }

pub timely_later : {L P : Type 0} (old new : NetState L P) (link : LinkState) → TimeGoesOn old new →
    IsTimely old link → IsTimely new link
timely_later old new link t h = record {
  came = each_map _ _ (λ p w. within_later old new p.0 t w) link.arrivals h.came;
  touched = within_later old new link.touched t h.touched;
}

-- ---- entries

module _ {L P : Type 0} (service : Service) (grounds : Grounds) where
  end_later : (old new : NetState L P) → TimeGoesOn old new →
      (link : LinkState) (count : ℕ) (owed : Owed) (end : End) →
      EndHolds service grounds old link count owed end →
      EndHolds service grounds new link count owed end
  end_later old new t link count owed over.Done h = h
  end_later old new t link count owed over.LinkFault h = h
  end_later old new t link count owed over.SpillFault h = h
  end_later old new t link count owed over.AppFault h = h
  end_later old new t link count owed over.NoMemory h = h
  end_later old new t link count owed (over.TimedOut touched now) h =
      let u = h.1 in
      let l = t.later in
      (h.0, omega (arith, u, l))
  end_later old new t link count owed over.ShutDown h = h

  -- what is owed to a retired link still holds at a later moment
  pub entry_holds_later : (state : L → LinkState) (faults : L → ℕ) (old new : NetState L P) →
      TimeGoesOn old new → (entry : Retired L) →
      EntryHolds service grounds state faults old entry →
      EntryHolds service grounds state faults new entry
  entry_holds_later state faults old new t entry h = record {
    prefix = h.prefix;
    timely = λ told. timely_later old new (state entry.link) t (h.timely told);
    cause = end_later old new t (state entry.link) (faults entry.link)
        (service.owed entry.peer (state entry.link).arrivals) entry.end h.cause;
  }

-- ---- counts

pub spill_faults_append : {L : Type 0} (xs ys : List (Retired L)) →
    spill_faults (xs ++ ys) ≡ spill_faults xs + spill_faults ys
spill_faults_append xs ys =
    ap length (filter-append (λ e. is_spill_fault e.end) xs ys) ∙
    length-append (filter (λ e. is_spill_fault e.end) xs)
    (filter (λ e. is_spill_fault e.end) ys)

pub app_faults_append : {L : Type 0} (xs ys : List (Retired L)) →
    app_faults (xs ++ ys) ≡ app_faults xs + app_faults ys
app_faults_append xs ys =
    ap length (filter-append (λ e. is_app_fault e.end) xs ys) ∙
    length-append (filter (λ e. is_app_fault e.end) xs) (filter (λ e. is_app_fault e.end) ys)

pub added_more : (before mid now x y : ℕ) → added before x ≤ mid → added mid y ≤ now →
    added before (x + y) ≤ now
added_more before mid now x y h k = omega (arith, h, k)

pub spilled_more : {L : Type 0} (before mid now : ℕ) (xs ys : List (Retired L)) →
    added before (spill_faults xs) ≤ mid → added mid (spill_faults ys) ≤ now →
    added before (spill_faults (xs ++ ys)) ≤ now
spilled_more before mid now xs ys h k =
    subst (λ n. added before n ≤ now) (sym (spill_faults_append xs ys))
    (added_more before mid now (spill_faults xs) (spill_faults ys) h k)

pub retired_of_append : {L P : Type 0} (plan : L → P) (xs ys : List (Retired L)) →
    retired_of plan (xs ++ ys) ≡ retired_of plan xs ++ retired_of plan ys
retired_of_append {L} {P} plan xs ys = map-append {B = Peer × P}
    (λ (e : Retired L). (e.peer, plan e.link)) xs ys

-- ---- who is open

-- Those who were open and came went or stayed, and so did those who stayed and came later.
pub open_trans : {X : Type 0} (a s r b t q c : List X) → IsPermutation (a ++ s) (r ++ b) →
    IsPermutation (b ++ t) (q ++ c) → IsPermutation (a ++ (s ++ t)) ((r ++ q) ++ c)
open_trans a s r b t q c h k =
    let x : IsPermutation ((a ++ s) ++ t) ((r ++ b) ++ t) =
    IsPermutation-append_left t (a ++ s) (r ++ b) h in
    let y : IsPermutation (r ++ (b ++ t)) (r ++ (q ++ c)) =
    IsPermutation-append_right r (b ++ t) (q ++ c) k in
    let x' : IsPermutation (a ++ (s ++ t)) ((r ++ b) ++ t) =
    subst (λ z. IsPermutation z ((r ++ b) ++ t)) (append_assoc a s t) x in
    let x'' : IsPermutation (a ++ (s ++ t)) (r ++ (b ++ t)) =
    subst (λ z. IsPermutation (a ++ (s ++ t)) z) (append_assoc r b t) x' in
    let y' : IsPermutation (r ++ (b ++ t)) ((r ++ q) ++ c) =
    subst (λ z. IsPermutation (r ++ (b ++ t)) z) (sym (append_assoc r q c)) y in
    IsPermutation-trans (a ++ (s ++ t)) (r ++ (b ++ t)) ((r ++ q) ++ c) x'' y'

-- ---- accounts

module _ {L P : Type 0} (Holds : NetState L P → Retired L → Type 0) (plan : L → P) where
  -- nobody came and nobody went
  pub accounts_none : (old new : Books L P) → new.net.closed ≡ old.net.closed →
      new.net.given ≡ old.net.given → new.who ≡ old.who → new.net.live ≡ old.net.live →
      new.spills ≡ old.spills → new.fallen ≡ old.fallen → new.net.bound ≡ old.net.bound →
      new.net.quiet ≡ old.net.quiet → old.net.polls ≤ new.net.polls →
      TimeGoesOn old.net new.net → Accounts Holds plan old new
  accounts_none old new closed given who live spills fallen bound quiet polls time =
      let none : spill_faults {L = L} [] ≡ 0 = refl in
      let none' : app_faults {L = L} [] ≡ 0 = refl in
      let n = ap length who in
      record {
        entries = [];
        closed = closed ∙ sym (append-nil old.net.closed);
        each = tt;
        since = [];
        given = given ∙ sym (append-nil old.net.given);
        same = subst (λ xs. IsPermutation xs new.who) (who ∙ sym (append-nil old.who))
            (IsPermutation-refl new.who);
        live = omega (arith, live, n);
        spilled = omega (arith, none, spills);
        fell = omega (arith, none', fallen);
        bound = bound;
        quiet = quiet;
        polls = polls;
        time = time;
      }

  pub accounts_refl : (b : Books L P) → Accounts Holds plan b b
  accounts_refl b = accounts_none b b refl refl refl refl refl refl refl refl (omega arith)
      (time_refl b.net)

  -- what holds of an entry holds at any later moment
  module _ (later : (old new : NetState L P) → TimeGoesOn old new → (entry : Retired L) →
      Holds old entry → Holds new entry) where
    pub accounts_trans : (a b c : Books L P) → Accounts Holds plan a b → Accounts Holds plan b c →
        Accounts Holds plan a c
    accounts_trans a b c x y =
        let l = x.live in
        let m = y.live in
        let f = x.fell in
        let g = y.fell in
        let p = x.polls in
        let q = y.polls in
        let s = app_faults_append x.entries y.entries in
        record {
          entries = x.entries ++ y.entries;
          closed = y.closed ∙ (ap (λ es. es ++ y.entries) x.closed ∙
              append_assoc a.net.closed x.entries y.entries);
          each = each_append (Holds c.net) x.entries y.entries
              (each_map (Holds b.net) (Holds c.net) (later b.net c.net y.time) x.entries x.each)
              y.each;
          since = x.since ++ y.since;
          given = y.given ∙ (ap (λ xs. xs ++ y.since) x.given ∙
              append_assoc a.net.given x.since y.since);
          same = subst (λ r. IsPermutation (a.who ++ (x.since ++ y.since)) (r ++ c.who))
              (sym (retired_of_append plan x.entries y.entries))
              (open_trans a.who x.since (retired_of plan x.entries) b.who y.since
              (retired_of plan y.entries) c.who x.same y.same);
          live = omega (arith, l, m);
          spilled = spilled_more a.spills b.spills c.spills x.entries y.entries x.spilled y.spilled;
          fell = omega (arith, f, g, s);
          bound = y.bound ∙ x.bound;
          quiet = y.quiet ∙ x.quiet;
          polls = omega (arith, p, q);
          time = time_trans a.net b.net c.net x.time y.time;
        }
