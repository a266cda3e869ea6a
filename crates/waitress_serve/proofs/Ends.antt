-- Why a link was retired.
use Rattle.std.proofs.Common.{◌≡◌, ◌≤◌, ◌+◌, ◌⊎◌, inl, inr, ℕ, zero, suc, Bool, true, false, IsTrue}
use Rattle.std.proofs.Common.{List, [], ◌∷◌, ◌++◌, length, refl, arith, cond}
use Rattle.std.specs.Prelude.{Option, Some, None, IfSome, filter, ◌≢◌}
use Rattle.channel.specs.Views.{Owed}
use Rattle.outside.specs.Causes.{added, raised}
use Rattle.outside.specs.Link.{LinkState}
use Rattle.outside.specs.Net.{NetState, last_moment}
use Rattle.outside.specs.declared.retired.Retired.{Retired}
use Rattle.outside.specs.declared.types.End.{End}
use Rattle.outside.specs.declared.types.End.TheVariants as over
use Rattle.poll_loop.specs.Connections.{going_on}
use Rattle.poll_loop.specs.Entries.{EndHolds, EntryHolds, Grounds, IsTimely, Service, app_faults}
use Rattle.poll_loop.specs.Entries.{is_app_fault, is_spill_fault, spill_faults}
use Rattle.poll_loop.specs.Lists.{EachIs}
use Rattle.waitress_serve.specs.Completeness.{IsBrief, IsStill}

-- ---- lists of which each item is so

pub each_append : {X : Type 0} (Is : X → Type 0) (xs ys : List X) → EachIs Is xs → EachIs Is ys →
    EachIs Is (xs ++ ys)
each_append Is [] ys h k = k
each_append Is (x ∷ xs) ys h k = (h.0, each_append Is xs ys h.1 k)

pub each_map : {X : Type 0} (Is Also : X → Type 0) → ((x : X) → Is x → Also x) → (xs : List X) →
    EachIs Is xs → EachIs Also xs
each_map Is Also f [] h = tt
each_map Is Also f (x ∷ xs) h = (f x h.0, each_map Is Also f xs h.1)

pub each_both : {X : Type 0} (Is Also Then : X → Type 0) → ((x : X) → Is x → Also x → Then x) →
    (xs : List X) → EachIs Is xs → EachIs Also xs → EachIs Then xs
each_both Is Also Then f [] h k = tt
each_both Is Also Then f (x ∷ xs) h k = (f x h.0 k.0, each_both Is Also Then f xs h.1 k.1)

pub each_front : {X : Type 0} (Is : X → Type 0) (xs ys : List X) → EachIs Is (xs ++ ys) →
    EachIs Is xs
each_front Is [] ys h = tt
each_front Is (x ∷ xs) ys h = (h.0, each_front Is xs ys h.1)

pub each_none : {X : Type 0} (Is : X → Type 0) (xs : List X) → length xs ≡ 0 → EachIs Is xs
each_none Is [] none = tt
each_none Is (x ∷ xs) none = absurd (omega (arith, none))

-- ---- weaker grounds

module _ {L P : Type 0} (service : Service) (g h : Grounds) (downs : g.shutdown → h.shutdown)
    (breaks : g.broke → h.broke)
    (state : L → LinkState) (faults : L → ℕ) (net : NetState L P) where
  weaker_end : (link : LinkState) (count : ℕ) (owed : Owed) (end : End) →
      EndHolds service g net link count owed end → EndHolds service h net link count owed end
  weaker_end link count owed over.Done is = is
  weaker_end link count owed over.LinkFault is = is
  weaker_end link count owed over.SpillFault is = is
  weaker_end link count owed over.AppFault is = breaks is
  weaker_end link count owed over.NoMemory is = is
  weaker_end link count owed (over.TimedOut touched now) is = is
  weaker_end link count owed over.ShutDown is = downs is

  pub weaker_entry : (entry : Retired L) → EntryHolds service g state faults net entry →
      EntryHolds service h state faults net entry
  weaker_entry entry is = record {
    prefix = is.prefix;
    timely = is.timely;
    cause = weaker_end (state entry.link) (faults entry.link)
        (service.owed entry.peer (state entry.link).arrivals) entry.end is.cause;
  }

-- ---- while serving goes on

module _ {L P : Type 0} (service : Service) (broke : Type 0) (net : NetState L P) where
  -- nobody is shut down
  pub not_shut : (link : LinkState) (count : ℕ) (owed : Owed) (end : End) →
      EndHolds service (going_on broke) net link count owed end → end ≢ over.ShutDown
  not_shut link count owed over.Done is = λ e. cc
  not_shut link count owed over.LinkFault is = λ e. cc
  not_shut link count owed over.SpillFault is = λ e. cc
  not_shut link count owed over.AppFault is = λ e. cc
  not_shut link count owed over.NoMemory is = λ e. cc
  not_shut link count owed (over.TimedOut touched now) is = λ e. cc
  not_shut link count owed over.ShutDown is = λ e. is

  -- nobody waits for longer than the timeout where no longer goes by
  too_brief : (touched timeout now : ℕ) (first : Option ℕ) (began : ℕ) → first ≡ Some began →
      began ≤ touched → touched + timeout + 1 ≤ now → now ≤ last_moment net.last →
      IfSome first (λ f. last_moment net.last ≤ f + timeout) → ⊥
  too_brief touched timeout now None began is since late until brief = cc
  too_brief touched timeout now (Some f) began is since late until brief =
      let same : f ≡ began = cc in
      let within : last_moment net.last ≤ f + timeout = brief in
      omega (arith, same, since, late, until, within)

  -- so each is answered, where no run broke and no spill failed
  pub answered_end : IsTrue service.tells.link → IsTrue service.tells.all →
      IsBrief service.timeout net →
      (link : LinkState) (count : ℕ) (owed : Owed) (end : End) →
      (IsTrue service.tells.link → IsTimely net link) →
      EndHolds service (going_on broke) net link count owed end →
      (is_spill_fault end ≡ false) × (is_app_fault end ≡ false) → count ≡ 0 →
      (end ≡ over.NoMemory) ⊎ ((end ≡ over.Done) × (link.sent ≡ owed.output))
  answered_end told all brief link count owed over.Done timely is unspilled faultless =
      inr (refl, (is all).whole)
  answered_end told all brief link count owed over.LinkFault timely is unspilled faultless =
      absurd (omega (arith, is, faultless))
  answered_end told all brief link count owed over.SpillFault timely is unspilled faultless =
      let unspilt = unspilled.0 in cc
  answered_end told all brief link count owed over.AppFault timely is unspilled faultless =
      let unbroken = unspilled.1 in cc
  answered_end told all brief link count owed over.NoMemory timely is unspilled faultless = inl refl
  answered_end told all brief link count owed (over.TimedOut touched now) timely is unspilled
      faultless =
      let was = (timely told).touched in
      let same = is.0.touched_is told in
      let since = was.since in
      let late = is.0.late in
      absurd (too_brief touched service.timeout now net.first was.first was.began
      (omega (arith, since, same)) (omega (arith, late)) is.1 brief)
  answered_end told all brief link count owed over.ShutDown timely is unspilled faultless =
      absurd is

-- a count of those that pass is 0 only where none passes
none_first : {X : Type 0} (b : Bool) (x : X) (rest : List X) → length (cond b (x ∷ rest) rest) ≡ 0 →
    (b ≡ false) × (length rest ≡ 0)
none_first true x rest none = absurd (omega (arith, none))
none_first false x rest none = (refl, none)

-- none passes
none_passes : {L : Type 0} (p : Retired L → Bool) (entries : List (Retired L)) →
    length (filter p entries) ≡ 0 → EachIs (λ e. p e ≡ false) entries
none_passes p [] none = tt
none_passes p (entry ∷ entries) none =
    let split = none_first (p entry) entry (filter p entries) none in
    (split.0, none_passes p entries split.1)

-- no entry ended by a fault of a spill or of the application
pub none_failed : {L : Type 0} (entries : List (Retired L)) → spill_faults entries ≡ 0 →
    app_faults entries ≡ 0 →
    EachIs (λ e. (is_spill_fault e.end ≡ false) × (is_app_fault e.end ≡ false)) entries
none_failed entries unspilled unbroken =
    each_both _ _ _ (λ e spilt broke. (spilt, broke)) entries
    (none_passes (λ e. is_spill_fault e.end) entries unspilled)
    (none_passes (λ e. is_app_fault e.end) entries unbroken)

-- where a count didn't rise, nothing was added to it
pub none_counted : (before now n : ℕ) → IsStill before now → added before n ≤ now → n ≡ 0
none_counted before now zero still counted = refl
none_counted before now (suc n) still counted = let rose : raised before ≤ now =
    omega (arith, counted) in absurd (still rose)
