-- An entry holds for as long as time goes on.
use Rattle.std.proofs.Common.{◌≡◌, ◌<◌, ℕ, Bool, true, false, IsTrue, List, [], ◌∷◌, ◌++◌, Option}
use Rattle.std.proofs.Common.{None, Some, refl, subst, arith, cond, length}
use Rattle.channel.specs.Output.{IsPrefix, Script}
use Rattle.channel.specs.Owed.{owed_by}
use Rattle.channel.specs.Views.{Counted, Counts, EndsBy, Owed, Rest, Telling}
use Rattle.channel.specs.declared.shared.Fixed.{Fixed}
use Rattle.outside.specs.Link.{LinkState}
use Rattle.outside.specs.Net.{NetState, last_moment}
use Rattle.outside.specs.declared.retired.Retired.{Retired}
use Rattle.outside.specs.declared.types.End.{End}
use Rattle.outside.specs.declared.types.End.TheVariants as over
use Rattle.outside.specs.declared.types.Peer.{Peer}
use Rattle.poll_loop.specs.Accounts.{TimeGoesOn}
use Rattle.poll_loop.specs.Connections.{HasBroken, going_on, service_by, shutting_down}
use Rattle.poll_loop.specs.Entries.{EndHolds, EntryHolds, Grounds, IsTimely, IsWithin, Service}
use Rattle.poll_loop.specs.Entries.{app_faults, is_app_fault, is_spill_fault, spill_faults}
use Rattle.poll_loop.specs.Lists.{EachIs}
use Rattle.poll_loop.specs.Seat.{BearsMoment}
use Rattle.poll_loop.specs.Settings.{fixed_by}
use Rattle.poll_loop.specs.declared.settings.Settings.{Settings}

-- ---- lists judged item by item

pub each_by : {X : Type 0} (P Q : X → Type 0) → ((x : X) → P x → Q x) → (xs : List X) →
    EachIs P xs → EachIs Q xs
each_by P Q f [] h = tt
each_by P Q f (x ∷ xs) h = (f x h.0, each_by P Q f xs h.1)

pub each_append : {X : Type 0} (P : X → Type 0) (xs ys : List X) → EachIs P xs → EachIs P ys →
    EachIs P (xs ++ ys)
each_append P [] ys h k = k
each_append P (x ∷ xs) ys h k = (h.0, each_append P xs ys h.1 k)

pub each_back : {X : Type 0} (P : X → Type 0) (xs ys : List X) → EachIs P (xs ++ ys) → EachIs P ys
each_back P [] ys h = h
each_back P (x ∷ xs) ys h = each_back P xs ys h.1

-- ---- time

within_later : {L P : Type 0} (old new : NetState L P) (moment : ℕ) → TimeGoesOn old new →
    IsWithin old moment → IsWithin new moment
within_later old new moment t w = record {
  first = w.first;
  began = t.first w.first w.began;
  since = w.since;
  until = let a = w.until in let b = t.later in omega (arith, a, b);
}

pub timely_goes_on : {L P : Type 0} (old new : NetState L P) (link : LinkState) →
    TimeGoesOn old new → IsTimely old link → IsTimely new link
timely_goes_on old new link t h = record {
  came = each_by _ _ (λ p w. within_later old new p.0 t w) link.arrivals h.came;
  touched = within_later old new link.touched t h.touched;
}

end_goes_on : {L P : Type 0} (service : Service) (grounds : Grounds) (old new : NetState L P)
    (link : LinkState) (faults : ℕ) (owed : Owed) (end : End) →
    TimeGoesOn old new → EndHolds service grounds old link faults owed end →
    EndHolds service grounds new link faults owed end
end_goes_on service grounds old new link faults owed over.Done t h = h
end_goes_on service grounds old new link faults owed over.LinkFault t h = h
end_goes_on service grounds old new link faults owed over.SpillFault t h = h
end_goes_on service grounds old new link faults owed over.AppFault t h = h
end_goes_on service grounds old new link faults owed over.NoMemory t h = h
end_goes_on service grounds old new link faults owed (over.TimedOut touched now) t h =
    (h.0, let a = h.1 in let b = t.later in omega (arith, a, b))
end_goes_on service grounds old new link faults owed over.ShutDown t h = h

pub entry_goes_on : {L P : Type 0} (service : Service) (grounds : Grounds) (state : L → LinkState)
    (faults : L → ℕ) (old new : NetState L P) (entry : Retired L) →
    TimeGoesOn old new → EntryHolds service grounds state faults old entry →
    EntryHolds service grounds state faults new entry
entry_goes_on service grounds state faults old new entry t h = record {
  prefix = h.prefix;
  timely = λ tells. timely_goes_on old new (state entry.link) t (h.timely tells);
  cause = end_goes_on service grounds old new (state entry.link) (faults entry.link)
      (service.owed entry.peer (state entry.link).arrivals) entry.end t h.cause;
}

-- ---- the entry of a channel that was closed

counted_one : {R : Type 0} (faults : R → ℕ) (x : Option R) → Counted faults x →
    (run : R) × (0 < faults run)
counted_one faults None h = absurd h
counted_one faults (Some run) h = (run, h)

ends_hold : {L P R S : Type 0} (service : Service) (counts : Counts R S) (rest : Rest R S)
    (net : NetState L P) (end : End) →
    EndsBy service.tells counts service.timeout rest end → BearsMoment (last_moment net.last) end →
    EndHolds service (going_on (HasBroken counts.run)) net rest.link rest.faults rest.owed end
ends_hold service counts rest net over.Done e b = e
ends_hold service counts rest net over.LinkFault e b = e
ends_hold service counts rest net over.SpillFault e b = tt
ends_hold service counts rest net over.AppFault e b = counted_one counts.run rest.fallen e
ends_hold service counts rest net over.NoMemory e b = tt
ends_hold service counts rest net (over.TimedOut touched now) e b = (e, omega (arith, b))
ends_hold service counts rest net over.ShutDown e b = e

-- what a channel that was opened so is judged by at its end
abbrev pub rest_of : {L A R S : Type 0} → (A → Script) → (L → LinkState) → (L → ℕ) → Fixed A → L →
    Option S → Option R → Rest R S
rest_of script state faults fixed link broken fallen = record {
  link = state link;
  faults = faults link;
  owed = owed_by script fixed (state link).arrivals;
  broken = broken;
  fallen = fallen;
}

pub closed_entry : {L P A R S : Type 0} (tells : Telling) (script : A → Script)
    (settings : Settings) (app : A) (counts : Counts R S)
    (state : L → LinkState) (faults : L → ℕ) (net : NetState L P) (fixed : Fixed A) (link : L)
    (peer : Peer) (end : End) (broken : Option S) (fallen : Option R) →
    fixed ≡ fixed_by settings app peer →
    (IsTrue tells.all → IsPrefix (state link).sent (owed_by script fixed
    (state link).arrivals).output) →
    EndsBy tells counts fixed.window.timeout
    (rest_of script state faults fixed link broken fallen) end →
    (IsTrue tells.link → IsTimely net (state link)) → BearsMoment (last_moment net.last) end →
    EntryHolds (service_by tells script settings app) (going_on (HasBroken counts.run)) state faults
    net (record { peer = peer; link = link; end = end })
closed_entry tells script settings app counts state faults net fixed link peer end broken fallen by
    sent ends timely bears = record {
      prefix = λ all. subst (λ f. IsPrefix (state link).sent
          (owed_by script f (state link).arrivals).output) by (sent all);
      timely = timely;
      cause = ends_hold (service_by tells script settings app) counts
          (rest_of script state faults (fixed_by settings app peer) link broken fallen) net end
          (subst (λ f. EndsBy tells counts f.window.timeout
          (rest_of script state faults f link broken fallen) end) by ends)
          bears;
    }

pub shut_entry : {L P A R : Type 0} (tells : Telling) (script : A → Script) (settings : Settings)
    (app : A) (run_faults : R → ℕ)
    (state : L → LinkState) (faults : L → ℕ) (net : NetState L P) (fixed : Fixed A) (link : L)
    (peer : Peer) →
    fixed ≡ fixed_by settings app peer →
    (IsTrue tells.all → IsPrefix (state link).sent (owed_by script fixed
    (state link).arrivals).output) →
    (IsTrue tells.link → IsTimely net (state link)) →
    EntryHolds (service_by tells script settings app) (shutting_down (HasBroken run_faults)) state
    faults net (record { peer = peer; link = link; end = over.ShutDown })
shut_entry tells script settings app run_faults state faults net fixed link peer by sent timely =
    record {
      prefix = λ all. subst (λ f. IsPrefix (state link).sent
          (owed_by script f (state link).arrivals).output) by (sent all);
      timely = timely;
      cause = tt;
    }

-- ---- counts of one entry

one_if : {X : Type 0} (b : Bool) (x : X) → length (cond b (x ∷ []) []) ≡ cond b 1 0
one_if true x = refl
one_if false x = refl

pub spill_one : {L : Type 0} (entry : Retired L) → spill_faults (entry ∷ []) ≡ cond
    (is_spill_fault entry.end) 1 0
spill_one entry = one_if (is_spill_fault entry.end) entry

pub app_one : {L : Type 0} (entry : Retired L) → app_faults (entry ∷ []) ≡ cond
    (is_app_fault entry.end) 1 0
app_one entry = one_if (is_app_fault entry.end) entry
