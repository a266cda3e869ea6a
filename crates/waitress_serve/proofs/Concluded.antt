-- What a command leaves of the net, once it has ended.
use Rattle.std.proofs.Common.{◌≡◌, ◌≤◌, ◌+◌, ◌⊎◌, inl, inr, ℕ, Bool, true, false, IsTrue, List, []}
use Rattle.std.proofs.Common.{◌++◌, length, refl, ap, sym, subst, ◌∙◌, arith, append-nil}
use Rattle.std.proofs.Common.{length-append}
use Rattle.std.specs.Prelude.{All, ◌<◌, ◌∷◌, Option, None, Some, Result, Ok, Err, ◌&&◌}
use Rattle.std.proofs.lemmas.List.{length-map}
use Rattle.std.proofs.lemmas.List.Elements.{All-head}
use Rattle.std.proofs.lemmas.List.Sorted.{IsPermutation-refl, length_permutation}
use Rattle.adjust.specs.declared.types.Adjustments.{Adjustments}
use Rattle.channel.specs.Output.{Input, IsPrefix, Script}
use Rattle.channel.specs.Views.{IsServed, Owed, Telling, telling}
use Rattle.outside.specs.Causes.{Rose, added}
use Rattle.outside.specs.Link.{LinkState}
use Rattle.outside.specs.Net.{NetState}
use Rattle.outside.specs.declared.retired.Retired.{Retired}
use Rattle.outside.specs.declared.types.End.{End}
use Rattle.outside.specs.declared.types.End.TheVariants as over
use Rattle.outside.specs.declared.types.Listen.{Listen}
use Rattle.outside.specs.declared.types.Peer.{Peer}
use Rattle.poll_loop.specs.Accounts.{IsMet, LastKnows, NobodyShut, ServeCause, ServeEnds, Served}
use Rattle.poll_loop.specs.Accounts.{Stops, books, retired_of}
use Rattle.poll_loop.specs.Connections.{HasBroken, going_on, service_by, shutting_down}
use Rattle.poll_loop.specs.Entries.{EndHolds, EntryHolds, Grounds, Service, app_faults}
use Rattle.poll_loop.specs.Entries.{spill_faults}
use Rattle.poll_loop.specs.Lists.{EachIs}
use Rattle.poll_loop.specs.Seat.{Eyes}
use Rattle.poll_loop.specs.declared.settings.Going.TheVariants as going
use Rattle.poll_loop.specs.declared.settings.Going.{Going}
use Rattle.poll_loop.specs.declared.settings.ServeFault.{ServeFault}
use Rattle.poll_loop.specs.declared.settings.ServeFault.TheVariants as fault
use Rattle.poll_loop.specs.declared.settings.Settings.{Settings}
use Rattle.waitress_serve.specs.Completeness.{IsAnswered, IsBrief, IsStill}
use Rattle.waitress_serve.specs.Conclusions.{AnswersAll, BindCount, DoneAdds, DoneStops}
use Rattle.waitress_serve.specs.Conclusions.{FailsUnstopped, Fell, IsDownBy, IsOfServing, NetLeaves}
use Rattle.waitress_serve.specs.Conclusions.{OutCount, OutLeaves, PollCount, Ran, RanOver}
use Rattle.waitress_serve.specs.Conclusions.{ServedAll, conclusion_of}
use Rattle.waitress_serve.specs.Headline.{Added, KeepsLimit, RetiresGiven, SettlesRuns}
use Rattle.waitress_serve.specs.Headline.{SettlesSpills, ShutLast, WentDown, grounds}
use Rattle.waitress_serve.specs.Made.{Files, reads_files}
use Rattle.waitress_serve.specs.Owed.{owed_by, service_for, service_with, told_by}
use Rattle.waitress_serve.specs.Reading.{Reading}
use Rattle.waitress_serve.specs.Reports.{Unwritten, Written}
use Rattle.waitress_serve.specs.Settings.{settings_for}
use Rattle.waitress_serve.specs.Status.{MeetsLimit, ToldStop, timeout_by}
use Rattle.waitress_serve.specs.declared.conclusion.Conclusion.{Conclusion}
use Rattle.waitress_serve.specs.declared.conclusion.Conclusion.TheVariants as conclusion
use Rattle.waitress_serve.proofs.Ends.{answered_end, each_append, each_both, each_front, each_map}
use Rattle.waitress_serve.proofs.Ends.{each_none, none_counted, none_failed, not_shut, weaker_entry}

-- ---- nobody was served

-- nothing was added
pub nothing_added : {E : Type 0} (Holds : E → Type 0) (old new : List E) → new ≡ old →
    Added Holds old new
nothing_added Holds old new same = record {
  entries = [];
  whole = same ∙ sym (append-nil old);
  each = tt;
}

-- no spill was settled
pub nothing_settled : {L : Type 0} (old new : List (Retired L)) (before now : ℕ) → new ≡ old →
    now ≡ before → SettlesSpills before now old new
nothing_settled {L} old new before now closed same = record {
  entries = [];
  whole = closed ∙ sym (append-nil old);
  counted = let none : spill_faults {L = L} [] ≡ 0 = refl in omega (arith, none, same);
}

-- no entry of a run was settled
pub no_run_settled : {L : Type 0} (old new : List (Retired L)) (before now : ℕ) → new ≡ old →
    now ≡ before → SettlesRuns before now old new
no_run_settled {L} old new before now closed same = record {
  entries = [];
  whole = closed ∙ sym (append-nil old);
  counted = let none : app_faults {L = L} [] ≡ 0 = refl in omega (arith, none, same);
}

-- no run fell
nothing_fell : {L : Type 0} (fallen : ℕ) (old new : List (Retired L)) → fallen ≡ 0 → new ≡ old →
    Fell fallen old new
nothing_fell {L} fallen old new none closed = record {
  entries = [];
  whole = closed ∙ sym (append-nil old);
  count = let zero : app_faults {L = L} [] ≡ 0 = refl in none ∙ sym zero;
}

-- nobody came and nobody was retired
pub nobody_given : {L P : Type 0} (plan : L → P) (old new : NetState L P) → new.given ≡ old.given →
    new.closed ≡ old.closed → RetiresGiven plan old new
nobody_given plan old new given closed = record {
  given = [];
  entries = [];
  came = given ∙ sym (append-nil old.given);
  retired = closed ∙ sym (append-nil old.closed);
  same = IsPermutation-refl _;
}

adds_nothing : {E : Type 0} (Holds : E → Type 0) (c : Conclusion) (old new : List E) → new ≡ old →
    DoneAdds Holds c old new
adds_nothing Holds conclusion.Done old new same = nothing_added Holds old new same
adds_nothing Holds (conclusion.Usage fault) old new same = tt
adds_nothing Holds conclusion.NotBuilt old new same = tt
adds_nothing Holds (conclusion.Unmade why) old new same = tt
adds_nothing Holds conclusion.BindFailed old new same = tt
adds_nothing Holds conclusion.Unprinted old new same = tt
adds_nothing Holds conclusion.PollFailed old new same = tt
adds_nothing Holds conclusion.NoMemory old new same = tt

still_unstopped : {L P : Type 0} (c : Conclusion) (old new : NetState L P) →
    new.stopped ≡ old.stopped → FailsUnstopped c old new
still_unstopped conclusion.PollFailed old new same = λ stop. subst IsTrue same stop
still_unstopped conclusion.Done old new same = tt
still_unstopped (conclusion.Usage fault) old new same = tt
still_unstopped conclusion.NotBuilt old new same = tt
still_unstopped (conclusion.Unmade why) old new same = tt
still_unstopped conclusion.BindFailed old new same = tt
still_unstopped conclusion.Unprinted old new same = tt
still_unstopped conclusion.NoMemory old new same = tt

-- nothing was done to the net
pub stays : {L P : Type 0} (c : Conclusion) (net : NetState L P) → NetLeaves c net net
stays conclusion.Done net = tt
stays (conclusion.Usage fault) net = refl
stays conclusion.NotBuilt net = refl
stays (conclusion.Unmade why) net = refl
stays conclusion.BindFailed net = refl
stays conclusion.Unprinted net = record { polls = refl; closed = refl }
stays conclusion.PollFailed net = tt
stays conclusion.NoMemory net = tt

-- nothing was done to the net but a bind
pub ran_none : {L P : Type 0} (service : Service) (broke : Type 0) (fallen : ℕ) (e : Eyes L P)
    (listen : List Listen) (c : Conclusion) (before now : ℕ) (old new : NetState L P)
    (bound : Option (List Listen)) → fallen ≡ 0 → new ≡ record old { bound = bound } →
    now ≡ before → NetLeaves c old new → Ran service broke fallen e listen c before now old new
ran_none service broke fallen e listen c before now old new bound none is same leaves = record {
  headline = nothing_added _ old.closed new.closed (ap (λ s. s.closed) is);
  shut_last = inl (ap (λ s. s.closed) is);
  given = nobody_given e.plan old new (ap (λ s. s.given) is) (ap (λ s. s.closed) is);
  live = ap (λ s. s.live) is;
  quiet = ap (λ s. s.quiet) is;
  bound = λ more. let p : new.polls ≡ old.polls = ap (λ s. s.polls) is in absurd
      (omega (arith, more, p));
  settled = nothing_settled old.closed new.closed before now (ap (λ s. s.closed) is) same;
  fell = nothing_fell fallen old.closed new.closed none (ap (λ s. s.closed) is);
  net = leaves;
  unstopped = still_unstopped c old new (ap (λ s. s.stopped) is);
  complete = λ none told all quiet still brief. adds_nothing _ c old.closed new.closed
      (ap (λ s. s.closed) is);
}

-- ---- serving ended

none_behind : {E : Type 0} (old xs ys : List E) → old ++ (xs ++ ys) ≡ old → length ys ≡ 0
none_behind old xs ys e =
    let whole = ap length e in
    let outer = length-append old (xs ++ ys) in
    let inner = length-append xs ys in
    omega (arith, whole, outer, inner)

module _ {L P : Type 0} (service : Service) (broke : Type 0) (e : Eyes L P) (listen : List Listen)
    (limit : Option ℕ) (before now : ℕ) (old mid new : NetState L P)
    (is : mid ≡ record old { bound = Some listen }) (result : Result Going ServeFault) (fallen : ℕ)
    (who : List (Peer × P))
    (s : Served result (EntryHolds service (going_on broke) e.state e.faults)
    (EntryHolds service (shutting_down broke) e.state e.faults) e.plan (books mid before 0 [])
    (books new now fallen who)) where
  closed_is : new.closed ≡ old.closed ++ (s.before ++ s.after)
  closed_is = s.closed ∙ ap (λ m. m.closed ++ (s.before ++ s.after)) is

  given_is : new.given ≡ old.given ++ s.since
  given_is = s.given ∙ ap (λ m. m.given ++ s.since) is

  live_is : new.live ≡ old.live
  live_is =
      let here = s.live in
      let there : mid.live ≡ old.live = ap (λ m. m.live) is in
      omega (arith, here, there)

  -- why those that were shut down were
  stopped_for : Stops mid new → ToldStop old new
  stopped_for stops = record {
    polled = subst (λ m. Rose m.polls new.polls) is stops.polled;
    stopped = stops.stopped;
  }

  last_by : (r : Result Going ServeFault) → NobodyShut r s.after → ServeEnds r limit 0 mid new →
      EachIs (EntryHolds service (grounds (IsDownBy (conclusion_of r) old new) broke) e.state
      e.faults new) s.after
  last_by (Ok going.Stopped) nobody ends =
      each_map _ _ (weaker_entry service (shutting_down broke) (grounds (ToldStop old new) broke)
      (λ _. stopped_for ends) (λ b. b) e.state e.faults new) s.after s.last
  last_by (Ok going.LimitMet) nobody ends = subst (EachIs _) (sym nobody) tt
  last_by (Ok going.On) nobody ends = absurd nobody
  last_by (Err fault.Net) nobody ends = s.last
  last_by (Err fault.NoMemory) nobody ends = s.last

  headline : ServeEnds result limit 0 mid new → Added (EntryHolds service
      (grounds (IsDownBy (conclusion_of result) old new) broke) e.state e.faults new) old.closed
      new.closed
  headline ends = record {
    entries = s.before ++ s.after;
    whole = closed_is;
    each = each_append _ s.before s.after
        (each_map _ _ (weaker_entry service (going_on broke)
        (grounds (IsDownBy (conclusion_of result) old new) broke) (λ never. absurd never)
        (λ b. b) e.state e.faults new) s.before s.each)
        (last_by result s.nobody ends);
  }

  shut_last_known : LastKnows (record new { live = new.live + length s.after }) → ShutLast old new
  shut_last_known k =
      let o = k.open' in
      let l = live_is in
      record {
        poll = k.poll;
        last = k.last;
        accepted = k.accepted;
        before = s.before;
        after = s.after;
        whole = closed_is;
        earlier = each_map _ _ (λ entry h. not_shut service broke new (e.state entry.link)
            (e.faults entry.link) _ entry.end h.cause) s.before s.each;
        shut = s.shut;
        were_open = omega (arith, o, l);
      }

  shut_last : (new.closed ≡ old.closed) ⊎ ShutLast old new
  shut_last = elim (s.knows (inl refl)) [
    | inl same ↦ inl (same ∙ ap (λ m. m.closed) is)
    | inr k ↦
        inr (shut_last_known k)
  ]

  given : RetiresGiven e.plan old new
  given = record {
    given = s.since;
    entries = s.before ++ s.after;
    came = given_is;
    retired =
        closed_is;
    same = s.same;
  }

  -- where a quiet net told to stop, nothing was open
  nothing_known : LastKnows (record new { live = new.live + length s.after }) → Stops mid new →
      IsTrue mid.quiet → length s.after ≡ 0
  nothing_known k stops quiet =
      let last : k.poll ≡ stops.poll = cc (k.last, stops.last) in
      let empty : k.poll.live ≡ 0 = ap (λ p. p.live) last ∙ stops.empty quiet in
      let same : length k.poll.given ≡ length new.given = ap (λ p. length p.given) last ∙
      ap length (sym stops.given) in
      let o = k.open' in
      omega (arith, o, empty, same)

  nobody_by : (r : Result Going ServeFault) → NobodyShut r s.after → ServeEnds r limit 0 mid new →
      conclusion_of r ≡ conclusion.Done → IsTrue mid.quiet → length s.after ≡ 0
  nobody_by (Ok going.Stopped) nobody ends done quiet =
      elim (s.knows (inl refl)) [
        | inl same ↦ none_behind mid.closed s.before s.after
            (sym s.closed ∙ same)
        | inr k ↦ nothing_known k ends quiet
      ]
  nobody_by (Ok going.LimitMet) nobody ends done quiet = ap length nobody
  nobody_by (Ok going.On) nobody ends done quiet = absurd nobody
  nobody_by (Err fault.Net) nobody ends done quiet = cc
  nobody_by (Err fault.NoMemory) nobody ends done quiet = cc

  fell_count : fallen ≡ app_faults (s.before ++ s.after)
  fell_count = let count = s.fell in omega (arith, count)

  -- where nothing happened, each was answered
  answered : (r : Result Going ServeFault) → NobodyShut r s.after → ServeEnds r limit 0 mid new →
      conclusion_of r ≡ conclusion.Done →
      fallen ≡ 0 → IsTrue service.tells.link → IsTrue service.tells.all → IsTrue old.quiet →
      IsStill before now → IsBrief service.timeout new →
      Added (IsAnswered e.state e.faults service.owed) old.closed new.closed
  answered r nobody ends done none told all quiet still brief =
      let unspilled = none_failed (s.before ++ s.after) (none_counted before now _ still s.spilled)
      (sym fell_count ∙ none) in
      record {
        entries = s.before ++ s.after;
        whole = closed_is;
        each = each_append _ s.before s.after
            (each_both _ _ _ (λ entry h unspilt faultless.
            answered_end service broke new told all brief (e.state entry.link)
            (e.faults entry.link) _ entry.end h.timely h.cause unspilt faultless)
            s.before s.each (each_front _ s.before s.after unspilled))
            (each_none _ s.after (nobody_by r nobody ends done
            (subst (λ m. IsTrue m.quiet) (sym is) quiet)));
      }

  complete : (r : Result Going ServeFault) → NobodyShut r s.after → ServeEnds r limit 0 mid new →
      AnswersAll service fallen e (conclusion_of r) before now old new
  complete (Ok going) nobody ends = answered (Ok going) nobody ends refl
  complete (Err fault.Net) nobody ends = λ none told all quiet still brief. tt
  complete (Err fault.NoMemory) nobody ends = λ none told all quiet still brief. tt

  unstopped : (r : Result Going ServeFault) → ServeEnds r limit 0 mid new →
      FailsUnstopped (conclusion_of r) old new
  unstopped (Ok going) ends = tt
  unstopped (Err fault.Net) ends = λ stop. subst (λ m. IsTrue m.stopped) is (ends stop)
  unstopped (Err fault.NoMemory) ends = tt

  leaves : (r : Result Going ServeFault) → NetLeaves (conclusion_of r) old new
  leaves (Ok going) = tt
  leaves (Err fault.Net) = tt
  leaves (Err fault.NoMemory) = tt

  ran : ServeEnds result limit 0 mid new → Ran service broke fallen e listen (conclusion_of result)
      before now old new
  ran ends = record {
    headline = headline ends;
    shut_last = shut_last;
    given = given;
    live = live_is;
    quiet = s.quiet ∙ ap (λ m. m.quiet) is;
    bound = λ more. s.bound ∙ ap (λ m. m.bound) is;
    settled = record { entries = s.before ++ s.after; whole = closed_is; counted = s.spilled };
    fell = record { entries = s.before ++ s.after; whole = closed_is; count = fell_count };
    net = leaves result;
    unstopped = unstopped result ends;
    complete = complete result s.nobody ends;
  }

  met : IsMet limit 0 mid new → MeetsLimit limit old new
  met m =
      let counted = m.met in
      let begun : length mid.given ≡ length old.given = ap (λ n. length n.given) is in
      let came = ap length given_is ∙ length-append old.given s.since in
      let went = ap length closed_is ∙ length-append old.closed (s.before ++ s.after) in
      let same = length_permutation s.since (retired_of e.plan (s.before ++ s.after)) s.same in
      let each = length-map {B = Peer × P} (s.before ++ s.after)
      (λ entry. (entry.peer, e.plan entry.link)) in
      record {
        count = m.count;
        limited = m.limited;
        came = omega (arith, counted, begun);
        went = omega (arith, counted, begun, came, went, same, each);
      }

  stops_by : (r : Result Going ServeFault) → NobodyShut r s.after → ServeEnds r limit 0 mid new →
      DoneStops limit (conclusion_of r) old new
  stops_by (Ok going.Stopped) nobody ends = inl (record {
    stopped = ends.stopped;
    polled = subst (λ m. Rose m.polls new.polls) is ends.polled;
    poll = ends.poll;
    last = ends.last;
    told = ends.told;
    given = ends.given;
    empty = λ quiet. ends.empty (subst (λ m. IsTrue m.quiet) (sym is) quiet);
  })
  stops_by (Ok going.LimitMet) nobody ends = inr (met ends.0)
  stops_by (Ok going.On) nobody ends = absurd nobody
  stops_by (Err fault.Net) nobody ends = tt
  stops_by (Err fault.NoMemory) nobody ends = tt

  stops : ServeEnds result limit 0 mid new → DoneStops limit (conclusion_of result) old new
  stops ends = stops_by result s.nobody ends

-- a server with these options served, behind a bind
module _ {L P A : Type 0} (tells : Telling) (script : A → Script) (app : A) (options : Adjustments)
    (broke : Type 0) (fallen : ℕ) (e : Eyes L P) (listen : List Listen)
    (before now : ℕ) (old mid new : NetState L P) (is : mid ≡ record old { bound = Some listen })
    (result : Result Going ServeFault)
    (c : Conclusion) (concludes : c ≡ conclusion_of result) (settings : Settings)
    (by : settings ≡ settings_for options)
    (all : ServedAll result (service_by tells script settings app) broke fallen e before now mid
    new) (ends : ServeEnds result settings.serve_limit 0 mid new) where
  all_by : ServedAll result (service_by tells script (settings_for options) app) broke fallen e
      before now mid new
  all_by = subst (λ x. ServedAll result (service_by tells script x app) broke fallen e before now
      mid new) by all

  ends_by : ServeEnds result options.serve_limit 0 mid new
  ends_by = subst (λ x. ServeEnds result x.serve_limit 0 mid new) by ends

  pub started_ran : Ran (service_with tells options (script app)) broke fallen e listen c before now
      old new
  started_ran = subst (λ x. Ran (service_with tells options (script app)) broke fallen e listen x
      before now old new) (sym concludes)
      (ran (service_with tells options (script app)) broke e listen options.serve_limit before now
      old mid new is result fallen all_by.who all_by.served ends_by)

  pub started_stops : DoneStops options.serve_limit c old new
  started_stops = subst (λ x. DoneStops options.serve_limit x old new) (sym concludes)
      (stops (service_with tells options (script app)) broke e listen options.serve_limit before now
      old mid new is result fallen all_by.who all_by.served ends_by)

-- ---- counts, by how serving ended

pub is_of_serving : (r : Result Going ServeFault) → IsOfServing (conclusion_of r)
is_of_serving (Ok going) = tt
is_of_serving (Err fault.Net) = tt
is_of_serving (Err fault.NoMemory) = tt

pub bind_count : (r : Result Going ServeFault) (before now : ℕ) → now ≡ before →
    BindCount (conclusion_of r) before now
bind_count (Ok going) before now same = same
bind_count (Err fault.Net) before now same = same
bind_count (Err fault.NoMemory) before now same = same

pub poll_count : (r : Result Going ServeFault) (before now : ℕ) → ServeCause r before now →
    PollCount (conclusion_of r) before now
poll_count (Ok going) before now cause = cause
poll_count (Err fault.Net) before now cause = cause
poll_count (Err fault.NoMemory) before now cause = cause

pub out_count : (r : Result Going ServeFault) (before now : ℕ) → now ≡ before →
    OutCount (conclusion_of r) before now
out_count (Ok going) before now same = same
out_count (Err fault.Net) before now same = same
out_count (Err fault.NoMemory) before now same = same

pub out_leaves : (text : List ℕ) (r : Result Going ServeFault) (old new : List ℕ) →
    new ≡ old ++ text → OutLeaves text (conclusion_of r) old new
out_leaves text (Ok going) old new whole = whole
out_leaves text (Err fault.Net) old new whole = whole
out_leaves text (Err fault.NoMemory) old new whole = inr whole

-- ---- weaker grounds

-- runs that never fail break nothing
pub none_broke : {R : Type 0} → HasBroken {R = R} (λ _. 0) → ⊥
none_broke h = let some = h.1 in omega (arith, some)

pub added_for : {L P : Type 0} (service : Service) (g h : Grounds) → (g.shutdown → h.shutdown) →
    (g.broke → h.broke) →
    (state : L → LinkState) (faults : L → ℕ) (net : NetState L P) (old new : List (Retired L)) →
    Added (EntryHolds service g state faults net) old new →
    Added (EntryHolds service h state faults net) old new
added_for service g h downs breaks state faults net old new a = record {
  entries = a.entries;
  whole = a.whole;
  each = each_map _ _ (weaker_entry service g h downs breaks state faults net) a.entries a.each;
}

-- by what is judged who is owed this
abbrev pub judged : Bool → Bool → ℕ → (Peer → Input → Owed) → Service
judged link all timeout owed =
    record { tells = record { link = link; all = all }; timeout = timeout; owed = owed }

-- by another that tells only where this one does, and then owes the same
module _ {L P : Type 0} (link all all' : Bool) (timeout : ℕ) (owed owed' : Peer → Input → Owed)
    (knows : IsTrue all' → IsTrue all × (owed ≡ owed')) (broke broke' : Type 0)
    (breaks : broke → broke') where
  told_end : (g : Grounds) (net : NetState L P) (state : LinkState) (count : ℕ) (peer : Peer)
      (x : Input) (end : End) →
      EndHolds (judged link all timeout owed) g net state count (owed peer x) end →
      EndHolds (judged link all' timeout owed') g net state count (owed' peer x) end
  told_end g net state count peer x over.Done is = λ told.
      subst (λ o. IsServed state (o peer x)) (knows told).1 (is (knows told).0)
  told_end g net state count peer x over.LinkFault is = is
  told_end g net state count peer x over.SpillFault is = is
  told_end g net state count peer x over.AppFault is = is
  told_end g net state count peer x over.NoMemory is = is
  told_end g net state count peer x (over.TimedOut touched now) is = (
    record {
      touched_is = is.0.touched_is;
      late = is.0.late;
      idle = λ told. subst (λ o. (state.sent ≡ (o peer x).output) ⊎ IsTrue state.choked)
          (knows told).1 (is.0.idle (knows told).0);
    },
    is.1,
  )
  told_end g net state count peer x over.ShutDown is = is

  told_entry : (g : Grounds) (state : L → LinkState) (faults : L → ℕ) (net : NetState L P)
      (entry : Retired L) →
      EntryHolds (judged link all timeout owed) g state faults net entry →
      EntryHolds (judged link all' timeout owed') g state faults net entry
  told_entry g state faults net entry is = record {
    prefix = λ told. subst (λ o. IsPrefix (state entry.link).sent
        (o entry.peer (state entry.link).arrivals).output) (knows told).1
        (is.prefix (knows told).0);
    timely = is.timely;
    cause = told_end g net (state entry.link) (faults entry.link) entry.peer
        (state entry.link).arrivals entry.end is.cause;
  }

  pub ran_told : (fallen : ℕ) (e : Eyes L P) (listen : List Listen) (c : Conclusion)
      (before now : ℕ) (old new : NetState L P) →
      Ran (judged link all timeout owed) broke fallen e listen c before now old new →
      Ran (judged link all' timeout owed') broke' fallen e listen c before now old new
  ran_told fallen e listen c before now old new r = record {
    headline = added_for (judged link all' timeout owed') (grounds (IsDownBy c old new) broke)
        (grounds (IsDownBy c old new) broke') (λ d. d) breaks e.state e.faults new old.closed
        new.closed
        (record {
          entries = r.headline.entries;
          whole = r.headline.whole;
          each =
              each_map _ _ (told_entry (grounds (IsDownBy c old new) broke) e.state e.faults new)
              r.headline.entries r.headline.each;
        });
    shut_last = r.shut_last;
    given = r.given;
    live = r.live;
    quiet = r.quiet;
    bound = r.bound;
    settled = r.settled;
    fell = r.fell;
    net = r.net;
    unstopped = r.unstopped;
    complete = λ none linked told quiet still brief. subst
        (λ o. DoneAdds (IsAnswered e.state e.faults o) c old.closed new.closed) (knows told).1
        (r.complete none linked (knows told).0 quiet still brief);
  }

-- no run failed that can't
pub none_left : {R : Type 0} (runs : List R) → All (λ run. 0 < 0) runs → length runs ≡ 0
none_left [] all = refl
none_left (run ∷ runs) all =
    absurd (let some = All-head (λ r. 0 < 0) run runs all in omega (arith, some))

-- the fallen runs are counted by the tree
pub settles_runs : {L P : Type 0} (service : Service) (broke : Type 0) (faults faults' : ℕ)
    (e : Eyes L P) (listen : List Listen) (c : Conclusion) (before now : ℕ)
    (old new : NetState L P) →
    RanOver service broke faults faults' e listen c before now old new →
    SettlesRuns faults faults' old.closed new.closed
settles_runs service broke faults faults' e listen c before now old new r = record {
  entries = r.ran.fell.entries;
  whole = r.ran.fell.whole;
  counted = subst (λ n. added faults n ≤ faults') r.ran.fell.count r.counted;
}

all_tell : (links spills app : Bool) → IsTrue links → IsTrue spills → IsTrue app →
    IsTrue (links && (spills && app))
all_tell true true true link spill told = refl
all_tell true true false link spill told = told
all_tell true false app link spill told = spill
all_tell false spills app link spill told = link

-- what is asked for was read
pub read_complete : {L P : Type 0} (links spills files : Bool) (named : Files)
    (asked read : Reading) → asked ≡ read → (broke : Type 0) (faults faults' : ℕ) (e : Eyes L P)
    (listen : List Listen) (c : Conclusion) (before now : ℕ) (old new : NetState L P) →
    RanOver (service_for (telling links spills (told_by read spills files)) named read) broke faults
    faults' e listen c before now old new → IsTrue links → IsTrue spills →
    IsTrue (told_by asked spills files) →
    IsTrue old.quiet → IsStill before now → IsStill faults faults' →
    IsBrief (timeout_by asked) new → DoneAdds (IsAnswered e.state e.faults (owed_by named asked)) c
    old.closed new.closed
read_complete links spills files named asked read is broke faults faults' e listen c before now old
    new r link spill app quiet still unbroken =
    subst (λ a. IsBrief (timeout_by a) new → DoneAdds (IsAnswered e.state e.faults
    (owed_by named a)) c old.closed new.closed) (sym is)
    (r.ran.complete (none_counted faults faults' r.fallen unbroken r.counted) link
    (all_tell links spills (told_by read spills files) link spill
    (subst (λ a. IsTrue (told_by a spills files)) is app)) quiet still)

pub read_headline : {L P : Type 0} (links spills files : Bool) (named : Files)
    (asked read : Reading) → asked ≡ read → (faults faults' : ℕ) (e : Eyes L P)
    (listen : List Listen) (c : Conclusion) (before now : ℕ) (old new : NetState L P) →
    RanOver (service_for (telling links spills (told_by read spills files)) named read)
    (IsTrue (reads_files read)) faults faults' e listen c before now old new →
    Added (EntryHolds (service_for (telling links spills (told_by asked spills files)) named asked)
    (grounds (IsDownBy c old new) (IsTrue (reads_files asked))) e.state e.faults new) old.closed
    new.closed
read_headline links spills files named asked read is faults faults' e listen c before now old new r
    =
    subst (λ a. Added (EntryHolds (service_for (telling links spills (told_by a spills files))
    named a) (grounds (IsDownBy c old new) (IsTrue (reads_files a))) e.state e.faults new)
    old.closed new.closed) (sym is) r.ran.headline

-- why the whole server went down, where a report says so
pub report_down : {L P : Type 0} (status result : ℕ) (old new : NetState L P) (before now : ℕ) →
    (status ≡ 4) ⊎ (status ≡ 5) → Written status result before now ⊎ Unwritten result before now →
    WentDown result old new before now
report_down status result old new before now four h =
    elim h [
      | inl w ↦ elim four [
        | inl e ↦ inr (inl (w.status_is ∙ e))
        | inr e ↦ inr
            (inr (inl (w.status_is ∙ e)))
      ]
      | inr w ↦ inr (inr (inr (w.six, w.rose)))
    ]

-- nobody came
pub keeps_same : {L P : Type 0} (limit : Option ℕ) (old new : NetState L P) →
    new.given ≡ old.given → KeepsLimit limit old new
keeps_same None old new e = tt
keeps_same (Some limit) old new e = let n = ap length e in omega (arith, n)
