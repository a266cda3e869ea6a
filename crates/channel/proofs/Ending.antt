-- Why a channel ends, and why it always stirs.
use Rattle.std.proofs.Common.{◌≡◌, ◌<◌, ◌+◌, ℕ, Bool, true, false, IsTrue, List, [], ◌∷◌, length}
use Rattle.std.proofs.Common.{Option, Some, None, refl, sym, ap, subst, ◌∙◌, IsSome, inl, inr}
use Rattle.std.proofs.Common.{true≢false, ltb-true, ltb-false, le-leb, eq-eqb, arith}
use Rattle.std.specs.Prelude.{◌||◌, ◌&&◌, ◌⊎◌, not, is_some, map, nat_le, nat_lt, nat_eq}
use Rattle.std.specs.Prelude.{if◌then◌else◌}
use Rattle.std.specs.List.{list_any}
use Rattle.std.specs.Option.{ForSome}
use Rattle.outside.specs.declared.types.End.{End}
use Rattle.outside.specs.declared.types.End.TheVariants as over
use Rattle.request_stream.specs.Asks.{asks}
use Rattle.request_stream.specs.Units.{closing}
use Rattle.request_stream.specs.declared.types.Unit.{Unit as AUnit}
use Rattle.spill_buffer.specs.Buffer.{Buffered}
use Rattle.channel.specs.Acting.{has_counted, is_done, output_length, spill_by, unit_count}
use Rattle.channel.specs.Agreement.{Agrees, Known, death_of, end_by}
use Rattle.channel.specs.Histories.{LeftPast, RightPast}
use Rattle.channel.specs.Owed.{owed_by}
use Rattle.channel.specs.Showing.{shown_of}
use Rattle.channel.specs.Sides.{Answers, KeepsSide, Side, is_breaking, is_killer, loses_units}
use Rattle.channel.specs.State.{State}
use Rattle.channel.specs.Views.{Counted, EndsBy, Stirs, over_by}
use Rattle.channel.specs.declared.types.Cause.{Cause}
use Rattle.channel.specs.declared.types.Cause.TheVariants as cause
use Rattle.channel.specs.declared.types.Window.{Window}
use Rattle.channel.proofs.ActLemmas.{none_killed, same}
use Rattle.channel.proofs.Headline.{closes_whole, drained_idle, sent_whole}
use Rattle.channel.proofs.LeftTurns.{broke_by}
use Rattle.channel.proofs.StepLemmas.{closing_by_units}

-- ---- who ended it

dead_by : (dead : Option End) (done : Bool) (end : End) → over_by dead done ≡ Some end →
    (end ≡ over.Done → ⊥) → dead ≡ Some end
dead_by (Some x) done end e not_done = e
dead_by None true end e not_done = absurd (not_done (sym (same _ _ e)))
dead_by None false end e not_done = cc

-- an end that no break brings
killed_by : (end : End) (killed : Option End) (broke : Option Cause) → death_of killed broke
    ≡ Some end → ((c : Cause) → end_by c ≡ end → ⊥) → killed ≡ Some end
killed_by end (Some x) broke e unbroken = e
killed_by end None (Some c) e unbroken = absurd (unbroken c (same _ _ e))
killed_by end None None e unbroken = cc

no_link : (c : Cause) → end_by c ≡ over.LinkFault → ⊥
no_link cause.Spill e = cc
no_link cause.App e = cc
no_link cause.NoMemory e = cc

no_time : (t n : ℕ) (c : Cause) → end_by c ≡ over.TimedOut t n → ⊥
no_time t n cause.Spill e = cc
no_time t n cause.App e = cc
no_time t n cause.NoMemory e = cc

no_shut : (c : Cause) → end_by c ≡ over.ShutDown → ⊥
no_shut cause.Spill e = cc
no_shut cause.App e = cc
no_shut cause.NoMemory e = cc

counted : {T : Type 0} (faults : T → ℕ) (o : Option T) → IsTrue (has_counted faults o) →
    Counted faults o
counted faults None e = cc
counted faults (Some x) e = ltb-true _ _ e

either : {S R : Type 0} (spill : S → ℕ) (body : R → ℕ) (o : Option S) (p : Option R) →
    (has_counted spill o || has_counted body p) ≡ true → Counted spill o ⊎ Counted body p
either spill body None p e = inr (counted body p e)
either spill body (Some x) p e = by (nat_lt 0 (spill x)) refl e
  where
    by : (b : Bool) → nat_lt 0 (spill x) ≡ b → (b || has_counted body p) ≡ true →
        Counted spill (Some x) ⊎ Counted body p
    by true f e = inl (ltb-true _ _ f)
    by false f e = inr (counted body p e)

-- the parts of what all tell
pub all_parts : (a b c : Bool) → (a && (b && c)) ≡ true → (a ≡ true) × ((b ≡ true) × (c ≡ true))
all_parts true true true e = (refl, (refl, refl))
all_parts true true false e = cc
all_parts true false c e = cc
all_parts false b c e = cc

-- what was taken out at the end, or stood in the state
pub record HandsOut {A R S : Type 0} (known : Known A R S) (state : State A R S) (side : Side)
    (broken : Option S) (fallen : Option R) : Type 0 where
  pub spill_out : side.buried ≡ true → side.spill_out
      ≡ (has_counted known.spill_faults broken || has_counted known.body_faults fallen)
  pub run_out : side.buried ≡ true → side.run_out ≡ has_counted known.run_faults fallen
  pub run : side.buried ≡ false → fallen ≡ state.fallen
  pub spill : side.buried ≡ false → state.fallen ≡ None → state.dead ≡ Some over.SpillFault →
      broken ≡ spill_by state.output None

module _ {A R S : Type 0} (known : Known A R S) (state : State A R S) (left : LeftPast S)
    (right : RightPast S) (side : Side)
    (agrees : Agrees known state left right) (keeps : KeepsSide known.spill_tells
    state.fixed.value.limits state.fixed.value.window.timeout side left)
    (answers : Answers side state) (broken : Option S) (fallen : Option R)
    (out : HandsOut known state side broken fallen) where
  unburied : side.buried ≡ false → left.buried ≡ false
  unburied b = sym keeps.buried ∙ b

  why : (end : End) → state.dead ≡ Some end → is_breaking end ≡ true → side.buried ≡ false →
      (end ≡ over.SpillFault → right.broke ≡ Some cause.Spill)
      × (end ≡ over.AppFault → right.broke ≡ Some cause.App)
  why end dead breaks b = broke_by known end left.killed right.broke (sym agrees.death.dead_is
      ∙ dead) breaks (λ k. true≢false (sym (keeps.broke k) ∙ unburied b)) keeps.killer

  spill_ends : state.dead ≡ Some over.SpillFault → Counted known.spill_faults broken
      ⊎ Counted known.body_faults fallen
  spill_ends dead = by side.buried refl
    where
      from : (o : Option R) → state.fallen ≡ o → side.buried ≡ false →
          Counted known.spill_faults broken ⊎ Counted known.body_faults fallen
      from (Some run) is b =
          let keeps_broken = agrees.death.broken (unburied b) in
          inr (subst (λ (o : Option R). Counted known.body_faults o) (sym (out.run b ∙ is))
          (keeps_broken.body ((why over.SpillFault dead refl b).0 refl) run is))
      from None is b =
          let keeps_broken = agrees.death.broken (unburied b) in
          let broke = (why over.SpillFault dead refl b).0 refl in
          inl (subst (λ (o : Option S). Counted known.spill_faults o) (sym (out.spill b is dead))
          (at state.output (keeps_broken.stands broke) (keeps_broken.spill broke is)))
        where
          at : (o : Option (Buffered S)) → IsTrue (is_some o) →
              ForSome o (λ x. 0 < known.spill_faults x.spill) →
              Counted known.spill_faults (spill_by o None)
          at None there counts = cc
          at (Some x) there counts = counts x refl

      by : (b : Bool) → side.buried ≡ b → Counted known.spill_faults broken
          ⊎ Counted known.body_faults fallen
      by true b = either known.spill_faults known.body_faults broken fallen (sym (out.spill_out b)
          ∙ answers.spill b dead)
      by false b = from state.fallen refl b

  app_ends : state.dead ≡ Some over.AppFault → Counted known.run_faults fallen
  app_ends dead = by side.buried refl
    where
      at : (o : Option R) → IsTrue (is_some o) → ForSome o (λ x. 0 < known.run_faults x) →
          Counted known.run_faults o
      at None there counts = cc
      at (Some x) there counts = counts x refl

      by : (b : Bool) → side.buried ≡ b → Counted known.run_faults fallen
      by true b = counted known.run_faults fallen (sym (out.run_out b) ∙ answers.app b dead)
      by false b =
          let broke = (why over.AppFault dead refl b).1 refl in
          let keeps_broken = agrees.death.broken (unburied b) in
          subst (λ (o : Option R). Counted known.run_faults o) (sym (out.run b))
          (at state.fallen (keeps_broken.app broke) (keeps_broken.app_counted broke))

  pub ends_by : (end : End) → over_by state.dead (is_done state side.ended) ≡ Some end →
      EndsBy (record {
        link = side.tells;
        all = side.tells
            && (known.spill_tells && known.app_tells);
      }) (record {
        spill = known.spill_faults;
        run =
            known.run_faults;
        body = known.body_faults;
      })
      state.fixed.value.window.timeout (record {
        link = side.link;
        faults = side.faults;
        owed =
            owed_by known.script state.fixed.value side.link.arrivals;
        broken = broken;
        fallen =
            fallen;
      }) end
  ends_by over.Done e = λ all.
      let tells = all_parts side.tells known.spill_tells known.app_tells all in
      record {
        whole = sent_whole known state left right side agrees keeps tells.0 tells.1.0 tells.1.1 _ _
            _ refl refl refl side.ended e;
        over = closes_whole known state left right side agrees keeps tells.0 tells.1.0 tells.1.1 e;
      }
  ends_by over.LinkFault e = keeps.link_fault (killed_by over.LinkFault left.killed right.broke
      (sym agrees.death.dead_is ∙ dead_by state.dead (is_done state side.ended) over.LinkFault e
      (λ f. cc)) no_link)
  ends_by over.SpillFault e = spill_ends (dead_by state.dead
      (is_done state side.ended) over.SpillFault e (λ f. cc))
  ends_by over.AppFault e = app_ends (dead_by state.dead (is_done state side.ended) over.AppFault e
      (λ f. cc))
  ends_by over.NoMemory e = tt
  ends_by (over.TimedOut t n) e =
      let dead = dead_by state.dead (is_done state side.ended) (over.TimedOut t n) e (λ f. cc) in
      let killed = killed_by (over.TimedOut t n) left.killed right.broke (sym agrees.death.dead_is
      ∙ dead) (no_time t n) in
      let timed = keeps.timed t n killed in
      record {
        touched_is = λ tells. timed.0 ∙ keeps.touched tells;
        late = timed.1;
        idle = λ all. let tells = all_parts side.tells known.spill_tells known.app_tells all in
            by tells.0 tells.1.0 tells.1.1 dead killed side.link.choked refl;
      }
    where
      by : IsTrue side.tells → IsTrue known.spill_tells → IsTrue known.app_tells →
          state.dead ≡ Some (over.TimedOut t n) → left.killed ≡ Some (over.TimedOut t n) →
          (b : Bool) → side.link.choked ≡ b →
          (side.link.sent ≡ (owed_by known.script state.fixed.value side.link.arrivals).output)
          ⊎ IsTrue side.link.choked
      by l s a dead killed true c = inr c
      by l s a dead killed false c = inl (drained_idle known state left right side agrees keeps l s
          a (ap loses_units killed) (answers.idle t n dead l c))
  ends_by over.ShutDown e =
      let dead = dead_by state.dead (is_done state side.ended) over.ShutDown e (λ f. cc) in
      let killed = killed_by over.ShutDown left.killed right.broke (sym agrees.death.dead_is
      ∙ dead) no_shut in
      let kills : IsTrue (is_killer over.ShutDown) = keeps.killer over.ShutDown killed in cc

-- ---- it stirs

no_some : {X : Type 0} (o : Option X) → o ≡ None → IsSome o → ⊥
no_some None e f = cc
no_some (Some x) e f = cc

some_false : {X : Type 0} (o : Option X) → is_some o ≡ false → o ≡ None
some_false None e = refl
some_false (Some x) e = cc

or_right : (a : Bool) → (a || true) ≡ true
or_right true = refl
or_right false = refl

module _ {A R S : Type 0} (known : Known A R S) (state : State A R S) (left : LeftPast S)
    (right : RightPast S) (side : Side) (w : Window) (steps : ℕ)
    (agrees : Agrees known state left right) (keeps : KeepsSide known.spill_tells
    state.fixed.value.limits state.fixed.value.window.timeout side left)
    (shut : list_any closing (map asks right.finished) ≡ true → right.closed ≡ true) where
  nil_by : (us : List (AUnit S)) (b : Bool) → length us + (if b then 1 else 0) ≡ 0 →
      (us ≡ []) × (b ≡ false)
  nil_by [] true e = absurd (omega (arith, e))
  nil_by [] false e = (refl, refl)
  nil_by (u ∷ us) b e = absurd (omega (arith, e))

  -- where the stream gives no further unit, and nothing is ready or current, the channel closes
  finished_closes : state.dead ≡ None → unit_count state ≡ 0 →
      (side.story.failed || side.story.over) ≡ true → state.closing ≡ true
  finished_closes alive idle finished =
      let killed = none_killed _ _ _ _ _ _ _ _ agrees.death alive in
      let parts = nil_by state.ready state.current idle in
      closing_by_units known state left right agrees shut parts.0 parts.1 (sym (keeps.shut killed)
      ∙ by side.story.failed refl finished killed)
    where
      by : (f : Bool) → side.story.failed ≡ f → (f || side.story.over) ≡ true → left.killed ≡ None →
          side.story.over ≡ true
      by true e finished killed = absurd (no_some left.killed killed (keeps.failed e))
      by false e finished killed = finished

  pub stirs_by : Stirs w (shown_of side.story side.ended side.touched state left right steps)
  stirs_by = stir state.closing (side.story.failed || side.story.over) side.ended
      (is_some state.dead) (nat_lt 0 (unit_count state)) (nat_lt 0 (output_length state))
      (nat_le (unit_count state) w.lookahead) (nat_eq (output_length state) 0)
      (λ k. le-leb (unit_count state) w.lookahead (let none = none_at (unit_count state) k in
      omega (arith, none)))
      (λ m. eq-eqb (output_length state) 0 (none_at (output_length state) m))
      (λ d k f. finished_closes (some_false state.dead d) (none_at (unit_count state) k) f)
    where
      none_at : (n : ℕ) → nat_lt 0 n ≡ false → n ≡ 0
      none_at n e = let none = ltb-false 0 n e in omega (arith, none)

      stir : (c f n d k m l e : Bool) → (k ≡ false → l ≡ true) → (m ≡ false → e ≡ true) →
          (d ≡ false → k ≡ false → f ≡ true → c ≡ true) →
          ((not c && not f && not n && l && e) || (m || (k || (d || (not k && (e && (c || n)))))))
          ≡ true
      stir c f n d k true l e p q r = or_right (not c && not f && not n && l && e)
      stir c f n d true false l e p q r = or_right (not c && not f && not n && l && e)
      stir c f n true false false l e p q r = or_right (not c && not f && not n && l && e)
      stir c f n false false false false e p q r = let bad = p refl in cc
      stir c f n false false false true false p q r = let bad = q refl in cc
      stir true f n false false false true true p q r = refl
      stir false true n false false false true true p q r = let bad = r refl refl refl in cc
      stir false false true false false false true true p q r = refl
      stir false false false false false false true true p q r = refl
