-- Turns of the polling side.
use Rattle.std.proofs.Common.{◌≡◌, ◌≤◌, ◌<◌, ◌+◌, ◌-◌, ℕ, Bool, true, false, IsTrue, List, [], ◌∷◌}
use Rattle.std.proofs.Common.{◌++◌, length, take, drop, Option, Some, None, refl, sym, ap, subst}
use Rattle.std.proofs.Common.{◌∙◌, arith, lt-ltb, true≢false, append-nil}
use Rattle.std.specs.Prelude.{◌&&◌, ◌||◌, if◌then◌else◌, is_some, map, min, nat_lt}
use Rattle.std.specs.Option.{ForSome}
use Rattle.std.specs.List.{list_any}
use Rattle.std.proofs.lemmas.List.Sums.{fold-append}
use Rattle.outside.specs.Link.{LinkState, Sends}
use Rattle.outside.specs.declared.types.End.{End}
use Rattle.outside.specs.declared.types.End.TheVariants as over
use Rattle.outside.specs.declared.types.Sent.TheVariants.{Took}
use Rattle.outside.specs.declared.noted.Noted.{Noted}
use Rattle.channel.specs.declared.shared.Fixed.{Fixed}
use Rattle.request_stream.specs.Asks.{IsAdded, asks}
use Rattle.request_stream.specs.Units.{Asked, closing, units}
use Rattle.request_stream.specs.declared.types.Unit.{Unit as AUnit}
use Rattle.spill_buffer.specs.Buffer.{Buffered, IsToldAs}
use Rattle.channel.specs.Acting.{Skips, Touches, has_counted, length_of, lent_of, output_length}
use Rattle.channel.specs.Acting.{spill_by, unit_count}
use Rattle.channel.specs.Views.{over_by}
use Rattle.channel.specs.Agreement.{Agrees, KeepsBroken, Known, death_of}
use Rattle.channel.specs.Histories.{LeftEntry, LeftPast, RightPast, left_acts, left_by, left_turn}
use Rattle.channel.specs.Sides.{Answers, IsIdle, KeepsSide, Side, TurnsLeft, is_breaking, is_killer}
use Rattle.channel.specs.Sides.{loses_units}
use Rattle.channel.specs.declared.types.Cause.{Cause}
use Rattle.channel.specs.declared.types.Cause.TheVariants as cause
use Rattle.std.proofs.lemmas.List.{length-drop, length-take, length-take-le, take-take, take_min}
use Rattle.std.proofs.Math.Seq.{take-length}
use Rattle.channel.specs.State.{State}
use Rattle.channel.specs.declared.acts.LeftAct.{LeftAct}
use Rattle.channel.specs.declared.acts.LeftAct.TheVariants.{Put, Drained, Killed, Buried}
use Rattle.channel.proofs.ActLemmas.{buried_agrees, drained_agrees, killed_agrees, none_buried}
use Rattle.channel.proofs.ActLemmas.{none_killed, put_agrees, same, touched_agrees}
use Rattle.channel.proofs.SideLemmas.{no_kill, side_breaks, side_drains, side_ends}
use Rattle.channel.proofs.SideLemmas.{side_puts}

module _ {A R S : Type 0} (known : Known A R S) where
  abbrev pub LTurns : Side → Side → State A R S → State A R S → LeftEntry S → Type 0
  LTurns old_side new_side old new entry = TurnsLeft known old_side new_side old new entry

  -- one turn is what two parts of it are
  pub left_then : (s t u : Side) (a b c : State A R S) (e f both : LeftEntry S) →
      both.value ≡ e.value ++ f.value → LTurns s t a b e → LTurns t u b c f → LTurns s u a c both
  left_then s t u a b c e f both is first second =
      let acts : (l : LeftPast S) → left_turn l both ≡ left_turn (left_turn l e) f =
      λ l. ap (left_acts l) is ∙ fold-append left_by l e.value f.value in
      let mid : (l : LeftPast S) (r : RightPast S) → Agrees known a l r →
      KeepsSide known.spill_tells a.fixed.value.limits a.fixed.value.window.timeout s l →
      KeepsSide known.spill_tells b.fixed.value.limits b.fixed.value.window.timeout t
      (left_turn l e)
      = λ l r was side. subst (λ (z : Noted (Fixed A)). KeepsSide known.spill_tells z.value.limits
      z.value.window.timeout t (left_turn l e)) (sym first.fixed) (first.keeps l r was side) in
      record {
        fixed = second.fixed ∙ first.fixed;
        agrees = λ l r was side. subst (λ (x : LeftPast S). Agrees known c x r) (sym (acts l))
            (second.agrees (left_turn l e) r (first.agrees l r was side) (mid l r was side));
        keeps = λ l r was side. subst (λ (x : LeftPast S). KeepsSide known.spill_tells
            a.fixed.value.limits a.fixed.value.window.timeout u x) (sym (acts l))
            (subst (λ (z : Noted (Fixed A)). KeepsSide known.spill_tells z.value.limits
            z.value.window.timeout u (left_turn (left_turn l e) f)) first.fixed
            (second.keeps (left_turn l e) r (first.agrees l r was side) (mid l r was side)));
        answers = λ l r was side a. second.answers (left_turn l e) r (first.agrees l r was side)
            (mid l r was side) (first.answers l r was side a);
      }

  -- a channel that is alive has nothing to answer for
  answers_alive : (side : Side) (state : State A R S) → state.dead ≡ None → Answers side state
  answers_alive side state alive = record {
    idle = λ at now e. absurd (no_kill _ _ alive e);
    spill = λ b e. absurd (no_kill _ _ alive e);
    app = λ b e. absurd (no_kill _ _ alive e);
  }

  module _ (old_side new_side : Side) (old new : State A R S) (entry : LeftEntry S)
      (alive : old.dead ≡ None) (tells : new_side.tells ≡ old_side.tells) where
    none : (l : LeftPast S) (r : RightPast S) → Agrees known old l r → l.killed ≡ None
    none l r was = none_killed _ _ _ _ _ _ _ _ was.death alive

    -- the link took bytes
    pub left_drains : new_side.buried ≡ old_side.buried →
        (before after : Buffered S) (bytes : List ℕ) → old.output ≡ Some before →
        IsToldAs known.spill_tells after.bytes (drop (length bytes) before.bytes) →
        length bytes ≤ length before.bytes →
        (IsTrue known.spill_tells → bytes ≡ take (length bytes) before.bytes) →
        new ≡ record old { output = Some after } → entry.value ≡ Drained bytes ∷ [] →
        new_side.story ≡ old_side.story →
        (IsTrue old_side.tells → new_side.link.arrivals ≡ old_side.link.arrivals) →
        (IsTrue old_side.tells → new_side.link.sent ≡ old_side.link.sent ++ bytes) →
        ((IsTrue old_side.tells → old_side.ended ≡ old_side.link.ended) → IsTrue old_side.tells →
        new_side.ended ≡ new_side.link.ended) →
        (IsTrue old_side.tells → new_side.touched ≡ new_side.link.touched) →
        LTurns old_side new_side old new entry
    left_drains buried before after bytes had told within taken e is story arrivals sent ended
        touched = record {
          fixed = ap (λ s. s.fixed) e;
          agrees = λ l r was kept. subst (λ (acts : List (LeftAct S)). Agrees known new
              (left_acts l acts) r) (sym is)
              (subst (λ (s : State A R S). Agrees known s (left_by l (Drained bytes)) r) (sym e)
              (drained_agrees known old l r before after bytes alive had told within taken was));
          keeps = λ l r was kept. subst (λ (acts : List (LeftAct S)). KeepsSide known.spill_tells
              old.fixed.value.limits old.fixed.value.window.timeout new_side (left_acts l acts))
              (sym is)
              (side_drains _ _ _ _ _ l tells (none l r was) kept bytes buried story arrivals sent
              (ended kept.ended) touched);
          answers = λ l r was kept a. answers_alive new_side new (ap (λ s. s.dead) e ∙ alive);
        }

    -- units are put
    pub left_puts : new_side.buried ≡ old_side.buried → (us : List (AUnit S)) →
        old.closing ≡ false → new ≡ record old { ready = old.ready ++ us } →
        entry.value ≡ Put us new_side.story.held ∷ [] →
        new_side.story.limits ≡ old_side.story.limits → new_side.story.failed
        ≡ old_side.story.failed →
        (old_side.story.failed ≡ false → IsAdded known.spill_tells us
        (units old_side.story.limits old_side.story.fed)
        (units old_side.story.limits new_side.story.fed)) →
        (old_side.story.failed ≡ false → new_side.story.over
        ≡ (old_side.story.over || list_any closing (map asks us))) →
        ((IsTrue old_side.tells → old_side.story.fed ≡ old_side.link.arrivals) →
        IsTrue old_side.tells → new_side.story.fed ≡ new_side.link.arrivals) →
        (IsTrue old_side.tells → new_side.link.sent ≡ old_side.link.sent) →
        ((IsTrue old_side.tells → old_side.ended ≡ old_side.link.ended) → IsTrue old_side.tells →
        new_side.ended ≡ new_side.link.ended) →
        (IsTrue old_side.tells → new_side.touched ≡ new_side.link.touched) →
        LTurns old_side new_side old new entry
    left_puts buried us open' e is limits failed grown closes fed sent ended touched = record {
      fixed = ap (λ s. s.fixed) e;
      agrees = λ l r was kept. subst (λ (acts : List (LeftAct S)). Agrees known new
          (left_acts l acts) r) (sym is)
          (subst (λ (s : State A R S). Agrees known s (left_by l (Put us new_side.story.held)) r)
          (sym e) (put_agrees known old l r us new_side.story.held open' alive was));
      keeps = λ l r was kept. subst (λ (acts : List (LeftAct S)). KeepsSide known.spill_tells
          old.fixed.value.limits old.fixed.value.window.timeout new_side (left_acts l acts))
          (sym is)
          (side_puts _ _ _ _ _ l tells (none l r was) kept us new_side.story.held buried limits
          failed refl grown closes (fed kept.fed) sent (ended kept.ended) touched);
      answers = λ l r was kept a. answers_alive new_side new (ap (λ s. s.dead) e ∙ alive);
    }

    -- it is killed, whatever the last piece brought
    pub left_kills : new_side.buried ≡ old_side.buried →
        (end : End) (piece : List (ℕ × ℕ)) (more : List Asked) → (end ≡ over.SpillFault → ⊥) →
        IsTrue (is_killer end) → new ≡ record old { dead = Some end } →
        entry.value ≡ Killed end ∷ [] →
        new_side.story.limits ≡ old_side.story.limits → new_side.story.fed
        ≡ old_side.story.fed ++ piece →
        units old_side.story.limits (old_side.story.fed ++ piece)
        ≡ units old_side.story.limits old_side.story.fed ++ more →
        (loses_units (Some end) ≡ false → more ≡ []) →
        (IsTrue old_side.tells → new_side.link.arrivals ≡ old_side.link.arrivals ++ piece) →
        (IsTrue old_side.tells → new_side.link.sent ≡ old_side.link.sent) →
        ((IsTrue old_side.tells → old_side.ended ≡ old_side.link.ended) → IsTrue old_side.tells →
        new_side.ended ≡ new_side.link.ended) →
        ((IsTrue old_side.tells → old_side.touched ≡ old_side.link.touched) →
        IsTrue old_side.tells → new_side.touched ≡ new_side.link.touched) →
        (end ≡ over.LinkFault → 0 < new_side.faults) →
        ((at now : ℕ) → end ≡ over.TimedOut at now → (at ≡ new_side.touched)
        × (at + old.fixed.value.window.timeout < now)) →
        ((at now : ℕ) → end ≡ over.TimedOut at now → IsTrue new_side.tells → new_side.link.choked
        ≡ false → (unit_count old ≡ 0) × (output_length old ≡ 0)) →
        LTurns old_side new_side old new entry
    left_kills buried end piece more unbroken kills e is limits fed begins lost arrivals sent ended
        touched link timed idle = record {
          fixed = ap (λ s. s.fixed) e;
          agrees = λ l r was kept. subst (λ (acts : List (LeftAct S)). Agrees known new
              (left_acts l acts) r) (sym is)
              (subst (λ (s : State A R S). Agrees known s (left_by l (Killed end)) r) (sym e)
              (killed_agrees known old l r end alive was));
          keeps = λ l r was kept. subst (λ (acts : List (LeftAct S)). KeepsSide known.spill_tells
              old.fixed.value.limits old.fixed.value.window.timeout new_side (left_acts l acts))
              (sym is)
              (side_ends _ _ _ _ _ l tells (none l r was) kept (left_by l (Killed end))
              end refl refl
              refl (buried ∙ kept.buried) (λ e. absurd (unbroken e)) kills limits
              piece
              more
              (subst (λ z. units z (old_side.story.fed ++ piece)
              ≡ units z old_side.story.fed ++ more) kept.limits_are begins) fed lost arrivals sent
              (ended kept.ended) (touched kept.touched) link timed);
          answers = λ l r was kept a.
              let first : new_side.buried ≡ false = buried
              ∙ (kept.buried ∙ none_buried _ _ _ _ _ _ _ _ was.death alive) in
              record {
                idle = λ at now d t c.
                    let found = idle at now (same _ _ (sym (ap (λ s. s.dead) e) ∙ d)) t c in
                    subst (λ (s : State A R S). IsIdle s) (sym e) (record {
                      no_units = found.0;
                      stands =
                          was.death.stands alive;
                      no_output = found.1;
                    });
                spill = λ b d. absurd (true≢false (sym b ∙ first));
                app = λ b d. absurd (true≢false (sym b ∙ first));
              };
        }

    -- the output's spill was asked, and the link failed
    pub left_fails : new_side.buried ≡ old_side.buried → (mid : State A R S) →
        Touches known.spill_tells old mid → new ≡ record mid { dead = Some over.LinkFault } →
        entry.value ≡ Killed over.LinkFault ∷ [] → new_side.story ≡ old_side.story →
        (IsTrue old_side.tells → new_side.link.arrivals ≡ old_side.link.arrivals) →
        (IsTrue old_side.tells → new_side.link.sent ≡ old_side.link.sent) →
        ((IsTrue old_side.tells → old_side.ended ≡ old_side.link.ended) → IsTrue old_side.tells →
        new_side.ended ≡ new_side.link.ended) →
        ((IsTrue old_side.tells → old_side.touched ≡ old_side.link.touched) →
        IsTrue old_side.tells → new_side.touched ≡ new_side.link.touched) →
        0 < new_side.faults → LTurns old_side new_side old new entry
    left_fails buried mid touches e is story arrivals sent ended touched counted = record {
      fixed = ap (λ s. s.fixed) e ∙ ap (λ s. s.fixed) touches.now;
      agrees = λ l r was kept. subst (λ (acts : List (LeftAct S)). Agrees known new
          (left_acts l acts) r) (sym is)
          (subst (λ (s : State A R S). Agrees known s (left_by l (Killed over.LinkFault)) r) (sym e)
          (killed_agrees known mid l r over.LinkFault (ap (λ s. s.dead) touches.now ∙ alive)
          (subst (λ (s : State A R S). Agrees known s l r) (sym touches.now)
          (touched_agrees known old l r touches.before touches.after alive touches.had
          touches.bytes was))));
      keeps = λ l r was kept. subst (λ (acts : List (LeftAct S)). KeepsSide known.spill_tells
          old.fixed.value.limits old.fixed.value.window.timeout new_side (left_acts l acts))
          (sym is)
          (side_ends _ _ _ _ _ l tells (none l r was) kept (left_by l (Killed over.LinkFault))
          over.LinkFault refl refl refl (buried ∙ kept.buried) (λ f. cc) refl
          (ap (λ s. s.limits) story) [] []
          (ap (units _) (append-nil old_side.story.fed) ∙ sym (append-nil _)) (ap (λ s. s.fed) story
          ∙ sym (append-nil old_side.story.fed)) (λ f. refl)
          (λ t. arrivals t ∙ sym (append-nil _)) sent (ended kept.ended) (touched kept.touched)
          (λ f. counted) (λ at now f. cc));
      answers = λ l r was kept a.
          let first : new_side.buried ≡ false = buried
          ∙ (kept.buried ∙ none_buried _ _ _ _ _ _ _ _ was.death alive) in
          record {
            idle = λ at now d. absurd (not_late (sym (ap (λ s. s.dead) e) ∙ d));
            spill = λ b d. absurd (true≢false (sym b ∙ first));
            app = λ b d. absurd (true≢false (sym b ∙ first));
          };
    }
      where
        not_late : {at now : ℕ} → Some over.LinkFault ≡ Some (over.TimedOut at now) → ⊥
        not_late f = cc

    -- a spill failed, and is taken out
    pub left_breaks : (fallen : Option R) (output : Option (Buffered S)) (piece : List (ℕ × ℕ))
        (more : List Asked) → ((b : Buffered S) → output ≡ Some b → old.output ≡ Some b) →
        new ≡ record old { dead = Some over.SpillFault; fallen = fallen; output = output } →
        entry.value ≡ Killed over.SpillFault ∷ Buried ∷ [] → new_side.buried ≡ true →
        IsTrue new_side.spill_out →
        new_side.story.limits ≡ old_side.story.limits → new_side.story.fed
        ≡ old_side.story.fed ++ piece →
        units old_side.story.limits (old_side.story.fed ++ piece)
        ≡ units old_side.story.limits old_side.story.fed ++ more →
        (IsTrue old_side.tells → new_side.link.arrivals ≡ old_side.link.arrivals ++ piece) →
        (IsTrue old_side.tells → new_side.link.sent ≡ old_side.link.sent) →
        ((IsTrue old_side.tells → old_side.ended ≡ old_side.link.ended) → IsTrue old_side.tells →
        new_side.ended ≡ new_side.link.ended) →
        ((IsTrue old_side.tells → old_side.touched ≡ old_side.link.touched) →
        IsTrue old_side.tells → new_side.touched ≡ new_side.link.touched) →
        LTurns old_side new_side old new entry
    left_breaks fallen output piece more kept_output e is buried counted limits fed begins arrivals
        sent ended touched = record {
          fixed = ap (λ s. s.fixed) e;
          agrees = λ l r was kept. subst (λ (acts : List (LeftAct S)). Agrees known new
              (left_acts l acts) r) (sym is)
              (subst (λ (s : State A R S). Agrees known s
              (left_by (left_by l (Killed over.SpillFault)) Buried) r) (sym e)
              (buried_agrees known (record old { dead = Some over.SpillFault })
              (left_by l (Killed over.SpillFault)) r fallen output refl
              (none_buried _ _ _ _ _ _ _ _ was.death alive) kept_output
              (killed_agrees known old l r over.SpillFault alive was)));
          keeps = λ l r was kept. subst (λ (acts : List (LeftAct S)). KeepsSide known.spill_tells
              old.fixed.value.limits old.fixed.value.window.timeout new_side (left_acts l acts))
              (sym is)
              (side_breaks _ _ _ _ _ l tells (none l r was) kept buried limits piece more
              (subst (λ z. units z (old_side.story.fed ++ piece)
              ≡ units z old_side.story.fed ++ more) kept.limits_are begins) fed arrivals sent
              (ended kept.ended) (touched kept.touched));
          answers = λ l r was kept a. record {
            idle = λ at now d. absurd (not_timed (sym (ap (λ s. s.dead) e) ∙ d));
            spill = λ b d. counted;
            app = λ b d. absurd (not_app (sym (ap (λ s. s.dead) e) ∙ d));
          };
        }
      where
        not_timed : {at now : ℕ} → Some over.SpillFault ≡ Some (over.TimedOut at now) → ⊥
        not_timed e = cc

        not_app : Some over.SpillFault ≡ Some over.AppFault → ⊥
        not_app e = cc

  -- where nobody ended it by what broke, an answer broke off
  pub broke_by : (end : End) (killed : Option End) (broke : Option Cause) → death_of killed broke
      ≡ Some end → is_breaking end ≡ true → (killed ≡ Some over.SpillFault → ⊥) →
      ForSome killed (λ x. IsTrue (is_killer x)) →
      (end ≡ over.SpillFault → broke ≡ Some cause.Spill)
      × (end ≡ over.AppFault → broke ≡ Some cause.App)
  broke_by end (Some x) broke e breaks unkilled kills = (
    λ f. absurd (unkilled (e ∙ ap Some f)),
    λ f. let yes : IsTrue (is_killer over.AppFault) =
        subst (λ (z : End). IsTrue (is_killer z)) (same x end e ∙ f) (kills x refl) in cc,
  )
  broke_by end None (Some cause.Spill) e breaks unkilled kills =
      (λ f. refl, λ f. let bad = same _ _ e ∙ f in cc)
  broke_by end None (Some cause.App) e breaks unkilled kills =
      (λ f. let bad = same _ _ e ∙ f in cc, λ f. refl)
  broke_by end None (Some cause.NoMemory) e breaks unkilled kills =
      (λ f. let bad = same _ _ e ∙ f in cc, λ f. let bad = same _ _ e ∙ f in cc)
  broke_by end None None e breaks unkilled kills = (λ f. cc, λ f. cc)

  -- what broke is taken out
  pub left_buries : (old_side new_side : Side) (old new : State A R S) (end : End)
      (with_output : Bool) (before : Option S) (entry : LeftEntry S) → old.dead ≡ Some end →
      is_breaking end ≡ true → old_side.buried ≡ false →
      (with_output ≡ false → end ≡ over.SpillFault → IsTrue (is_some old.fallen)) →
      new ≡ record old { fallen = None; output = (if with_output then None else old.output) } →
      new_side ≡ record old_side {
        buried = true;
        spill_out = has_counted known.spill_faults (spill_by (if with_output then old.output
            else None) before) || has_counted known.body_faults old.fallen;
        run_out = has_counted known.run_faults old.fallen;
      } → entry.value ≡ Buried ∷ [] → LTurns old_side new_side old new entry
  left_buries old_side new_side old new end with_output before entry dead breaks first run_there e s
      is = record {
        fixed = ap (λ s. s.fixed) e;
        agrees = λ l r was kept. subst (λ (acts : List (LeftAct S)). Agrees known new
            (left_acts l acts) r) (sym is)
            (subst (λ (s : State A R S). Agrees known s (left_by l Buried) r) (sym e)
            (buried_agrees known old l r None (if with_output then None else old.output)
            (ap is_some dead) (sym kept.buried ∙ first) (kept_output with_output) was));
        keeps = λ l r was kept. subst (λ (acts : List (LeftAct S)). KeepsSide known.spill_tells
            old.fixed.value.limits old.fixed.value.window.timeout new_side (left_acts l acts))
            (sym is)
            (subst (λ (x : Side). KeepsSide known.spill_tells old.fixed.value.limits
            old.fixed.value.window.timeout x (left_by l Buried)) (sym s) (record {
              limits_are = kept.limits_are;
              fed = kept.fed;
              sent = kept.sent;
              ended = kept.ended;
              touched = kept.touched;
              asked = kept.asked;
              front = kept.front;
              shut = kept.shut;
              held = kept.held;
              failed = kept.failed;
              buried = refl;
              broke = λ k. refl;
              killer = kept.killer;
              link_fault = kept.link_fault;
              timed = kept.timed;
            }));
        answers = λ l r was kept a.
            let unburied : l.buried ≡ false = sym kept.buried ∙ first in
            let why = broke_by end l.killed r.broke (sym was.death.dead_is ∙ dead) breaks
            (λ k. true≢false (sym (kept.broke k) ∙ unburied)) kept.killer in
            let broken = was.death.broken unburied in
            let dead_new : new.dead ≡ Some end = ap (λ s. s.dead) e ∙ dead in
            record {
              idle = λ at now d. absurd (true≢false (sym breaks
                  ∙ ap is_breaking (same _ _ (sym dead_new ∙ d))));
              spill = λ b d. subst (λ (x : Side). IsTrue x.spill_out) (sym s)
                  (let spilled = same _ _ (sym dead_new ∙ d) in
                  counted_out old.fallen with_output old.output (why.0 spilled) broken
                  (λ w. run_there w spilled));
              app = λ b d. subst (λ (x : Side). IsTrue x.run_out) (sym s) (let by =
                  why.1 (same _ _ (sym dead_new ∙ d)) in
                  run_counted old.fallen (broken.app by) (broken.app_counted by));
            };
      }
    where
      kept_output : (w : Bool) (b : Buffered S) → (if w then None else old.output) ≡ Some b →
          old.output ≡ Some b
      kept_output true b f = cc
      kept_output false b f = f

      later_true : (b : Bool) → (b || true) ≡ true
      later_true true = refl
      later_true false = refl

      run_counted : (fallen : Option R) → IsTrue (is_some fallen) →
          ForSome fallen (λ run. 0 < known.run_faults run) →
          IsTrue (has_counted known.run_faults fallen)
      run_counted None there counts = cc
      run_counted (Some run) there counts = lt-ltb _ _ (counts run refl)

      counted_out : (fallen : Option R) (w : Bool)
          (output : Option (Buffered S)) {broke : Option Cause} → broke ≡ Some cause.Spill →
          KeepsBroken known.spill_faults known.run_faults known.body_faults broke fallen output →
          (w ≡ false → IsTrue (is_some fallen)) →
          IsTrue (has_counted known.spill_faults (spill_by (if w then output else None) before)
          || has_counted known.body_faults fallen)
      counted_out (Some run) w output by broken there =
          subst (λ b. IsTrue (has_counted known.spill_faults
          (spill_by (if w then output else None) before) || b))
          (sym (lt-ltb _ _ (broken.body by run refl))) (later_true _)
      counted_out None true None by broken there = let no = broken.stands by in cc
      counted_out None true (Some b) by broken there =
          ap (λ x. x || false) (lt-ltb _ _ (broken.spill by refl b refl))
      counted_out None false output by broken there = let no = there refl in cc

-- the same of what was taken out
pub side_taken : {R S : Type 0} (spill : S → ℕ) (body run : R → ℕ) (side : Side) (o o' : Option S)
    (p p' : Option R) → o ≡ o' → p ≡ p' →
    record side {
      buried = true;
      spill_out = has_counted spill o || has_counted body p;
      run_out =
          has_counted run p;
    }
    ≡ record side {
      buried = true;
      spill_out = has_counted spill o' || has_counted body p';
      run_out = has_counted run p';
    }
side_taken spill body run side o o' p p' e f =
    ap (λ x. record side {
      buried = true;
      spill_out = has_counted spill x || has_counted body p;
      run_out = has_counted run p;
    }) e
    ∙ ap (λ x. record side {
      buried = true;
      spill_out = has_counted spill o' || has_counted body x;
      run_out = has_counted run x;
    }) f

-- a channel that is over by what broke died of it
pub breaking_dead : (dead : Option End) (done : Bool) (end : End) → Some end ≡ over_by dead done →
    is_breaking end ≡ true → dead ≡ Some end
breaking_dead (Some x) done end e b = sym e
breaking_dead None true end e b = let no : is_breaking over.Done ≡ true =
    ap is_breaking (same over.Done end (sym e)) ∙ b in cc
breaking_dead None false end e b = cc

-- what was skipped of an output that was asked before
pub skip_of : {A R S : Type 0} (tells : Bool) (old mid new : State A R S) (n : ℕ) →
    Touches tells old mid → Skips tells n mid new →
    (before : Buffered S) × (after : Buffered S) × (old.output ≡ Some before)
    × IsToldAs tells after.bytes (drop n before.bytes)
    × (new ≡ record old { output = Some after })
skip_of tells old mid new n touches skips =
    let one : skips.before ≡ touches.after = same skips.before touches.after (sym skips.had
    ∙ ap (λ s. s.output) touches.now) in (
      touches.before,
      skips.after,
      touches.had,
      record {
        size = skips.bytes.size ∙ (length-drop n skips.before.bytes
            ∙ (ap (λ k. k - n) (ap (λ (b : Buffered _). length b.bytes) one ∙ touches.bytes.size)
            ∙ sym (length-drop n touches.before.bytes)));
        told = λ t. skips.bytes.told t ∙ ap (drop n) (ap (λ (b : Buffered _). b.bytes) one
            ∙ touches.bytes.told t);
      },
      skips.now ∙ ap (λ (s : State _ _ _). record s { output = Some skips.after }) touches.now,
    )

take-take-le : {X : Type 0} (n m : ℕ) (xs : List X) → n ≤ m → take n (take m xs) ≡ take n xs
take-take-le n m xs h = take-take n m xs h

-- the link took the first bytes of what the output offered
pub drains_of : {A R S : Type 0} (known : Known A R S) (old_side new_side : Side)
    (old mid new : State A R S) (entry : LeftEntry S) (room : List ℕ) (count taken : ℕ) →
    old.dead ≡ None → new_side.tells ≡ old_side.tells → new_side.buried ≡ old_side.buried →
    Touches known.spill_tells old mid → Skips known.spill_tells taken mid new →
    count ≡ min (length room) (length_of old.output) → taken ≤ count →
    (IsTrue known.spill_tells → ForSome old.output (λ b. take count room ≡ take count b.bytes)) →
    entry.value ≡ Drained (take taken room) ∷ [] → new_side.story ≡ old_side.story →
    (IsTrue old_side.tells → new_side.link.arrivals ≡ old_side.link.arrivals) →
    (IsTrue old_side.tells → new_side.link.sent
    ≡ old_side.link.sent ++ take taken (take count room)) →
    ((IsTrue old_side.tells → old_side.ended ≡ old_side.link.ended) → IsTrue old_side.tells →
    new_side.ended ≡ new_side.link.ended) →
    (IsTrue old_side.tells → new_side.touched ≡ new_side.link.touched) →
    LTurns known old_side new_side old new entry
drains_of known old_side new_side old mid new entry room count taken alive tells buried touches
    skips is_count some offered is story arrivals sent ended touched =
    let skipped = skip_of known.spill_tells old mid new taken touches skips in
    let before : length_of old.output ≡ length skipped.0.bytes = ap length_of skipped.2 in
    let bound : taken ≤ length room = omega (arith, is_count, some) in
    let within : taken ≤ length skipped.0.bytes = omega (arith, is_count, some, before) in
    let size : length (take taken room) ≡ taken = length-take-le taken room bound in
    let same_bytes : take taken (take count room) ≡ take taken room =
    take-take-le taken count room some in
    left_drains known old_side new_side old new entry alive tells buried skipped.0 skipped.1
    (take taken room) skipped.2
    (subst (λ n. IsToldAs known.spill_tells skipped.1.bytes (drop n skipped.0.bytes))
    (sym size) skipped.3)
    (subst (λ n. n ≤ length skipped.0.bytes) (sym size) within)
    (λ t. sym same_bytes ∙ (ap (take taken) (offered t skipped.0 skipped.2)
    ∙ (take-take-le taken count skipped.0.bytes some
    ∙ ap (λ n. take n skipped.0.bytes) (sym size))))
    skipped.4 is story arrivals (λ t. sent t ∙ ap (λ xs. old_side.link.sent ++ xs) same_bytes) ended
    touched

-- what is lent is lent of an output that is there
pub lent_some : {S : Type 0} (output : Option (Buffered S)) → 0 < length (lent_of output) →
    (b : Buffered S) × (output ≡ Some b)
lent_some None h = let no : ⊥ = omega (arith, h) in absurd no
lent_some (Some b) h = (b, refl)

-- a state whose output is asked for nothing
pub untouched : {A R S : Type 0} (tells : Bool) (old : State A R S) (b : Buffered S) →
    old.output ≡ Some b → Touches tells old old
untouched tells old b had = record {
  before = b;
  after = b;
  had = had;
  bytes = record { size = refl; told = λ _. refl };
  now = ap (λ (o : Option (Buffered _)). record old { output = o }) had;
}

-- the link took the first of the bytes that it was lent
pub lends_of : {A R S : Type 0} (known : Known A R S) (old_side new_side : Side)
    (old new : State A R S) (entry : LeftEntry S) (bytes : List ℕ) (taken : ℕ) →
    old.dead ≡ None → new_side.tells ≡ old_side.tells → new_side.buried ≡ old_side.buried →
    bytes ≡ lent_of old.output → Skips known.spill_tells taken old new → taken ≤ length bytes →
    entry.value ≡ Drained (take taken bytes) ∷ [] → new_side.story ≡ old_side.story →
    new_side.ended ≡ old_side.ended → (IsTrue old_side.tells →
    Sends new_side.touched bytes (Took taken) old_side.link new_side.link) →
    LTurns known old_side new_side old new entry
lends_of known old_side new_side old new entry bytes taken alive tells buried lent skips some is
    story ended sends =
    let b = skips.before in
    let first : bytes ≡ take b.in_memory b.bytes = lent ∙ ap lent_of skips.had in
    let there : length_of old.output ≡ length b.bytes = ap length_of skips.had in
    let size : length bytes ≡ min b.in_memory (length b.bytes) = ap length first
    ∙ length-take b.in_memory b.bytes in
    let whole : take (length bytes) bytes ≡ bytes = take-length bytes in
    let front : take (length bytes) b.bytes ≡ bytes = ap (λ n. take n b.bytes) size
    ∙ (take_min b.in_memory b.bytes ∙ sym first) in
    drains_of known old_side new_side old old new entry bytes (length bytes) taken alive tells
    buried (untouched known.spill_tells old b skips.had) skips (omega (arith, size, there)) some
    (λ t o had. whole ∙ (sym front ∙ ap (λ (x : Buffered _). take (length bytes) x.bytes)
    (same b o (sym skips.had ∙ had)))) is story
    (λ t. ap (λ (s : LinkState). s.arrivals) (sends t))
    (λ t. ap (λ (s : LinkState). s.sent) (sends t)
    ∙ ap (λ xs. old_side.link.sent ++ take taken xs) (sym whole))
    (λ was t. ended ∙ (was t ∙ sym (ap (λ (s : LinkState). s.ended) (sends t))))
    (λ t. sym (ap (λ (s : LinkState). s.touched) (sends t)))

pub over_none : (dead : Option End) (done : Bool) (o : Option End) → o ≡ over_by dead done →
    is_some o ≡ false → dead ≡ None
over_none (Some x) done o e f = let no : true ≡ false = sym (ap (λ (z : Option End). is_some z) e)
    ∙ f in cc
over_none None done o e f = refl

pub late_of : (m n : ℕ) (b : Bool) → (nat_lt m n && b) ≡ true → m < n
late_of m n b e = grind (arith, e)

abbrev at_of : End → ℕ × ℕ
at_of over.Done = (0, 0)
at_of over.LinkFault = (0, 0)
at_of over.SpillFault = (0, 0)
at_of over.AppFault = (0, 0)
at_of over.NoMemory = (0, 0)
at_of (over.TimedOut touched now) = (touched, now)
at_of over.ShutDown = (0, 0)

pub timed_of : (touched now t u : ℕ) → t ≡ u → touched + t < now → (at n : ℕ) →
    over.TimedOut touched now ≡ over.TimedOut at n → (at ≡ touched) × (at + u < n)
timed_of touched now t u same_time late at n e =
    let first : touched ≡ at = ap (λ (x : End). (at_of x).0) e in
    let second : now ≡ n = ap (λ (x : End). (at_of x).1) e in
    (sym first, omega (arith, first, second, late, same_time))
