-- Turns of the answering side.
use Rattle.std.proofs.Common.{◌≡◌, ◌≤◌, ◌<◌, ℕ, Bool, true, false, IsTrue, List, [], ◌∷◌, ◌++◌}
use Rattle.std.proofs.Common.{length, take, Option, Some, None, refl, sym, ap, ap₂, subst, ◌∙◌}
use Rattle.std.proofs.Common.{arith, append_assoc}
use Rattle.std.specs.Prelude.{Err, is_some, nat_eq, max, option_map}
use Rattle.std.proofs.Math.Seq.{take-append_seam}
use Rattle.outside.specs.declared.types.End.{End}
use Rattle.outside.specs.declared.types.Peer.{Peer}
use Rattle.request_stream.specs.Asks.{asks}
use Rattle.request_stream.specs.Units.{closing}
use Rattle.request_stream.specs.declared.types.Unit.{Unit as AUnit}
use Rattle.spill_buffer.specs.Buffer.{Buffered, IsToldAs}
use Rattle.spill_buffer.specs.declared.fault.BufferFault.{BufferFault}
use Rattle.spill_buffer.specs.declared.fault.BufferFault.TheVariants as fault'
use Rattle.task_core.specs.Answer.{Answer}
use Rattle.task_core.specs.Steps.{onto, remaining}
use Rattle.wsgi.specs.declared.site.Site.{Site}
use Rattle.wsgi.specs.declared.step.Step.{Step}
use Rattle.channel.specs.Acting.{Begins, CountsFault, Touches, closing_by, goes_on, length_of}
use Rattle.channel.specs.Acting.{ready_by}
use Rattle.channel.specs.Agreement.{Agrees, KeepsBroken, Known, end_by}
use Rattle.channel.specs.Histories.{Current, LeftPast, RightEntry, RightPast, is_empty_part}
use Rattle.channel.specs.Histories.{right_acts, right_by, with_text}
use Rattle.channel.specs.Output.{Script, answer_for}
use Rattle.channel.specs.State.{State}
use Rattle.channel.specs.Turning.{BreaksAny, GoesByFixed, TurnsRight, cause_by}
use Rattle.channel.specs.Writing.{KeepsWriting, Shuts, is_busy, still_gives}
use Rattle.channel.specs.declared.acts.RightAct.{RightAct}
use Rattle.channel.specs.declared.acts.RightAct.TheVariants.{Began, Wrote, Broke}
use Rattle.channel.specs.declared.shared.Fixed.{Fixed}
use Rattle.channel.specs.declared.types.Cause.{Cause}
use Rattle.channel.specs.declared.types.Cause.TheVariants as cause
use Rattle.channel.specs.declared.writing.Waiting.{Waiting}
use Rattle.channel.specs.declared.writing.Writing.{Writing}
use Rattle.channel.specs.declared.writing.Writing.TheVariants.{Idle, Scripted, Waits, Last}
use Rattle.channel.proofs.ActLemmas.{began_agrees, broke_agrees, none_broke, same, touched_agrees}
use Rattle.channel.proofs.Texts.{shut_end, the_current, unclosed_by, wrote_last, wrote_on}

not_zero : (n : ℕ) → 0 < n → nat_eq n 0 ≡ false
not_zero n h = grind (arith, h)

not_empty : (text : List ℕ) → 0 < length text → is_empty_part None text ≡ false
not_empty text h = not_zero (length text) h

some_text : {S : Type 0} (text : List ℕ) (o : Option (Current S)) →
    is_some o ≡ is_some (option_map (with_text text) o)
some_text text None = refl
some_text text (Some c) = refl

current_before : {S : Type 0} (text : List ℕ) (o : Option (Current S)) (d : Current S) →
    option_map (with_text text) o ≡ Some d → (c : Current S) × (o ≡ Some c) × (with_text text c ≡ d)
current_before text None d e = cc
current_before text (Some c) d e = (c, refl, same _ d e)

-- what a state has in place of an output and of a run is its own
as_new : {A R S : Type 0} (old new : State A R S) (output : Option (Buffered S)) (dead : Option End)
    (fallen : Option R) → new ≡ record old { output = output; dead = dead; fallen = fallen } →
    new ≡ record old { output = new.output; dead = dead; fallen = new.fallen }
as_new old new output dead fallen e = e ∙ ap₂ (λ o f. record old {
  output = o;
  dead = dead;
  fallen =
      f;
}) (sym (ap (λ s. s.output) e)) (sym (ap (λ s. s.fallen) e))

module _ {A R S : Type 0} (known : Known A R S) (rest : R → List Step) where
  -- the answer breaks off for a fault of the output
  pub output_breaks : (old mid new : State A R S) (fault : BufferFault) (why : Cause)
      (entry : RightEntry S) → old.dead ≡ None → Touches known.spill_tells old mid →
      CountsFault {T = Unit {0}} known.spill_faults (Err fault) mid → why ≡ cause_by fault →
      new ≡ record mid { dead = Some (end_by why); fallen = None } →
      entry.value ≡ Broke why ∷ [] → BreaksAny known rest why old new entry
  output_breaks old mid new fault why entry alive touches counts by e is = record {
    breaks = record {
      output = ap (λ (s : State A R S). length_of s.output) now
          ∙ (touches.bytes.size ∙ sym (ap length_of touches.had));
      broken = subst (λ (s : State A R S). KeepsBroken known.spill_faults known.run_faults
          known.body_faults (Some why) s.fallen s.output) (sym e) told;
      now = as_new old new _ _ _ now;
      told = is;
    };
    turns = λ site' script' peer' writing new_writing. record {
      fixed = ap (λ s. s.fixed) e ∙ ap (λ s. s.fixed) touches.now;
      agrees = λ l r goes was writes. subst (λ (acts : List (RightAct S)). Agrees known new l
          (right_acts r acts)) (sym is)
          (subst (λ (s : State A R S). Agrees known s l (right_by r (Broke why))) (sym e)
          (broke_agrees known mid l r why None (ap (λ s. s.dead) touches.now ∙ alive) told
          (subst (λ (s : State A R S). Agrees known s l r) (sym touches.now)
          (touched_agrees known old l r touches.before touches.after alive touches.had
          touches.bytes was))));
      writes = λ l r goes was writes. subst (λ (acts : List (RightAct S)). KeepsWriting
          known.app_tells rest site' script' peer' new_writing (right_acts r acts)) (sym is)
          (record { busy = λ k. cc; gives = λ k. cc; shuts = λ k. cc; shut = writes.shut });
    };
  }
    where
      now : new ≡ record old {
        output = Some touches.after;
        dead = Some (end_by why);
        fallen =
            None;
      }
      now = e ∙ ap (λ (s : State A R S). record s {
        dead = Some (end_by why);
        fallen =
            None;
      }) touches.now

      there : IsTrue (is_some mid.output)
      there = ap (λ s. is_some s.output) touches.now

      broken : (fault : BufferFault) → CountsFault {T = Unit {0}} known.spill_faults
          (Err fault) mid → KeepsBroken known.spill_faults known.run_faults known.body_faults
          (Some (cause_by fault)) None mid.output
      broken fault'.Spill counts = record {
        app = λ h. cc;
        app_counted = λ h. cc;
        body =
            λ h x y. cc;
        stands = λ h. there;
        spill = λ h k. counts;
      }
      broken fault'.NoMemory counts = record {
        app = λ h. cc;
        app_counted = λ h. cc;
        body = λ h. cc;
        stands = λ h. cc;
        spill = λ h. cc;
      }

      told : KeepsBroken known.spill_faults known.run_faults known.body_faults
          (Some why) None mid.output
      told = subst (λ (z : Cause). KeepsBroken known.spill_faults known.run_faults known.body_faults
          (Some z) None mid.output) (sym by) (broken fault counts)

module _ {A R S : Type 0} (known : Known A R S) (rest : R →
    List Step) (site : Site) (script : Script) (peer : Peer) where
  abbrev pub Turns : Writing R → Writing R → State A R S → State A R S → RightEntry S → Type 0
  Turns old_writing new_writing old new entry = TurnsRight known rest site script peer old_writing
      new_writing old new entry

  -- what the answer under way became before the turn
  pub turns_from : (writing mid_writing new_writing : Writing R) (old new : State A R S)
      (entry : RightEntry S) → is_busy mid_writing ≡ is_busy writing →
      (IsTrue known.app_tells → still_gives rest writing ≡ still_gives rest mid_writing) →
      (Shuts writing → Shuts mid_writing) → Turns mid_writing new_writing old new entry →
      Turns writing new_writing old new entry
  turns_from writing mid_writing new_writing old new entry busy gives shuts turns = record {
    fixed = turns.fixed;
    agrees = λ l r goes was writes. turns.agrees l r goes was (mid r writes);
    writes = λ l r goes was writes. turns.writes l r goes was (mid r writes);
  }
    where
      mid : (r : RightPast S) → KeepsWriting known.app_tells rest site script peer writing r →
          KeepsWriting known.app_tells rest site script peer mid_writing r
      mid r writes = record {
        busy = λ k. busy ∙ writes.busy k;
        gives = λ k t c is. writes.gives k t c is ∙ ap (onto c.written) (gives t);
        shuts = λ k c is ends. shuts (writes.shuts k c is ends);
        shut = writes.shut;
      }

  -- a unit is begun
  module _ (old new : State A R S) (unit : AUnit S) (writing : Writing R) (alive : old.dead
      ≡ None) (idle : old.current ≡ false) (begins : Begins (Some unit) old new)
      (busy : IsTrue (is_busy writing)) (gives : IsTrue known.app_tells →
      answer_for site script peer (asks unit) ≡ still_gives rest writing)
      (shuts : IsTrue (closing (asks unit)) → Shuts writing) where
    began : (l : LeftPast S) (r : RightPast S) → Agrees known old l r →
        Agrees known new l (right_by r (Began unit))
    began l r was = subst (λ (s : State A R S). Agrees known s l (right_by r (Began unit)))
        (sym begins.1) (began_agrees known old l r unit new.ready alive idle begins.0 was)

    pub right_begins : (entry : RightEntry S) → entry.value ≡ Began unit ∷ [] →
        Turns Idle writing old new entry
    right_begins entry is = record {
      fixed = ap (λ s. s.fixed) begins.1;
      agrees = λ l r goes was writes. subst (λ (acts : List (RightAct S)). Agrees known new l
          (right_acts r acts)) (sym is) (began l r was);
      writes = λ l r goes was writes. subst (λ (acts : List (RightAct S)). KeepsWriting
          known.app_tells rest site script peer writing (right_acts r acts)) (sym is)
          (record {
            busy = λ k. busy;
            gives = λ k t c e. subst (λ (x : Current S). answer_for site script peer (asks x.unit)
                ≡ onto x.written (still_gives rest writing)) (same _ c e) (gives t);
            shuts = λ k c e. subst (λ (x : Current S). IsTrue (closing (asks x.unit)) →
                Shuts writing) (same _ c e) shuts;
            shut = writes.shut;
          });
    }

  -- a unit is begun, and its answer breaks off for want of memory
  pub right_begins_none : (old mid new : State A R S) (unit : AUnit S) (entry : RightEntry S) →
      old.dead ≡ None → old.current ≡ false → Begins (Some unit) old mid →
      new ≡ record mid { dead = Some (end_by cause.NoMemory); fallen = None } →
      entry.value ≡ Began unit ∷ Broke cause.NoMemory ∷ [] → Turns Idle Idle old new entry
  right_begins_none old mid new unit entry alive idle begins e is = record {
    fixed = ap (λ s. s.fixed) e ∙ ap (λ s. s.fixed) begins.1;
    agrees = λ l r goes was writes.
        let begun : Agrees known mid l (right_by r (Began unit)) =
        subst (λ (s : State A R S). Agrees known s l (right_by r (Began unit))) (sym begins.1)
        (began_agrees known old l r unit mid.ready alive idle begins.0 was) in
        subst (λ (acts : List (RightAct S)). Agrees known new l (right_acts r acts)) (sym is)
        (subst (λ (s : State A R S). Agrees known s l
        (right_by (right_by r (Began unit)) (Broke cause.NoMemory))) (sym e)
        (broke_agrees known mid l (right_by r (Began unit)) cause.NoMemory None
        (ap (λ s. s.dead) begins.1 ∙ alive) (no_break mid.output) begun));
    writes = λ l r goes was writes. subst (λ (acts : List (RightAct S)). KeepsWriting
        known.app_tells rest site script peer Idle (right_acts r acts)) (sym is)
        (record { busy = λ k. cc; gives = λ k. cc; shuts = λ k. cc; shut = writes.shut });
  }
    where
      no_break : (output : Option (Buffered S)) → KeepsBroken known.spill_faults known.run_faults
          known.body_faults (Some cause.NoMemory) None output
      no_break output = record {
        app = λ h. cc;
        app_counted = λ h. cc;
        body = λ h. cc;
        stands =
            λ h. cc;
        spill = λ h. cc;
      }

  -- the answer breaks off
  pub right_breaks : (old mid new : State A R S) (writing new_writing : Writing R) (why : Cause)
      (fallen : Option R) (entry : RightEntry S) → old.dead ≡ None → mid.dead ≡ None →
      mid.fixed ≡ old.fixed → ((l : LeftPast S) (r : RightPast S) → Agrees known old l r →
      Agrees known mid l r) →
      KeepsBroken known.spill_faults known.run_faults known.body_faults
      (Some why) fallen mid.output →
      new ≡ record mid { dead = Some (end_by why); fallen = fallen } →
      entry.value ≡ Broke why ∷ [] → Turns writing new_writing old new entry
  right_breaks old mid new writing new_writing why fallen entry alive still fixed kept broken e is =
      record {
        fixed = ap (λ s. s.fixed) e ∙ fixed;
        agrees = λ l r goes was writes. subst (λ (acts : List (RightAct S)). Agrees known new l
            (right_acts r acts)) (sym is)
            (subst (λ (s : State A R S). Agrees known s l (right_by r (Broke why))) (sym e)
            (broke_agrees known mid l r why fallen still broken (kept l r was)));
        writes = λ l r goes was writes. subst (λ (acts : List (RightAct S)). KeepsWriting
            known.app_tells rest site script peer new_writing (right_acts r acts)) (sym is)
            (record { busy = λ k. cc; gives = λ k. cc; shuts = λ k. cc; shut = writes.shut });
      }

  abbrev pub after_text : Option Bool → State A R S → Buffered S → List ℕ → State A R S
  after_text ended old after text = record old {
    output = Some after;
    ready = ready_by ended old.ready;
    current = goes_on ended;
    closing = closing_by ended old.closing;
    longest = max old.longest (length text);
  }

  -- what the job goes by is what the state has
  by_fixed : {fixed : Fixed A} → GoesByFixed known.script fixed site script peer →
      (unit : AUnit S) (P : Answer → Type 0) → P (answer_for site script peer (asks unit)) →
      P (answer_for fixed.site (known.script fixed.app) fixed.peer (asks unit))
  by_fixed {fixed} goes unit P p = subst (λ (z : Site). P
      (answer_for z (known.script fixed.app) fixed.peer (asks unit))) (sym goes.site_is)
      (subst (λ (z : Script). P (answer_for site z fixed.peer (asks unit))) (sym goes.script_is)
      (subst (λ (z : Peer). P (answer_for site script z (asks unit))) (sym goes.peer_is) p))

  -- a text was written
  module _ (old new : State A R S) (before after : Buffered S) (text : List ℕ) (alive : old.dead
      ≡ None) (idle : old.current ≡ true) (had : old.output ≡ Some before)
      (bytes : IsToldAs known.spill_tells after.bytes (before.bytes ++ text))
      (below : length_of old.output ≤ old.fixed.value.window.high_watermark) where
    short : length before.bytes ≤ old.fixed.value.window.high_watermark
    short = subst (λ (o : Option (Buffered S)). length_of o ≤ old.fixed.value.window.high_watermark)
        had below

    pub right_writes_on : (w : Waiting R) (entry : RightEntry S) → w.text ≡ text → 0 < length text →
        new ≡ after_text None old after text → entry.value ≡ Wrote text None ∷ [] →
        Turns (Waits w) (Scripted w.script) old new entry
    right_writes_on w entry same_text some e is = record {
      fixed = ap (λ s. s.fixed) e;
      agrees = λ l r goes was writes. subst (λ (acts : List (RightAct S)). Agrees known new l
          (right_acts r acts)) (sym is)
          (subst (λ (s : State A R S). Agrees known s l (right_by r (Wrote text None))) (sym e)
          (wrote_on known old l r before after text alive idle had bytes short was
          (not_empty text some) (λ t c cur.
          let whole : answer_for site script peer (asks c.unit)
          ≡ onto c.written (onto text (remaining w.script.task (rest w.script.run)))
          = writes.gives (none_broke _ _ _ _ _ _ _ _ was.death alive) t c cur
          ∙ ap (λ x. onto c.written (onto x (remaining w.script.task (rest w.script.run))))
          same_text in
          by_fixed goes c.unit (λ (a : Answer). take (length (c.written ++ text)) a.text
          ≡ c.written ++ text)
          (ap (λ (a : Answer). take (length (c.written ++ text)) a.text) whole
          ∙ (ap (λ xs. take (length (c.written ++ text)) xs)
          (sym (append_assoc c.written text (remaining w.script.task (rest w.script.run)).text))
          ∙ take-append_seam (c.written ++ text)
          (remaining w.script.task (rest w.script.run)).text)))));
      writes = λ l r goes was writes. subst (λ (acts : List (RightAct S)). KeepsWriting
          known.app_tells rest site script peer (Scripted w.script) (right_acts r acts)) (sym is)
          (record {
            busy = λ k. writes.busy k ∙ some_text text r.current;
            gives = λ k t d e'.
                let cur = current_before text r.current d e' in
                let whole : answer_for site script peer (asks cur.0.unit)
                ≡ onto cur.0.written (onto text (remaining w.script.task (rest w.script.run)))
                = writes.gives k t cur.0 cur.1 ∙ ap
                (λ x. onto cur.0.written (onto x (remaining w.script.task (rest w.script.run))))
                same_text in
                subst (λ (x : Current S). answer_for site script peer (asks x.unit)
                ≡ onto x.written (remaining w.script.task (rest w.script.run))) cur.2
                (whole ∙ ap (λ xs. record {
                  text = xs;
                  closes =
                      (remaining w.script.task (rest w.script.run)).closes;
                })
                (sym (append_assoc cur.0.written text
                (remaining w.script.task (rest w.script.run)).text)));
            shuts = λ k d e' ends.
                let cur = current_before text r.current d e' in
                writes.shuts k cur.0 cur.1 (subst (λ (x : Current S). IsTrue
                (closing (asks x.unit))) (sym cur.2) ends);
            shut = writes.shut;
          });
    }

    pub writes_on_by : (writing : Writing R) (w : Waiting R) (entry : RightEntry S) →
        writing ≡ Waits w → w.text ≡ text → 0 < length text → new ≡ after_text None old after text →
        entry.value ≡ Wrote text None ∷ [] →
        Turns writing (Scripted w.script) old new entry
    writes_on_by writing w entry by same_text some e is =
        subst (λ (x : Writing R). Turns x (Scripted w.script) old new entry) (sym by)
        (right_writes_on w entry same_text some e is)

    pub right_writes_last : (closes : Bool) (old_text : List ℕ) (entry : RightEntry S) →
        old_text ≡ text → new ≡ after_text (Some closes) old after text →
        entry.value ≡ Wrote text (Some closes) ∷ [] →
        Turns (Last old_text closes) Idle old new entry
    right_writes_last closes old_text entry same_text e is = record {
      fixed = ap (λ s. s.fixed) e;
      agrees = λ l r goes was writes. subst (λ (acts : List (RightAct S)). Agrees known new l
          (right_acts r acts)) (sym is)
          (subst (λ (s : State A R S). Agrees known s l (right_by r (Wrote text (Some closes))))
          (sym e)
          (wrote_last known old l r before after text alive idle had bytes short was closes
          (λ t c cur.
          by_fixed goes c.unit (λ (a : Answer). a ≡ record {
            text = c.written ++ text;
            closes =
                closes;
          })
          (writes.gives (none_broke _ _ _ _ _ _ _ _ was.death alive) t c cur
          ∙ ap (λ x. record { text = c.written ++ x; closes = closes }) same_text))));
      writes = λ l r goes was writes. subst (λ (acts : List (RightAct S)). KeepsWriting
          known.app_tells rest site script peer Idle (right_acts r acts)) (sym is)
          (record {
            busy = λ k. refl;
            gives = λ k t d e'. cc;
            shuts = λ k d e'. cc;
            shut = let cur = the_current r.current (sym idle ∙ was.course.current_is) in
                shut_end r cur.0 closes cur.1 (unclosed_by r.closed r.current cur.0 cur.1
                was.course.last) writes.shut (λ ends. writes.shuts
                (none_broke _ _ _ _ _ _ _ _ was.death alive) cur.0 cur.1 ends []);
          });
    }

    pub writes_last_by : (writing : Writing R) (closes : Bool) (old_text : List ℕ)
        (entry : RightEntry S) → writing ≡ Last old_text closes → old_text ≡ text →
        new ≡ after_text (Some closes) old after text →
        entry.value ≡ Wrote text (Some closes) ∷ [] →
        Turns writing Idle old new entry
    writes_last_by writing closes old_text entry by same_text e is =
        subst (λ (x : Writing R). Turns x Idle old new entry) (sym by)
        (right_writes_last closes old_text entry same_text e is)

-- the answer breaks off, with the run that broke
pub breaks_any : {A R S : Type 0} (known : Known A R S) (rest : R →
    List Step) (old new : State A R S) (why : Cause) (fallen : Option R) (entry : RightEntry S) →
    old.dead ≡ None →
    KeepsBroken known.spill_faults known.run_faults known.body_faults (Some why) fallen old.output →
    new ≡ record old { dead = Some (end_by why); fallen = fallen } →
    entry.value ≡ Broke why ∷ [] →
    BreaksAny known rest why old new entry
breaks_any {A} {R} {S} known rest old new why fallen entry alive broken e is = record {
  breaks = record {
    output = ap (λ s. length_of s.output) e;
    broken = subst (λ (s : State A R S). KeepsBroken known.spill_faults known.run_faults
        known.body_faults (Some why) s.fallen s.output) (sym e) broken;
    now = as_new old new _ _ _ e;
    told = is;
  };
  turns = λ site script peer writing new_writing. right_breaks known rest site script peer old old
      new writing new_writing why fallen entry alive alive refl (λ l r was. was) broken e is;
}
