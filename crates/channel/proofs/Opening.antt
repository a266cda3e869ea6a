-- A channel as it is opened.
use Rattle.std.proofs.Common.{◌≡◌, ℕ, Bool, true, false, IsTrue, List, [], length, Some, None, refl}
use Rattle.std.proofs.Common.{sym, ap, subst, ◌∙◌, arith}
use Rattle.outside.specs.declared.noted.Noted.{Noted}
use Rattle.outside.specs.declared.types.Peer.{Peer}
use Rattle.request_stream.specs.Asks.{AreAskedAs}
use Rattle.request_stream.specs.Units.{units, units_within}
use Rattle.request_stream.specs.declared.types.Limits.{Limits}
use Rattle.spill_buffer.specs.Buffer.{Buffered}
use Rattle.wsgi.specs.declared.site.Site.{Site}
use Rattle.wsgi.specs.declared.step.Step.{Step}
use Rattle.channel.specs.Agreement.{Agrees, Known, WritesTexts}
use Rattle.channel.specs.Histories.{LeftEntry, RightEntry, left_past, left_start, right_past}
use Rattle.channel.specs.Histories.{right_start}
use Rattle.channel.specs.Output.{Script, joined}
use Rattle.channel.specs.Sides.{Answers, KeepsSide, Side}
use Rattle.channel.specs.State.{State, opened_state}
use Rattle.channel.specs.Writing.{KeepsWriting}
use Rattle.channel.specs.declared.shared.Fixed.{Fixed}
use Rattle.channel.specs.declared.writing.Writing.TheVariants.{Idle}
use Rattle.channel.proofs.ActLemmas.{same, unbroken}
use Rattle.channel.proofs.Asked.{asked_none}
use Rattle.channel.proofs.SideLemmas.{no_kill}

no_texts : {S : Type 0} (site : Site) (script : Script) (peer : Peer) →
    WritesTexts {S = S} site script peer right_start
unfolding joined
no_texts site script peer = record { whole = refl; closes = refl; front = λ c e. cc }

pub opened_agrees : {A R S : Type 0} (known : Known A R S) (fixed : Noted (Fixed A))
    (output : Buffered S) → output.bytes ≡ [] → Agrees known
    (opened_state fixed output) left_start right_start
opened_agrees known fixed output empty = record {
  order = record { going = λ e. refl; closed = λ e. refl; front = refl };
  bytes = record {
    whole = λ t b e. sym (sym (ap (λ (x : Buffered _). x.bytes) (same output b e))
        ∙ empty);
    front = λ t. refl;
  };
  texts = λ t. no_texts _ _ _;
  course = record {
    current_is = refl;
    closing_is = refl;
    began_is = refl;
    last = λ e. refl;
    strict = refl;
  };
  death = record {
    dead_is = refl;
    one = refl;
    strict = refl;
    buried = λ e. cc;
    broken =
        λ e. unbroken _ _ _ None None (Some output) refl;
    stands = λ e. refl;
  };
  counts = record {
    longest_is = refl;
    most = λ b e. let none : length b.bytes ≡ 0 =
        ap length (sym (ap (λ (x : Buffered _). x.bytes) (same output b e)) ∙ empty) in
        omega (arith, none);
  };
}

no_units : (limits : Limits) → units limits [] ≡ []
unfolding units units_within
no_units limits = refl

pub opened_side : {S : Type 0} (spill_tells : Bool) (limits : Limits) (timeout : ℕ) (side : Side) →
    side.story.limits ≡ limits → side.story.fed ≡ [] → side.story.failed ≡ false →
    side.story.over ≡ false → side.story.held ≡ 0 → side.buried ≡ false →
    (IsTrue side.tells → side.link.arrivals ≡ []) → (IsTrue side.tells → side.link.sent ≡ []) →
    (IsTrue side.tells → side.ended ≡ side.link.ended) →
    (IsTrue side.tells → side.touched ≡ side.link.touched) →
    KeepsSide {S = S} spill_tells limits timeout side left_start
opened_side spill_tells limits timeout side limits_are fed failed over held buried came sent ended
    touched = record {
      limits_are = limits_are;
      fed = λ t. fed ∙ sym (came t);
      sent = sent;
      ended = ended;
      touched = touched;
      asked = λ k. subst (AreAskedAs spill_tells []) (sym (ap (units limits) fed ∙ no_units limits))
          asked_none;
      front = asked_none;
      shut = λ k. over;
      held = λ k. held;
      failed = λ e. let no : false ≡ true = sym failed ∙ e in cc;
      buried = buried;
      broke = λ e. cc;
      killer = λ x e. cc;
      link_fault = λ e. cc;
      timed = λ at now e. cc;
    }

pub opened_answers : {A R S : Type 0} (side : Side) (state : State A R S) → state.dead ≡ None →
    Answers side state
opened_answers side state alive = record {
  idle = λ at now e. absurd (no_kill _ _ alive e);
  spill = λ b e. absurd (no_kill _ _ alive e);
  app = λ b e. absurd (no_kill _ _ alive e);
}

pub opened_writing : {R S : Type 0} (tells : Bool) (rest : R →
    List Step) (site : Site) (script : Script) (peer : Peer) →
    KeepsWriting {R = R} {S = S} tells rest site script peer Idle right_start
opened_writing tells rest site script peer = record {
  busy = λ k. refl;
  gives = λ k t c e. cc;
  shuts = λ k c e. cc;
  shut = λ e. cc;
}

module _ {S : Type 0} (left : List (LeftEntry S)) (right : List (RightEntry S)) (no_left : left
    ≡ []) (no_right : right ≡ []) where
  pub agrees_at : {A R : Type 0} (known : Known A R S) (state : State A R S)
      (fixed : Noted (Fixed A)) (output : Buffered S) → state ≡ opened_state fixed output →
      output.bytes ≡ [] → Agrees known state (left_past left) (right_past right)
  agrees_at {A} {R} known state fixed output e empty =
      subst (λ (x : List (LeftEntry S)). Agrees known state (left_past x) (right_past right))
      (sym no_left)
      (subst (λ (x : List (RightEntry S)). Agrees known state left_start (right_past x))
      (sym no_right)
      (subst (λ (x : State A R S). Agrees known x left_start right_start) (sym e)
      (opened_agrees known fixed output empty)))

  pub keeps_at : (spill_tells : Bool) (limits : Limits) (timeout : ℕ) (side : Side) →
      KeepsSide {S = S} spill_tells limits timeout side left_start →
      KeepsSide spill_tells limits timeout side (left_past left)
  keeps_at spill_tells limits timeout side was = subst
      (λ (x : List (LeftEntry S)). KeepsSide spill_tells limits timeout side (left_past x))
      (sym no_left) was

  pub writes_at : {R : Type 0} (tells : Bool) (rest : R → List Step) (site : Site) (script : Script)
      (peer : Peer) → KeepsWriting tells rest site script peer Idle (right_past right)
  writes_at {R} tells rest site script peer = subst
      (λ (x : List (RightEntry S)). KeepsWriting tells rest site script peer Idle (right_past x))
      (sym no_right) (opened_writing tells rest site script peer)
