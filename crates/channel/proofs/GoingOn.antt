-- A step of the answer under way, and the addition of its text.
use Rattle.std.proofs.Common.{◌≡◌, ◌<◌, inl, inr, ℕ, Bool, true, IsTrue, List, refl, sym, subst}
use Rattle.std.proofs.Common.{arith}
use Rattle.channel.specs.Agreement.{Known}
use Rattle.channel.specs.Histories.{RightEntry}
use Rattle.channel.specs.State.{State}
use Rattle.channel.specs.Stepping.{AddsText, StepsTo}
use Rattle.channel.specs.Stopping.{TakesFromRun}
use Rattle.channel.specs.Writing.{is_busy, is_settled, steps_left, without_text}
use Rattle.channel.specs.declared.types.Progress.{Progress}
use Rattle.channel.specs.declared.types.Progress.TheVariants as progress
use Rattle.channel.specs.declared.writing.Script.{Script}
use Rattle.channel.specs.declared.writing.Waiting.{Waiting}
use Rattle.channel.specs.declared.writing.Writing.{Writing}
use Rattle.channel.specs.declared.writing.Writing.TheVariants.{Idle, Scripted, Waits, Last}

settled_without : {R : Type 0} (writing : Writing R) → IsTrue (is_settled (without_text writing))
settled_without Idle = refl
settled_without (Scripted s) = refl
settled_without (Waits w) = refl
settled_without (Last text closes) = refl

-- no text waits behind its addition
pub settled_behind : {R : Type 0} (writing new_writing : Writing R) →
    new_writing ≡ without_text writing → IsTrue (is_settled new_writing)
settled_behind {R} writing new_writing e = subst (λ (w : Writing R). IsTrue (is_settled w)) (sym e)
    (settled_without writing)

module _ {A R S : Type 0} (known : Known A R S) (left : R → ℕ) (old new : State A R S)
    (entry : RightEntry S) (busy : old.current ≡ true) where
  silent : (p : Progress) (n : ℕ) (s : Script R) → left s.run < n →
      AddsText known p (Scripted s) old new entry → StepsTo known p n (left s.run) old new entry
  silent progress.More n s fewer adds = inr (inl (record {
    fewer = fewer;
    busy = busy;
    now = adds.0;
    told = adds.1;
  }))
  silent progress.Above n s fewer adds = absurd adds
  silent progress.Rest n s fewer adds = absurd adds
  silent progress.Dead n s fewer adds = absurd adds
  silent (progress.Broke why) n s fewer adds = inr (record {
    left = omega arith;
    busy = busy;
    breaks = adds;
  })

  on : (p : Progress) (n : ℕ) (w : Waiting R) → left w.script.run < n →
      AddsText known p (Waits w) old new entry → StepsTo known p n (left w.script.run) old new entry
  on progress.More n w fewer adds = inr (inr (inl (record {
    fewer = fewer;
    busy = busy;
    text =
        w.text;
    writes = adds;
  })))
  on progress.Above n w fewer adds = absurd adds
  on progress.Rest n w fewer adds = absurd adds
  on progress.Dead n w fewer adds = absurd adds
  on (progress.Broke why) n w fewer adds = inr (record {
    left = omega arith;
    busy = busy;
    breaks =
        adds;
  })

  last : (p : Progress) (n : ℕ) (text : List ℕ) (closes : Bool) →
      AddsText known p (Last text closes) old new entry → StepsTo known p n 0 old new entry
  last progress.More n text closes adds = inr (inr
      (inr (record { none = refl; busy = busy; text = text; closes = closes; writes = adds })))
  last progress.Above n text closes adds = absurd adds
  last progress.Rest n text closes adds = absurd adds
  last progress.Dead n text closes adds = absurd adds
  last (progress.Broke why) n text closes adds = inr (record {
    left = omega arith;
    busy = busy;
    breaks = adds;
  })

  by_text : (p : Progress) (writing mid : Writing R) → IsTrue (is_settled writing) →
      IsTrue (is_busy writing) → TakesFromRun left writing mid →
      AddsText known p mid old new entry →
      StepsTo known p (steps_left left writing) (steps_left left (without_text mid)) old new entry
  by_text p Idle mid settled under takes adds = cc
  by_text p (Waits w) mid settled under takes adds = cc
  by_text p (Scripted s) Idle settled under takes adds = absurd takes
  by_text p (Scripted s) (Scripted t) settled under takes adds = silent p _ t takes adds
  by_text p (Scripted s) (Waits w) settled under takes adds = on p _ w takes adds
  by_text p (Scripted s) (Last text closes) settled under takes adds = last p _ text closes adds
  by_text p (Last text closes) mid settled under takes adds =
      subst (λ (m : Writing R). AddsText known p m old new entry →
      StepsTo known p 0 (steps_left left (without_text m)) old new entry) (sym takes)
      (last p 0 text closes) adds

  -- the answer under way takes a step, and what it wrote is added
  pub steps_by_text : (p : Progress) (writing mid new_writing : Writing R) →
      IsTrue (is_settled writing) → IsTrue (is_busy writing) → TakesFromRun left writing mid →
      AddsText known p mid old new entry → new_writing ≡ without_text mid →
      StepsTo known p (steps_left left writing) (steps_left left new_writing) old new entry
  steps_by_text p writing mid new_writing settled under takes adds e =
      subst (λ (w : Writing R). StepsTo known p (steps_left left writing)
      (steps_left left w) old new entry) (sym e)
      (by_text p writing mid settled under takes adds)
