use Rattle.std.proofs.Common.{rules, ◌≡◌, ◌∙◌, ◌++◌, [], ◌∷◌, IsTrue, List, ℕ, ap, append_assoc}
use Rattle.std.proofs.Common.{false, refl, subst, sym}
use Rattle.std.specs.Prelude.{is_none, unwrap_or}
use Rattle.task_core.specs.Steps.{text_of}
use Rattle.task_core.proofs.Chains.{Writes, at_script_end, behind_part, ends_there, last_step}
use Rattle.task_core.proofs.Chains.{no_steps}
use Rattle.task_core.proofs.script_tests.written.Goals as goal

regrouped : (a b c mid : List ℕ) → mid ≡ a ++ b → a ++ (b ++ c) ≡ mid ++ c
regrouped a b c mid grown = sym (append_assoc a b c) ∙ ap (λ t. t ++ c) (sym grown)

pub returns-in-Some-ended : goal.returns-in-Some-ended
returns-in-Some-ended c =
    let wrote = c.in_ok-wrote.wrote in
    let ahead : c.loop-step.step-iterator.rest.items ≡ c.in-Some.step ∷ c.next.new.self.rest.items =
    search rules in
    let last = last_step c.loop-step.task c.step.new.self c.in-Some.step c.next.new.self.rest.items
    wrote c.in-Some-ended.closes
    (record {
      allowed = c.loop-step.invariant.going;
      under_way = c.in_ok-wrote.ensures.under_way;
      answer = c.in_ok-wrote.ensures.answer;
    })
    c.in-Some-ended.is in
    let whole = c.loop-step.invariant.rest (text_of wrote) c.in-Some-ended.closes
    (subst (λ steps. Writes c.loop-step.task steps (text_of wrote) c.in-Some-ended.closes)
    (sym ahead) last) in
    (whole.parts, whole.taken, c.in_ok-add.ensures ∙ whole.text_is, whole.closes_is)

pub loop-step-preserved : goal.loop-step-preserved
loop-step-preserved c =
    let wrote = c.in_ok-wrote.wrote in
    record {
      can = tt;
      ends = tt;
      going = subst IsTrue (sym (c.in_ok-wrote.ensures.under_way ∙
          ap (λ e. is_none e) c.in-None-ended.is)) refl;
      rest = λ left closes more.
          let ahead : c.loop-step.step-iterator.rest.items ≡ c.in-Some.step ∷
          c.next.new.self.rest.items = search rules in
          let from_here = behind_part c.loop-step.task c.step.new.self c.in-Some.step
          c.next.new.self.rest.items wrote left closes
          (record {
            allowed = c.loop-step.invariant.going;
            under_way =
                c.in_ok-wrote.ensures.under_way;
            answer = c.in_ok-wrote.ensures.answer;
          })
          c.in-None-ended.is more in
          subst (λ t. Writes c.args.task c.args.steps.items t closes)
          (regrouped c.loop-step.text.items (text_of wrote) left c.add.new.text.items
          c.in_ok-add.ensures)
          (c.loop-step.invariant.rest (text_of wrote ++ left) closes
          (subst (λ steps. Writes c.loop-step.task steps (text_of wrote ++ left) closes) (sym ahead)
          from_here));
    }

pub returns : goal.returns
returns c =
    let wrote = c.in_ok-wrote-2.wrote in
    let over = rw c.in-None.is at c.next.ensures.steps in
    let none : c.loop-step.step-iterator.rest.items ≡ [] =
    no_steps c.loop-step.step-iterator.rest.items (sym c.loop-step.step-iterator.rest.ok.0 ∙ over.0)
    in
    let closes = unwrap_or wrote.ended false in
    let last = at_script_end c.loop-step.task c.step-2.new.self wrote closes
    (record {
      allowed = c.loop-step.invariant.going;
      under_way = c.in_ok-wrote-2.ensures.under_way;
      answer = c.in_ok-wrote-2.ensures.answer;
    })
    (ends_there wrote.ended (text_of wrote) _ c.in_ok-wrote-2.ensures.answer) in
    let whole = c.loop-step.invariant.rest (text_of wrote) closes
    (subst (λ steps. Writes c.loop-step.task steps (text_of wrote) closes) (sym none) last) in (
      whole.parts,
      whole.taken,
      c.in_ok-add-2.ensures ∙ whole.text_is,
      whole.closes_is ∙
          search rules,
    )
