use Rattle.std.proofs.Common.{◌≡◌, ◌∙◌, ℕ, Bool, List, Option, Err, Ok, Some, ap, arith, inl, inr}
use Rattle.std.proofs.Common.{refl, sym}
use Rattle.adjust.specs.Command.{IsOrLacksMemory}
use Rattle.adjust.specs.declared.types.Command.{Command}
use Rattle.adjust.specs.declared.types.UsageFault.{UsageFault}
use Rattle.adjust.specs.declared.types.UsageFault.TheVariants.{NoMemory}
use Rattle.outside.specs.Net.{NetState}
use Rattle.waitress_serve.specs.Conclusions.{BindCount, Concludes, DoneAdds, DoneStops}
use Rattle.waitress_serve.specs.Conclusions.{FailsUnstopped, IsUnread, NetLeaves, OutCount}
use Rattle.waitress_serve.specs.Conclusions.{OutLeaves, PollCount, TableCount}
use Rattle.waitress_serve.specs.Made.{Files}
use Rattle.waitress_serve.specs.Reading.{Reading}
use Rattle.waitress_serve.specs.Status.{listen_by}
use Rattle.waitress_serve.specs.declared.conclusion.Conclusion.{Conclusion}
use Rattle.waitress_serve.specs.declared.conclusion.Conclusion.TheVariants as conclusion
use Rattle.waitress_serve.proofs.Concluded.{keeps_same, nobody_given, no_run_settled, nothing_added}
use Rattle.waitress_serve.proofs.Concluded.{nothing_settled, read_complete, read_headline}
use Rattle.waitress_serve.proofs.Concluded.{settles_runs}
use Rattle.waitress_serve.proofs.starting.run_words.Goals as goal

-- a fault that isn't want of memory is that of the words
is_fault : (asked : Reading) (fault : UsageFault) → (fault ≡ NoMemory → ⊥) →
    IsOrLacksMemory asked (Err fault) → asked ≡ Err fault
is_fault asked fault other h =
    elim h [ inl same ↦ sym same | inr lacks ↦ absurd (other cc) ]

is_command : (asked : Reading) (command : Command) → IsOrLacksMemory asked (Ok command) →
    asked ≡ Ok command
is_command asked command h =
    elim h [ inl same ↦ sym same | inr lacks ↦ cc ]

pub returns-in-Ok-clause-complete : goal.returns-in-Ok-clause-complete
returns-in-Ok-clause-complete g c = λ told links spills app quiet.
    read_complete _ _ _ _ _ _ (is_command _ c.in-Ok.command c.in-Ok.ensures.command) _ _ _ _ _ _ _ _
    (g.N.Net.state c.args.net.now) _ (c.carry_out.ensures.ran told) links spills app quiet

pub returns-in-Ok-clause-headline : goal.returns-in-Ok-clause-headline
returns-in-Ok-clause-headline g c = λ told.
    read_headline _ _ _ _ _ _ (is_command _ c.in-Ok.command c.in-Ok.ensures.command) _ _ _ _ _ _ _
    (g.N.Net.state c.args.net.now) _ (c.carry_out.ensures.ran told)

pub returns-in-Ok-clause-bound : goal.returns-in-Ok-clause-bound
returns-in-Ok-clause-bound g c = λ told more. (c.carry_out.ensures.ran told).ran.bound more ∙
    ap (λ a. Some (listen_by a)) (sym (is_command _ c.in-Ok.command c.in-Ok.ensures.command))

pub returns-in-Ok-clause-net : goal.returns-in-Ok-clause-net
returns-in-Ok-clause-net g c = λ told. (c.carry_out.ensures.ran told).ran.net

pub returns-in-Ok-clause-shut_last : goal.returns-in-Ok-clause-shut_last
returns-in-Ok-clause-shut_last g c = λ told. (c.carry_out.ensures.ran told).ran.shut_last

pub returns-in-Ok-clause-given : goal.returns-in-Ok-clause-given
returns-in-Ok-clause-given g c = λ told. (c.carry_out.ensures.ran told).ran.given

pub returns-in-Ok-clause-live : goal.returns-in-Ok-clause-live
returns-in-Ok-clause-live g c = λ told. (c.carry_out.ensures.ran told).ran.live

pub returns-in-Ok-clause-quiet : goal.returns-in-Ok-clause-quiet
returns-in-Ok-clause-quiet g c = λ told. (c.carry_out.ensures.ran told).ran.quiet

pub returns-in-Ok-clause-unstopped : goal.returns-in-Ok-clause-unstopped
returns-in-Ok-clause-unstopped g c = λ told. (c.carry_out.ensures.ran told).ran.unstopped

pub returns-in-Ok-clause-settled : goal.returns-in-Ok-clause-settled
returns-in-Ok-clause-settled g c = λ told. (c.carry_out.ensures.ran told).ran.settled

pub returns-in-Ok-clause-fell : goal.returns-in-Ok-clause-fell
returns-in-Ok-clause-fell g c = λ told.
    settles_runs _ _ _ _ _ _ _ _ _ (g.N.Net.state c.args.net.now) _
    (c.carry_out.ensures.ran told)

-- Words that could not be read leave all as it was.
module _ (wrong : UsageFault) where
  -- what holds of both ends of such words holds of the one that they have
  either : (P : Conclusion → Type 0) (end : Conclusion) → IsUnread wrong end →
      ((fault : UsageFault) → fault ≡ wrong → (wrong ≡ NoMemory → ⊥) →
      P (conclusion.Usage fault)) →
      P conclusion.NoMemory → P end
  either P conclusion.Done h usage memory = absurd h
  either P (conclusion.Usage fault) h usage memory = usage fault h.0 h.1
  either P conclusion.NotBuilt h usage memory = absurd h
  either P (conclusion.Unmade why) h usage memory = absurd h
  either P conclusion.BindFailed h usage memory = absurd h
  either P conclusion.Unprinted h usage memory = absurd h
  either P conclusion.PollFailed h usage memory = absurd h
  either P conclusion.NoMemory h usage memory = memory

  module _ (end : Conclusion) (unread : IsUnread wrong end) where
    why_unread : (told : Bool) (n m : ℕ) (files : Files) (asked : Reading) →
        ((wrong ≡ NoMemory → ⊥) → asked ≡ Err wrong) → Concludes told n m files asked end
    why_unread told n m files asked is = either (λ r. Concludes told n m files asked r) end unread
        (λ f e other. is other ∙ ap Err (sym e)) (record {})

    binds_unread : (n : ℕ) → BindCount end n n
    binds_unread n = either (λ r. BindCount r n n) end unread (λ f e o. refl) refl

    polls_unread : (n : ℕ) → PollCount end n n
    polls_unread n = either (λ r. PollCount r n n) end unread (λ f e o. refl) refl

    outs_unread : (n : ℕ) → OutCount end n n
    outs_unread n = either (λ r. OutCount r n n) end unread (λ f e o. refl) refl

    tree_unread : (n : ℕ) → TableCount end n n
    tree_unread n = either (λ r. TableCount r n n) end unread (λ f e o. refl) refl

    text_unread : (text written : List ℕ) → OutLeaves text end written written
    text_unread text written = either (λ r. OutLeaves text r written written) end unread
        (λ f e o. refl) (inl refl)

    net_unread : {L P : Type 0} (net : NetState L P) → NetLeaves end net net
    net_unread net = either (λ r. NetLeaves r net net) end unread (λ f e o. refl) (record {})

    stops_unread : {L P : Type 0} (limit : Option ℕ) (net : NetState L P) →
        DoneStops limit end net net
    stops_unread limit net = either (λ r. DoneStops limit r net net) end unread
        (λ f e o. record {}) (record {})

    fails_unread : {L P : Type 0} (net : NetState L P) → FailsUnstopped end net net
    fails_unread net = either (λ r. FailsUnstopped r net net) end unread
        (λ f e o. record {}) (record {})

    adds_unread : {E : Type 0} (Holds : E → Type 0) (closed : List E) →
        DoneAdds Holds end closed closed
    adds_unread Holds closed = either (λ r. DoneAdds Holds r closed closed) end unread
        (λ f e o. record {}) (record {})

pub returns-in-Err : goal.returns-in-Err
returns-in-Err g c =
    let wrong = c.in-Err.fault in
    let end = c.unread.result in
    let unread = c.unread.ensures in
    record {
      why = why_unread wrong end unread _ _ _ _ _ (λ other.
          is_fault _ wrong other c.in-Err.ensures.command);
      binds = binds_unread wrong end unread _;
      polls = polls_unread wrong end unread _;
      net = λ told. net_unread wrong end unread _;
      stops = λ told some. stops_unread wrong end unread _ _;
      limited = λ told. keeps_same _ _ _ refl;
      idle = λ none. (refl, refl);
      idle_net = λ told none. refl;
      headline = λ told. nothing_added _ _ _ refl;
      shut_last = λ told. inl refl;
      given = λ told. nobody_given _ _ _ refl refl;
      live = λ told. refl;
      quiet = λ told. refl;
      unstopped = λ told. fails_unread wrong end unread _;
      plan = refl;
      bound = λ told more. absurd (omega (arith, more));
      spills = omega arith;
      settled = λ told. nothing_settled _ _ _ _ refl refl;
      fell = λ told. no_run_settled _ _ _ _ refl refl;
      complete = λ told links spills app quiet still unbroken brief.
          adds_unread wrong end unread _ _;
      tree = omega arith;
      files = λ told. refl;
      tree_kept = λ none. refl;
      tree_read = λ none. tree_unread wrong end unread _;
      idle_out = λ some none. refl;
      outs = outs_unread wrong end unread _;
      text = λ told. text_unread wrong end unread _ _;
      printed = λ told net more. absurd (omega (arith, more));
    }
