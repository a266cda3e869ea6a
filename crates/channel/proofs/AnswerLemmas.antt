-- The answer to a unit, as it is begun.
use Rattle.std.proofs.Common.{◌≡◌, ℕ, Bool, true, false, IsTrue, List, [], ◌∷◌, length, Option}
use Rattle.std.proofs.Common.{Some, None, refl, ap, sym, subst, ◌∙◌}
use Rattle.std.specs.Prelude.{◌||◌, Ok, Err}
use Rattle.head_grammar.specs.declared.types.Field.{Field}
use Rattle.head_grammar.specs.Heads.{Head}
use Rattle.outside.specs.declared.types.Kind.{Kind}
use Rattle.outside.specs.declared.types.Peer.{Peer}
use Rattle.request_stream.specs.Units.{continued, refused, request}
use Rattle.request_stream.specs.declared.types.Refused.{Refused}
use Rattle.task_core.specs.Answer.{Answer, answer, answer_from, layout_closes, layout_of}
use Rattle.task_core.specs.Answer.{request_of}
use Rattle.task_core.specs.Errors.{error_answer, proxy_answer}
use Rattle.task_core.specs.Steps.{Ends, Follows, GoesBy, remaining, text_of}
use Rattle.task_core.specs.declared.task.Request.{Request}
use Rattle.task_core.specs.declared.task.Task.{Task}
use Rattle.task_core.specs.declared.task.Wrote.{Wrote}
use Rattle.wsgi.specs.Environ.{environ_of}
use Rattle.wsgi.specs.declared.site.Site.{Site}
use Rattle.wsgi.specs.declared.step.Step.{Step}
use Rattle.channel.specs.Output.{Script, Variables, answer_for, continue_text, request_answer}

module _ (site : Site) (script : Script) (peer : Peer) where
  module _ (head : Head) (body : List ℕ) (moment n : ℕ) (size : n ≡ length body) where
    pub by_application : (environ : Variables) → environ_of site peer head n ≡ Ok environ →
        answer_for site script peer (request head body moment)
        ≡ answer (request_of head moment site.ident) (script environ body)
    unfolding answer_for
    by_application environ e = ap (request_answer site script head body moment)
        (ap (environ_of site peer head) (sym size) ∙ e)

    pub by_proxy : (kind : Kind) → environ_of site peer head n ≡ Err kind →
        answer_for site script peer (request head body moment)
        ≡ record { text = proxy_answer site.ident kind head moment; closes = true }
    unfolding answer_for
    by_proxy kind e = ap (request_answer site script head body moment)
        (ap (environ_of site peer head) (sym size) ∙ e)

  pub by_continue : answer_for site script peer continued ≡ record {
    text = continue_text;
    closes =
        false;
  }
  unfolding answer_for
  by_continue = refl

  pub by_refusal : (r : Refused) → answer_for site script peer (refused r)
      ≡ record { text = error_answer site.ident r; closes = true }
  unfolding answer_for
  by_refusal r = refl

-- An answer to a request that closes will close.

from_closes : (made : Request) (start : Option (List ℕ × List Field)) (writer : Option Step)
    (parts : List (List ℕ)) (failed : Bool) → IsTrue made.closes →
    IsTrue (answer_from made start writer parts failed).closes
from_closes made None writer parts failed e = refl
from_closes made (Some start) writer parts failed e =
    ap (λ b. b || failed || layout_closes (layout_of made start writer) parts) e

pub answer_closes : (made : Request) (script : List Step) → IsTrue made.closes →
    IsTrue (answer made script).closes
unfolding answer
answer_closes made script e = from_closes made _ _ _ _ e

pub task_closes : (task : Task) (made : Request) →
    ((script : List Step) → remaining task script ≡ answer made script) → IsTrue made.closes →
    (steps : List Step) → IsTrue (remaining task steps).closes
task_closes task made gives e steps = ap (λ (a : Answer). a.closes) (gives steps)
    ∙ answer_closes made steps e

-- A step of it leaves that so.
module _ (old new : List Step → Answer) (step : Option Step) (wrote : Wrote)
    (goes : GoesBy old step wrote new) (shuts : (steps : List Step) →
    IsTrue (old steps).closes) where
  pub ends_shut : (closes : Bool) → wrote.ended ≡ Some closes → IsTrue closes
  ends_shut closes e = by step goes
    where
      by : (step : Option Step) → GoesBy old step wrote new → IsTrue closes
      by (Some s) goes =
          let follows : (rest : List Step) → old (s ∷ rest)
          ≡ record { text = text_of wrote; closes = closes } =
          subst (λ (x : Option Bool). Follows x (text_of wrote) (λ rest. old (s ∷ rest)) new) e
          goes in
          sym (ap (λ (a : Answer). a.closes) (follows [])) ∙ shuts (s ∷ [])
      by None goes =
          let ends : old [] ≡ record { text = text_of wrote; closes = closes } =
          subst (λ (x : Option Bool). Ends x (text_of wrote) (old [])) e goes in
          sym (ap (λ (a : Answer). a.closes) ends) ∙ shuts []
