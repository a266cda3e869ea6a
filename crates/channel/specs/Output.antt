-- What a channel owes to the bytes that arrive on it.
use Rattle.std.specs.Prelude.{◌≡◌, ℕ, Bool, true, false, List, [], ◌∷◌, ◌++◌, if◌then◌else◌, codes}
use Rattle.std.specs.Prelude.{length, map, Result, Ok, Err}
use Rattle.std.specs.List.{list_any}
use Rattle.head_grammar.specs.Heads.{Head}
use Rattle.outside.specs.declared.types.Kind.{Kind}
use Rattle.outside.specs.declared.types.Peer.{Peer}
use Rattle.request_stream.specs.Units.{Asked, continued, refused, request, units}
use Rattle.request_stream.specs.declared.types.Limits.{Limits}
use Rattle.task_core.specs.Answer.{Answer, answer, request_of}
use Rattle.task_core.specs.Errors.{error_answer, proxy_answer}
use Rattle.wsgi.specs.Environ.{environ_of}
use Rattle.wsgi.specs.declared.site.Site.{Site}
use Rattle.wsgi.specs.declared.step.Step.{Step}

-- what arrived on a connection: bytes, each with its moment in front
abbrev pub Input : Type 0
Input = List (ℕ × ℕ)

-- the names and values of an environ
abbrev pub Variables : Type 0
Variables = List (List ℕ × List ℕ)

-- the steps of an application for each environ and body
abbrev pub Script : Type 0
Script = Variables → List ℕ → List Step

-- 100 Continue (RFC 9110, section 15.2.1)
abbrev pub continue_text : List ℕ
continue_text = codes "HTTP/1.1 100 Continue\r\n\r\n"

-- The answer to a request: by the application, which is given the environ; or to a malformed proxy
-- header, where there is no environ.
abbrev pub request_answer : Site → Script → Head → List ℕ → ℕ → Result Variables Kind → Answer
request_answer site script head body moment (Ok environ) =
    answer (request_of head moment site.ident) (script environ body)
request_answer site script head body moment (Err kind) =
    record { text = proxy_answer site.ident kind head moment; closes = true }

-- the answer to one thing that this peer asks for
unfoldable pub answer_for : Site → Script → Peer → Asked → Answer
answer_for site script peer continued = record { text = continue_text; closes = false }
answer_for site script peer (refused r) =
    record { text = error_answer site.ident r; closes = true }
answer_for site script peer (request head body moment) =
    request_answer site script head body moment (environ_of site peer head (length body))

-- the texts one behind another; nothing follows one that closes
unfoldable pub joined : List Answer → List ℕ
joined [] = []
joined (a ∷ rest) = if a.closes then a.text else a.text ++ joined rest

abbrev pub any_closes : List Answer → Bool
any_closes answers = list_any (λ a. a.closes) answers

abbrev pub answers_for : Site → Script → Peer → List Asked → List Answer
answers_for site script peer asked = map (answer_for site script peer) asked

-- the answers to an input
unfoldable pub responses : Limits → Site → Script → Peer → Input → List ℕ
responses limits site script peer x = joined (answers_for site script peer (units limits x))

-- whether one of them closes
unfoldable pub has_closed : Limits → Site → Script → Peer → Input → Bool
has_closed limits site script peer x = any_closes (answers_for site script peer (units limits x))

-- one list of bytes is a front of another
pub record IsPrefix (xs ys : List ℕ) : Type 0 where
  pub rest : List ℕ
  pub whole : ys ≡ xs ++ rest
