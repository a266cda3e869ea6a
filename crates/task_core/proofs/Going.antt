-- What a step wrote, and what is left behind it.
use Rattle.std.proofs.Common.{◌≡◌, ℕ, Bool, true, false, List, [], ◌∷◌, ◌++◌, Option, Some, None}
use Rattle.std.proofs.Common.{Result, Ok, Err, cond, refl, ap, sym, subst, ◌∙◌, append-nil}
use Rattle.std.specs.Prelude.{IfOk, ◌||◌, is_some}
use Rattle.task_core.specs.Answer.{Answer, answer, body_bytes, failure_text, layout_closes}
use Rattle.task_core.specs.Answer.{layout_of, response_head}
use Rattle.task_core.specs.Remaining.{before_break, breaks, rest_by, rest_of_body, start_steps}
use Rattle.task_core.specs.Scripts.{has_bytes, pieces}
use Rattle.task_core.specs.Sending.{ending, left_behind, passed}
use Rattle.task_core.specs.Steps.{Follows, Goes, GoesBy, byte_string, has_ended, onto, text_of}
use Rattle.task_core.specs.declared.layout.Layout.{Layout}
use Rattle.task_core.specs.declared.task.Request.{Request}
use Rattle.task_core.specs.declared.starts.Given.{Given}
use Rattle.task_core.specs.declared.task.State.{State}
use Rattle.task_core.specs.declared.task.State.TheVariants.{Opening, Sending, Ended}
use Rattle.task_core.specs.declared.task.Wrote.{Wrote}
use Rattle.wsgi.specs.declared.step.Step.{Step}
use Rattle.task_core.proofs.Openings.{begun_answer, end_answer, failure_answer}
use Rattle.task_core.proofs.Pieces.{nothing_left, nothing_passed, piece_closes, piece_sent}
use Rattle.task_core.proofs.Testing.{no_bytes}

pub if_ok : {T E : Type 0} (P Q : T → Type 0) (result : Result T E) → ((x : T) → P x → Q x) →
    IfOk result P → IfOk result Q
if_ok P Q (Ok x) f h = f x h
if_ok P Q (Err e) f h = h

abbrev failed_wrote : Request → Wrote
failed_wrote request = record { head = failure_text request; body = []; ended = Some true }

abbrev pub HasFailed : Request → Wrote × State → Type 0
HasFailed request r = (r.0 ≡ failed_wrote request) × (r.1 ≡ Ended)

failed_ended : (request : Request) (r : Wrote × State) → HasFailed request r →
    has_ended r.1 ≡ is_some r.0.ended
failed_ended request r h = ap has_ended h.1 ∙ sym (ap (λ (w : Wrote). is_some w.ended) h.0)

abbrev answered : List ℕ → Answer
answered text = record { text = text; closes = true }

failed_follows : (request : Request) (given : Option Given) (step : Step) (r : Wrote × State) →
    ((rest : List Step) → answer request (start_steps given ++ step ∷ rest) ≡ failure_answer
    request) →
    HasFailed request r → Goes request (Opening given) (Some step) r
failed_follows request given step r same h = (
  subst (λ (w : Wrote). GoesBy (rest_by request (Opening given)) (Some step) w
      (rest_by request r.1)) (sym h.0)
      (λ rest. same rest ∙ ap answered (sym (append-nil (failure_text request)))),
  failed_ended request r h,
)

-- the application failed before its head
pub failed_goes : {E : Type 0} (request : Request) (given : Option Given) (step : Step)
    (result : Result (Wrote × State) E) →
    ((rest : List Step) → answer request (start_steps given ++ step ∷ rest) ≡ failure_answer
    request) →
    IfOk result (HasFailed request) → IfOk result (Goes request (Opening given) (Some step))
failed_goes request given step result same h =
    if_ok (HasFailed request) (Goes request (Opening given) (Some step)) result
    (λ r. failed_follows request given step r same) h

failed_ends : (request : Request) (given : Option Given) (r : Wrote × State) →
    answer request (start_steps given ++ []) ≡ failure_answer request →
    HasFailed request r → Goes request (Opening given) None r
failed_ends request given r same h = (
  subst (λ (w : Wrote). GoesBy (rest_by request (Opening given)) None w (rest_by request r.1))
      (sym h.0)
      (same ∙ ap answered (sym (append-nil (failure_text request)))),
  failed_ended request r h,
)

pub failed_end : {E : Type 0} (request : Request) (given : Option Given)
    (result : Result (Wrote × State) E) →
    answer request (start_steps given ++ []) ≡ failure_answer request →
    IfOk result (HasFailed request) → IfOk result (Goes request (Opening given) None)
failed_end request given result same h =
    if_ok (HasFailed request) (Goes request (Opening given) None) result
    (λ r. failed_ends request given r same) h

abbrev nothing_wrote : Wrote
nothing_wrote = record { head = []; body = []; ended = None }

-- nothing is written yet
pub waiting_goes : (request : Request) (given next : Option Given) (step : Step)
    (r : Wrote × State) →
    ((rest : List Step) → answer request (start_steps given ++ step ∷ rest) ≡ answer request
    (start_steps next ++ rest)) →
    r.0 ≡ nothing_wrote → r.1 ≡ Opening next → Goes request (Opening given) (Some step) r
waiting_goes request given next step r same wrote left = (
  subst (λ (w : Wrote). GoesBy (rest_by request (Opening given)) (Some step) w
      (rest_by request r.1)) (sym wrote)
      (subst (λ (s : State). (rest : List Step) → rest_by request (Opening given)
      (step ∷ rest) ≡ onto [] (rest_by request s rest))
      (sym left) same),
  ap has_ended left ∙ sym (ap (λ (w : Wrote). is_some w.ended) wrote),
)

-- an answer that goes on
pub follows_on : (ended : Option Bool) (text : List ℕ) (old new : List Step → Answer) →
    ended ≡ None →
    ((rest : List Step) → old rest ≡ onto text (new rest)) → Follows ended text old new
follows_on None text old new e same = same
follows_on (Some closes) text old new e same = absurd (cc)

pieces_of : (whole : Bool) (bytes : List ℕ) (steps : List Step) →
    pieces (byte_string whole bytes ∷ steps) ≡ cond (has_bytes bytes) (bytes ∷ pieces steps)
    (pieces steps)
pieces_of true bytes steps = refl
pieces_of false bytes steps = refl

-- the body of these pieces
abbrev body_of : Request → Layout → Bool → List (List ℕ) → Answer
body_of request layout failed parts = record {
  text = body_bytes layout parts failed;
  closes = request.closes || failed || layout_closes layout parts;
}

sent_by : (b : Bool) (request : Request) (layout : Layout) (bytes : List ℕ) (steps : List Step)
    (failed : Bool) →
    has_bytes bytes ≡ b → body_of request layout failed (cond b (bytes ∷ pieces steps)
    (pieces steps))
    ≡ onto (passed layout bytes) (rest_of_body request steps failed (left_behind layout bytes))
sent_by true request layout bytes steps failed h =
    ap (λ text. record {
      text = text;
      closes = request.closes || failed || layout_closes layout
          (bytes ∷ pieces steps);
    })
    (piece_sent layout bytes (pieces steps) failed h)
    ∙ ap (λ t. record {
      text = passed layout bytes ++ body_bytes (left_behind layout bytes)
          (pieces steps) failed;
      closes = request.closes || failed || t;
    })
    (piece_closes layout bytes (pieces steps))
sent_by false request layout bytes steps failed h =
    let none = no_bytes bytes h in
    ap (λ l. rest_of_body request steps failed l) (sym (nothing_left layout))
    ∙ (ap (λ text. onto text (rest_of_body request steps failed (left_behind layout [])))
    (sym (nothing_passed layout))
    ∙ ap (λ bs. onto (passed layout bs) (rest_of_body request steps failed (left_behind layout bs)))
    (sym none))

-- a byte string behind the head
pub string_sent : (request : Request) (layout : Layout) (whole : Bool) (bytes : List ℕ)
    (rest : List Step) →
    rest_by request (Sending layout) (byte_string whole bytes ∷ rest)
    ≡ onto (passed layout bytes) (rest_by request (Sending (left_behind layout bytes)) rest)
string_sent request layout true bytes rest =
    ap (body_of request layout (breaks rest)) (pieces_of true bytes (before_break rest))
    ∙ sent_by (has_bytes bytes) request layout bytes (before_break rest) (breaks rest) refl
string_sent request layout false bytes rest =
    ap (body_of request layout (breaks rest)) (pieces_of false bytes (before_break rest))
    ∙ sent_by (has_bytes bytes) request layout bytes (before_break rest) (breaks rest) refl

goes_sent : (request : Request) (layout : Layout) (whole : Bool) (bytes : List ℕ)
    (r : Wrote × State) →
    text_of r.0 ≡ passed layout bytes → r.0.ended ≡ None →
    r.1 ≡ Sending (left_behind layout bytes) →
    Goes request (Sending layout) (Some (byte_string whole bytes)) r
goes_sent request layout whole bytes r text goes_on left = (
  follows_on r.0.ended (text_of r.0) (λ rest. rest_by request (Sending layout)
      (byte_string whole bytes ∷ rest))
      (rest_by request r.1) goes_on
      (λ rest. string_sent request layout whole bytes rest
      ∙ (ap (λ t. onto t (rest_by request (Sending (left_behind layout bytes)) rest)) (sym text)
      ∙ ap (λ s. onto (text_of r.0) (rest_by request s rest)) (sym left))),
  ap has_ended left ∙ sym (ap is_some goes_on),
)

pub sent_goes : {E : Type 0} (request : Request) (layout : Layout) (step : Option Step)
    (whole : Bool) (bytes : List ℕ)
    (result : Result (Wrote × State) E) → step ≡ Some (byte_string whole bytes) →
    IfOk result (λ r. text_of r.0 ≡ passed layout bytes) → IfOk result (λ r. r.0.ended ≡ None) →
    IfOk result (λ r. r.1 ≡ Sending (left_behind layout bytes)) →
    IfOk result (Goes request (Sending layout) step)
sent_goes request layout step whole bytes (Ok r) e text goes_on left =
    subst (λ (s : Option Step). Goes request (Sending layout) s r) (sym e)
    (goes_sent request layout whole bytes r text goes_on left)
sent_goes request layout step whole bytes (Err f) e text goes_on left = tt

-- the head, and the first bytes of the body
pub begun_goes : (request : Request) (given : Given) (whole : Bool) (bytes head body : List ℕ)
    (layout next : Layout)
    (wrote : Wrote) → has_bytes bytes ≡ true →
    layout ≡ layout_of request (given.status, given.fields) (Some (byte_string whole bytes)) →
    wrote ≡ record { head = head; body = body; ended = None } →
    head ++ body ≡ response_head request (given.status, given.fields) layout ++ passed layout
    bytes →
    next ≡ left_behind layout bytes →
    Goes request (Opening (Some given)) (Some (byte_string whole bytes)) (wrote, Sending next)
begun_goes request given whole bytes head body layout next wrote some e is text left = (
  subst (λ (w : Wrote). GoesBy (rest_by request (Opening (Some given)))
      (Some (byte_string whole bytes)) w (rest_by request (Sending next)))
      (sym is)
      (λ rest. begun_answer request given whole bytes layout some e rest
      ∙ (ap (λ t. onto t (rest_by request (Sending (left_behind layout bytes)) rest)) (sym text)
      ∙ ap (λ l. onto (head ++ body) (rest_by request (Sending l) rest)) (sym left))),
  sym (ap (λ (w : Wrote). is_some w.ended) is),
)

-- the head and the end of the body
pub finished_goes : (request : Request) (given : Given) (text : List ℕ) (closes : Bool)
    (layout : Layout) (wrote : Wrote) →
    layout ≡ layout_of request (given.status, given.fields) None →
    wrote ≡ record { head = text; body = []; ended = Some closes } →
    text ≡ response_head request (given.status, given.fields) layout ++ ending layout →
    closes ≡ (request.closes || layout_closes layout []) →
    Goes request (Opening (Some given)) None (wrote, Ended)
finished_goes request given text closes layout wrote e is whole shuts = (
  subst (λ (w : Wrote). GoesBy (rest_by request (Opening (Some given))) None w
      (rest_by request Ended)) (sym is)
      (end_answer request given layout e
      ∙ (ap (λ t. record { text = t; closes = request.closes || layout_closes layout [] })
      (sym whole)
      ∙ (ap (λ c. record { text = text; closes = c }) (sym shuts)
      ∙ ap (λ t. record { text = t; closes = closes }) (sym (append-nil text))))),
  sym (ap (λ (w : Wrote). is_some w.ended) is),
)
