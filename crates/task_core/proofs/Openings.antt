-- What a step before the head makes of the answer.
use Rattle.std.proofs.Common.{◌≡◌, ℕ, Bool, true, false, List, [], ◌∷◌, ◌++◌, Option, Some, None}
use Rattle.std.proofs.Common.{take, cond, refl, ap, sym, ◌∙◌, append_assoc}
use Rattle.std.specs.Prelude.{is_some, ◌&&◌, ◌||◌, not, if◌then◌else◌}
use Rattle.std.specs.List.{filter_map, last_or}
use Rattle.head_grammar.specs.declared.types.Field.{Field}
use Rattle.task_core.specs.Answer.{Answer, answer, answer_from, answer_to, body_bytes, failure_text}
use Rattle.task_core.specs.Answer.{layout_closes, layout_of, response_head}
use Rattle.task_core.specs.Remaining.{before_break, breaks, rest_by, rest_of_body, start_steps}
use Rattle.task_core.specs.Scripts.{before_head, failure_behind, has_bytes, has_head, head_writer}
use Rattle.task_core.specs.Scripts.{is_failure, pieces, start_of}
use Rattle.task_core.specs.Sending.{ending, left_behind, passed}
use Rattle.task_core.specs.Starts.{is_valid}
use Rattle.task_core.specs.Steps.{byte_string, onto}
use Rattle.task_core.specs.declared.layout.Layout.{Layout}
use Rattle.task_core.specs.declared.task.Request.{Request}
use Rattle.task_core.specs.declared.starts.Given.{Given}
use Rattle.task_core.specs.declared.task.State.TheVariants.{Sending}
use Rattle.wsgi.specs.declared.step.Step.{Step}
use Rattle.wsgi.specs.declared.step.Step.TheVariants.{Start, Piece, Whole, Fail}
use Rattle.task_core.proofs.Failing.{answer_behind, answer_is, at_end, broken_behind, failed_step}
use Rattle.task_core.proofs.Failing.{other_steps, sound_step, taken_behind}
use Rattle.task_core.proofs.Pieces.{ending_is, piece_closes, piece_sent}
use Rattle.task_core.proofs.Testing.{and_false, and_true, or_false}

-- the one answer to an application that failed before its head
abbrev pub failure_answer : Request → Answer
failure_answer request = record { text = failure_text request; closes = true }

abbrev start_step : Given → Step
start_step given = Start given.status given.fields false

-- the Start in force is the one step that counts
pub opening_is : (request : Request) (given : Option Given) (rest : List Step) →
    answer request (start_steps given ++ rest) ≡ answer_behind request (start_steps given) rest
opening_is request None rest = answer_is request rest
opening_is request (Some given) rest =
    answer_is request (start_step given ∷ rest)
    ∙ sound_step request [] (start_step given) rest
    (ap not given.valid)

-- before the head a failure is all that is answered
pub no_head : (request : Request) (given : Option Given) →
    answer_to request (start_steps given) true ≡ failure_answer request
no_head request None = refl
no_head request (Some given) = refl

open_failed : (request : Request) (given : Option Given) (step : Step) (rest : List Step) →
    answer_behind request (start_steps given) (step ∷ rest) ≡ answer_to request (start_steps given)
    true →
    answer request (start_steps given ++ step ∷ rest) ≡ failure_answer request
open_failed request given step rest h = opening_is request given (step ∷ rest) ∙
    (h ∙ no_head request given)

pub fail_answer : (request : Request) (given : Option Given) (rest : List Step) →
    answer request (start_steps given ++ Fail ∷ rest) ≡ failure_answer request
fail_answer request given rest =
    open_failed request given Fail rest (failed_step request (start_steps given) Fail rest refl)

-- a Start behind another one
pub second_start : (request : Request) (given : Option Given) (status : List ℕ)
    (fields : List Field)
    (replace : Bool) (rest : List Step) → (is_some given && not replace) ≡ true →
    answer request (start_steps given ++ Start status fields replace ∷ rest) ≡ failure_answer
    request
second_start request None status fields replace rest h = let no : false ≡ true = h in absurd (cc)
second_start request (Some given) status fields replace rest h =
    open_failed request (Some given) (Start status fields replace) rest
    (failed_step request (start_step given ∷ []) (Start status fields replace) rest
    (ap (λ t. t || false || not (is_valid status fields)) h))

invalid_by : (a b : Bool) → b ≡ false → (a || false || not b) ≡ true
invalid_by true b h = refl
invalid_by false b h = ap not h

-- a Start that isn't valid
pub bad_start : (request : Request) (given : Option Given) (status : List ℕ) (fields : List Field)
    (replace : Bool) (rest : List Step) → is_valid status fields ≡ false →
    answer request (start_steps given ++ Start status fields replace ∷ rest) ≡ failure_answer
    request
bad_start request None status fields replace rest h =
    open_failed request None (Start status fields replace) rest
    (failed_step request [] (Start status fields replace) rest (ap not h))
bad_start request (Some given) status fields replace rest h =
    open_failed request (Some given) (Start status fields replace) rest
    (failed_step request (start_step given ∷ []) (Start status fields replace) rest
    (invalid_by (not replace) (is_valid status fields) h))

-- a Start that counts
pub good_start : (request : Request) (given : Option Given) (next : Given) (replace : Bool)
    (rest : List Step) →
    (is_some given && not replace) ≡ false →
    answer request (start_steps given ++ Start next.status next.fields replace ∷ rest)
    ≡ answer request (start_steps (Some next) ++ rest)
good_start request None next replace rest h =
    opening_is request None (Start next.status next.fields replace ∷ rest)
    ∙ (sound_step request [] (Start next.status next.fields replace) rest (ap not next.valid)
    ∙ (other_steps request (Start next.status next.fields replace ∷ []) (start_step next ∷ []) rest
    refl refl
    (λ steps failed. refl)
    ∙ sym (opening_is request (Some next) rest)))
good_start request (Some given) next replace rest h =
    opening_is request (Some given) (Start next.status next.fields replace ∷ rest)
    ∙ (sound_step request (start_step given ∷ []) (Start next.status next.fields replace) rest
    (ap (λ t. t || false || not (is_valid next.status next.fields)) h ∙ ap not next.valid)
    ∙ (other_steps request (start_step given ∷ Start next.status next.fields replace ∷ [])
    (start_step next ∷ []) rest refl refl
    (λ steps failed. refl)
    ∙ sym (opening_is request (Some next) rest)))

-- a byte string that has no bytes does nothing
pub empty_string : (request : Request) (given : Option Given) (whole : Bool) (rest : List Step) →
    answer request (start_steps given ++ byte_string whole [] ∷ rest) ≡ answer request
    (start_steps given ++ rest)
empty_string request None true rest =
    opening_is request None (Whole [] ∷ rest) ∙ (sound_step request [] (Whole []) rest refl
    ∙ (other_steps request (Whole [] ∷ []) [] rest refl refl (λ steps failed. refl) ∙
    sym (opening_is request None rest)))
empty_string request None false rest =
    opening_is request None (Piece [] ∷ rest) ∙ (sound_step request [] (Piece []) rest refl
    ∙ (other_steps request (Piece [] ∷ []) [] rest refl refl (λ steps failed. refl) ∙
    sym (opening_is request None rest)))
empty_string request (Some given) true rest =
    opening_is request (Some given) (Whole [] ∷ rest) ∙ (sound_step request (start_step given ∷ [])
    (Whole []) rest refl
    ∙ (other_steps request (start_step given ∷ Whole [] ∷ []) (start_step given ∷ []) rest refl refl
    (λ steps failed. refl) ∙ sym (opening_is request (Some given) rest)))
empty_string request (Some given) false rest =
    opening_is request (Some given) (Piece [] ∷ rest) ∙ (sound_step request (start_step given ∷ [])
    (Piece []) rest refl
    ∙ (other_steps request (start_step given ∷ Piece [] ∷ []) (start_step given ∷ []) rest refl refl
    (λ steps failed. refl) ∙ sym (opening_is request (Some given) rest)))

-- a byte of the body before any Start
pub string_alone : (request : Request) (whole : Bool) (bytes : List ℕ) (rest : List Step) →
    has_bytes bytes ≡ true →
    answer request (byte_string whole bytes ∷ rest) ≡ failure_answer request
string_alone request true bytes rest h =
    open_failed request None (Whole bytes) rest
    (failed_step request [] (Whole bytes) rest (and_true (has_bytes bytes) ∙ h))
string_alone request false bytes rest h =
    open_failed request None (Piece bytes) rest
    (failed_step request [] (Piece bytes) rest (and_true (has_bytes bytes) ∙ h))

-- the end of a script
pub end_alone : (request : Request) → answer request (start_steps None ++ []) ≡ failure_answer
    request
end_alone request = opening_is request None [] ∙ at_end request []

pub end_answer : (request : Request) (given : Given) (layout : Layout) →
    layout ≡ layout_of request (given.status, given.fields) None →
    answer request (start_steps (Some given) ++ []) ≡ record {
      text = response_head request (given.status, given.fields) layout ++ ending layout;
      closes = request.closes || layout_closes layout [];
    }
end_answer request given layout e =
    let start : List ℕ × List Field = (given.status, given.fields) in
    let by : Layout → Answer = λ l. record {
      text = response_head request start l ++ body_bytes l [] false;
      closes = request.closes || false || layout_closes l [];
    } in
    opening_is request (Some given) [] ∙ (at_end request (start_step given ∷ [])
    ∙ (ap by (sym e)
    ∙ (ap (λ text. record {
      text = response_head request start layout ++ text;
      closes =
          request.closes || false || layout_closes layout [];
    }) (ending_is layout)
    ∙ ap (λ t. record {
      text = response_head request start layout ++ ending layout;
      closes =
          t || layout_closes layout [];
    })
    (or_false request.closes))))

-- the same with any layout
abbrev begun_by : Request → Given → List ℕ → List Step → Bool → Layout → Answer
begun_by request given bytes steps failed layout = record {
  text = response_head request (given.status, given.fields) layout
      ++ body_bytes layout (bytes ∷ pieces steps) failed;
  closes = request.closes || failed || layout_closes layout (bytes ∷ pieces steps);
}

-- the answer whose head is written with these bytes
abbrev begun : Request → Given → Step → List ℕ → List Step → Bool → Answer
begun request given step bytes steps failed =
    begun_by request given bytes steps failed (layout_of request (given.status, given.fields)
    (Some step))

-- the same, where the bytes may be none
abbrev begun_if : Request → Given → Step → List ℕ → List Step → Bool → Bool → Answer
begun_if request given step bytes steps failed filled =
    answer_from request
    (if is_some (cond filled (Some step) (head_writer steps)) || not failed
    then last_or None (filter_map start_of (start_step given ∷ cond filled []
    (step ∷ before_head steps))) else None)
    (cond filled (Some step) (head_writer steps)) (cond filled (bytes ∷ pieces steps)
    (pieces steps)) failed

begun_is : (request : Request) (given : Given) (whole : Bool) (bytes : List ℕ) (steps : List Step)
    (failed : Bool) →
    has_bytes bytes ≡ true →
    answer_to request (start_step given ∷ byte_string whole bytes ∷ steps) failed
    ≡ begun request given (byte_string whole bytes) bytes steps failed
begun_is request given true bytes steps failed h = ap (begun_if request given (Whole bytes) bytes
    steps failed) h
begun_is request given false bytes steps failed h = ap (begun_if request given (Piece bytes) bytes
    steps failed) h

-- what follows the head of this layout and its first bytes
begun_layout : (request : Request) (given : Given) (layout : Layout) (bytes : List ℕ)
    (steps : List Step)
    (failed : Bool) → has_bytes bytes ≡ true →
    ◌≡◌ {A = Answer} (record {
      text = response_head request (given.status, given.fields) layout ++ body_bytes layout
          (bytes ∷ pieces steps) failed;
      closes = request.closes || failed || layout_closes layout (bytes ∷ pieces steps);
    })
    (onto (response_head request (given.status, given.fields) layout ++ passed layout bytes)
    (rest_of_body request steps failed (left_behind layout bytes)))
begun_layout request given layout bytes steps failed h =
    let head = response_head request (given.status, given.fields) layout in
    let body = body_bytes (left_behind layout bytes) (pieces steps) failed in
    ap (λ text. record {
      text = head ++ text;
      closes = request.closes || failed || layout_closes
          layout (bytes ∷ pieces steps);
    })
    (piece_sent layout bytes (pieces steps) failed h)
    ∙ (ap (λ text. record {
      text = text;
      closes = request.closes || failed || layout_closes layout
          (bytes ∷ pieces steps);
    })
    (sym (append_assoc head (passed layout bytes) body))
    ∙ ap (λ t. record {
      text = (head ++ passed layout bytes) ++ body;
      closes =
          request.closes || failed || t;
    })
    (piece_closes layout bytes (pieces steps)))

string_sound : (given : Given) (whole : Bool) (bytes : List ℕ) →
    is_failure (start_step given ∷ []) (byte_string whole bytes) ≡ false
string_sound given true bytes = and_false (has_bytes bytes)
string_sound given false bytes = and_false (has_bytes bytes)

string_heads : (given : Given) (whole : Bool) (bytes : List ℕ) → has_bytes bytes ≡ true →
    has_head (start_step given ∷ byte_string whole bytes ∷ []) ≡ true
string_heads given true bytes h = or_false (has_bytes bytes) ∙ h
string_heads given false bytes h = or_false (has_bytes bytes) ∙ h

pub begun_answer : (request : Request) (given : Given) (whole : Bool) (bytes : List ℕ)
    (layout : Layout) →
    has_bytes bytes ≡ true → layout ≡ layout_of request (given.status, given.fields)
    (Some (byte_string whole bytes)) →
    (rest : List Step) → answer request (start_steps (Some given) ++ byte_string whole bytes ∷ rest)
    ≡ onto (response_head request (given.status, given.fields) layout ++ passed layout bytes)
    (rest_by request (Sending (left_behind layout bytes)) rest)
begun_answer request given whole bytes layout h e rest =
    let string = byte_string whole bytes in
    let before : List Step = start_step given ∷ string ∷ [] in
    let n = failure_behind before rest in
    opening_is request (Some given) (string ∷ rest)
    ∙ (sound_step request (start_step given ∷ []) string rest (string_sound given whole bytes)
    ∙ (ap (λ t. answer_to request (before ++ take n rest) (t || false))
    (broken_behind before rest refl (string_heads given whole bytes h))
    ∙ (ap (λ steps. answer_to request (before ++ steps) (breaks rest || false))
    (taken_behind before rest refl (string_heads given whole bytes h))
    ∙ (ap (λ t. answer_to request (before ++ before_break rest) t) (or_false (breaks rest))
    ∙ (begun_is request given whole bytes (before_break rest) (breaks rest) h
    ∙ (ap (begun_by request given bytes (before_break rest) (breaks rest)) (sym e)
    ∙ begun_layout request given layout bytes (before_break rest) (breaks rest) h))))))
