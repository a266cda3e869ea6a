-- The answer to a request, from the whole script of its application (PEP 3333; RFC 9110, sections
-- 6.4, 8.6 and 15; RFC 9112, sections 6, 7.1 and 9).
use Rattle.std.specs.Prelude.{ℕ, Bool, true, false, not, ◌||◌, nat_lt, List, [], ◌∷◌, ◌++◌, length}
use Rattle.std.specs.Prelude.{take, map, filter, codes, Option, Some, None, is_some, if◌then◌else◌}
use Rattle.std.specs.Fmt.{digits}
use Rattle.std.specs.List.{concat, flat_map, list_any}
use Rattle.std.specs.Option.{option_to_list}
use Rattle.std.specs.Str.{bytes_eq}
use Rattle.head_grammar.specs.declared.types.Field.{Field}
use Rattle.head_grammar.specs.Heads.{Head}
use Rattle.head_grammar.specs.declared.types.Version.{Version}
use Rattle.head_grammar.specs.declared.types.Version.TheVariants.{Old, New}
use Rattle.task_core.specs.Errors.{close_field, date_fields, error_text, is_head, length_field}
use Rattle.task_core.specs.Errors.{server_field}
use Rattle.task_core.specs.ResponseHead.{crlf, head_text, sorted_by_name, written}
use Rattle.task_core.specs.Scripts.{has_failed, head_writer, pieces, sound_steps, start_in_force}
use Rattle.task_core.specs.Starts.{declared_length, is_named}
use Rattle.task_core.specs.declared.errors.Cause.TheVariants.{Application}
use Rattle.task_core.specs.declared.layout.Layout.{Layout}
use Rattle.task_core.specs.declared.layout.Layout.TheVariants.{NoContent, NotModified, HeadOnly}
use Rattle.task_core.specs.declared.layout.Layout.TheVariants.{Known, Chunked, UntilClose}
use Rattle.task_core.specs.declared.task.Request.{Request}
use Rattle.wsgi.specs.declared.step.Step.{Step}
use Rattle.wsgi.specs.declared.step.Step.TheVariants.{Start, Piece, Whole, Fail}

-- what of a request its answer depends on
abbrev pub request_of : Head → ℕ → List ℕ → Request
request_of head moment ident = record {
  is_head = is_head head.method;
  version = head.version;
  closes = head.closes;
  moment = moment;
  ident = ident;
}

-- a text, and whether the connection closes behind it
pub record Answer : Type 0 where
  pub text : List ℕ
  pub closes : Bool

-- the length that the step tells with which the head is written: that of the one byte string; at
-- the script's end that of no body at all, which HEAD doesn't show
abbrev pub length_told : Bool → Option Step → Option ℕ
length_told head_only (Some (Whole bytes)) = Some (length bytes)
length_told head_only (Some (Piece bytes)) = None
length_told head_only (Some (Start status fields replace)) = None
length_told head_only (Some Fail) = None
length_told head_only None = if head_only then None else Some 0

-- the length of the body, where it is known: the one declared, or else the one told
abbrev pub known_length : Option ℕ → Option ℕ → Option ℕ
known_length (Some n) told = Some n
known_length None told = told

abbrev pub has_code : List ℕ → List ℕ → Bool
has_code code status = bytes_eq code (take 3 status)

abbrev pub by_length : Version → Option ℕ → Layout
by_length version (Some n) = Known n
by_length New None = Chunked
by_length Old None = UntilClose

-- How the body is laid out. 204 and 304 have none (RFC 9110, section 6.4.1),
-- HEAD gets none (9.3.2), and else the length decides (RFC 9112, section 6.3).
abbrev pub layout_by : Request → List ℕ → Option ℕ → Option ℕ → Layout
layout_by request status declared told =
    let known = known_length declared told in
    if has_code (codes "204") status then NoContent
    else (if has_code (codes "304") status then NotModified declared
    else (if request.is_head then HeadOnly known
    else by_length request.version known))

abbrev pub layout_of : Request → List ℕ × List Field → Option Step → Layout
layout_of request start writer =
    layout_by request start.0 (declared_length start.1) (length_told request.is_head writer)

abbrev pub length_fields : Option ℕ → List Field
length_fields declared = map length_field (option_to_list declared)

-- the field that tells where the body ends (RFC 9112, sections 6.1 and 6.2)
abbrev pub framing_fields : Layout → List Field
framing_fields NoContent = []
framing_fields (NotModified declared) = length_fields declared
framing_fields (HeadOnly known) = length_fields known
framing_fields (Known n) = length_field n ∷ []
framing_fields Chunked = record { name = codes "Transfer-Encoding"; value = codes "chunked" } ∷ []
framing_fields UntilClose = []

-- chunk = chunk-size CRLF chunk-data CRLF (RFC 9112, section 7.1)
abbrev pub chunk : List ℕ → List ℕ
chunk bytes = digits 16 true (length bytes) ++ crlf ++ bytes ++ crlf

-- a last chunk and an empty trailer section, which tell that nothing was left out
abbrev pub last_chunk : Bool → List ℕ
last_chunk failed = if failed then [] else codes "0\r\n\r\n"

-- the bytes of the body as they are sent
abbrev pub body_bytes : Layout → List (List ℕ) → Bool → List ℕ
body_bytes NoContent pieces failed = []
body_bytes (NotModified declared) pieces failed = []
body_bytes (HeadOnly known) pieces failed = []
body_bytes (Known n) pieces failed = take n (concat pieces)
body_bytes Chunked pieces failed = flat_map chunk pieces ++ last_chunk failed
body_bytes UntilClose pieces failed = concat pieces

-- whether the length of a body isn't known before its end
abbrev pub is_unknown : Layout → Bool
is_unknown NoContent = false
is_unknown (NotModified declared) = false
is_unknown (HeadOnly known) = false
is_unknown (Known n) = false
is_unknown Chunked = true
is_unknown UntilClose = true

-- whether the layout lets the connection close: a length isn't known, or isn't reached
abbrev pub layout_closes : Layout → List (List ℕ) → Bool
layout_closes NoContent pieces = false
layout_closes (NotModified declared) pieces = false
layout_closes (HeadOnly known) pieces = false
layout_closes (Known n) pieces = nat_lt (length (concat pieces)) n
layout_closes Chunked pieces = true
layout_closes UntilClose pieces = true

-- what 1.0 says where the connection stays open (RFC 9112, section 9.3)
abbrev pub keep_alive_fields : Version → List Field
keep_alive_fields Old = record { name = codes "Connection"; value = codes "Keep-Alive" } ∷ []
keep_alive_fields New = []

abbrev pub connection_fields : Request → Layout → List Field
connection_fields request layout =
    if request.closes || is_unknown layout then close_field ∷ [] else keep_alive_fields
    request.version

abbrev pub has_named : List ℕ → List Field → Bool
has_named name fields = list_any (is_named name) fields

-- the server's own name, behind that of an application that names itself (RFC 9110, section 7.6.3)
abbrev pub origin_field : List ℕ → List Field → Field
origin_field ident fields =
    if has_named (codes "server") fields then record { name = codes "Via"; value = ident }
    else server_field ident

abbrev pub own_date_fields : ℕ → List Field → List Field
own_date_fields moment fields = if has_named (codes "date") fields then [] else date_fields moment

-- the fields that the server adds
abbrev pub own_fields : Request → List Field → Layout → List Field
own_fields request fields layout =
    framing_fields layout ++ connection_fields request layout
    ++ origin_field request.ident fields ∷ own_date_fields request.moment fields

-- those of the application as they are written, without a declared length, for which the framing
-- field stands
abbrev pub given_fields : List Field → List Field
given_fields fields =
    map written (filter (λ field. not (is_named (codes "content-length") field)) fields)

unfoldable pub response_head : Request → List ℕ × List Field → Layout → List ℕ
response_head request start layout =
    head_text request.version start.0
    (sorted_by_name (given_fields start.1 ++ own_fields request start.1 layout))

-- what an application that failed before its head is answered with
abbrev pub failure_text : Request → List ℕ
failure_text request =
    error_text Application request.version request.is_head request.ident request.moment

-- the answer with the head of this Start, or where there is no head to write
abbrev pub answer_from : Request → Option (List ℕ × List Field) → Option Step → List (List ℕ) →
    Bool → Answer
answer_from request None writer parts failed = record { text = failure_text request; closes = true }
answer_from request (Some start) writer parts failed =
    let layout = layout_of request start writer in
    record {
      text = response_head request start layout ++ body_bytes layout parts failed;
      closes = request.closes || failed || layout_closes layout parts;
    }

-- whether the head is written: with the first byte of the body, or at the end of a script that
-- didn't fail
abbrev pub writes_head : List Step → Bool → Bool
writes_head steps failed = is_some (head_writer steps) || not failed

abbrev pub answer_to : Request → List Step → Bool → Answer
answer_to request steps failed =
    answer_from request (if writes_head steps failed then start_in_force steps else None)
    (head_writer steps) (pieces steps) failed

unfoldable pub answer : Request → List Step → Answer
answer request script = answer_to request (sound_steps script) (has_failed script)
