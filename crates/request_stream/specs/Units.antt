-- What an input asks for (RFC 9112, sections 2.1, 6.3 and 9.3). An input is all bytes that came on
-- a connection, each with its moment.
use Rattle.std.specs.Prelude.{true, ◌-◌, ◌+◌, ℕ, zero, suc, Bool, false, List, [], ◌∷◌, ◌++◌}
use Rattle.std.specs.Prelude.{length, take, drop, map, Option, None, Some, if◌then◌else◌, nat_le}
use Rattle.std.specs.Prelude.{slice_index}
use Rattle.byte_tables.specs.declared.refusal.Refusal.{Refusal}
use Rattle.byte_tables.specs.declared.refusal.Refusal.TheVariants.{HeadTooLarge}
use Rattle.chunk_body.specs.Bodies.{Body, whole, wrong, partial, coded}
use Rattle.head_grammar.specs.Ends.{head_end}
use Rattle.head_grammar.specs.Verdict.{verdict, is_head}
use Rattle.head_grammar.specs.declared.types.Framing.{Framing}
use Rattle.head_grammar.specs.declared.types.Framing.TheVariants.{Empty, Fixed, Chunked}
use Rattle.head_grammar.specs.Heads.{Head}
use Rattle.head_grammar.specs.declared.types.Parsed.{Parsed}
use Rattle.head_grammar.specs.declared.types.Parsed.TheVariants.{Blank, Good, Bad}
use Rattle.head_grammar.specs.declared.types.Version.{Version}
use Rattle.head_grammar.specs.declared.types.Version.TheVariants.{Old}
pub use Rattle.outside.specs.Link.{stamped}
use Rattle.request_stream.specs.declared.types.Limits.{Limits}
use Rattle.request_stream.specs.declared.types.Refused.{Refused}

abbrev pub bytes_of : List (ℕ × ℕ) → List ℕ
bytes_of x = map (λ p. p.1) x

-- the moment of byte number i, counted from 0
abbrev pub when : List (ℕ × ℕ) → ℕ → ℕ
when x i = slice_index (map (λ p. p.0) x) i

-- One thing that is asked for.
pub data Asked : Type 0 where
  -- 100 Continue
  continued : Asked
  refused : (refused : Refused) → Asked
  -- a whole request, with the moment of its last byte
  request : (head : Head) → (body : List ℕ) → (moment : ℕ) → Asked

-- whether nothing is asked for behind it (section 9.3)
abbrev pub closing : Asked → Bool
closing continued = false
closing (refused r) = true
closing (request head body moment) = head.closes

-- The limits of heads and of bodies, each where it is asked for.

-- what a whole head says
abbrev pub verdict_by : Limits → List ℕ → Parsed
verdict_by limits head = verdict limits.max_body head

-- the body in the chunked coding at the front of some bytes
abbrev pub coded_by : Limits → List ℕ → Body
coded_by limits bytes = coded limits.max_body limits.max_head bytes

-- the body of a head at the front of the bytes behind it (section 6.3)
unfoldable pub body_of : Limits → Framing → List ℕ → Body
body_of limits Empty bytes = whole 0 []
body_of limits (Fixed n) bytes = if nat_le n (length bytes) then whole n (take n bytes)
    else partial bytes
body_of limits Chunked bytes = coded_by limits bytes

-- What stands at the front of an input.
pub data Front : Type 0 where
  -- these units, and nothing more before more bytes come
  waits : (units : List Asked) → Front
  -- these units, and nothing follows them, whatever comes
  ends : (units : List Asked) → Front
  -- these units, which take so many bytes; the bytes behind them are an input of their own
  goes : (units : List Asked) → (taken : ℕ) → Front

abbrev pub refusing : Refusal → Version → Bool → ℕ → Asked
refusing refusal version bodyless moment = refused (record {
  refusal = refusal;
  version = version;
  bodyless = bodyless;
  moment = moment;
})

-- 100 Continue, where the head expects it (RFC 9110, section 10.1.1)
abbrev pub welcome : Head → List Asked
welcome head = if head.expects then continued ∷ [] else []

-- a body that is refused: a response to HEAD has no body (RFC 9110, section 9.3.2)
abbrev pub refused_body : Head → Refusal → ℕ → Asked
refused_body head refusal moment = refusing refusal head.version (is_head head.method) moment

-- a head without an end among its bytes, of which the last is number max_head
abbrev pub too_large : Limits → ℕ → Asked
too_large limits moment = refusing (HeadTooLarge limits.max_head) Old false moment

-- behind a head of n bytes, by the body that is found there
abbrev pub front_by_body : List (ℕ × ℕ) → ℕ → Head → Body → Front
front_by_body x n head (whole k content) =
    if head.closes then ends (welcome head ++ request head content (when x (n + k - 1)) ∷ [])
    else goes (welcome head ++ request head content (when x (n + k - 1)) ∷ []) (n + k)
front_by_body x n head (wrong place refusal) =
    ends (welcome head ++ refused_body head refusal (when x (n + place)) ∷ [])
front_by_body x n head (partial content) = waits (welcome head)

-- at a head of n bytes, by its verdict
abbrev pub front_by_head : Limits → List (ℕ × ℕ) → ℕ → Parsed → Front
front_by_head limits x n Blank = goes [] n
front_by_head limits x n (Bad refusal version bodyless) =
    ends (refusing refusal version bodyless (when x (n - 1)) ∷ [])
front_by_head limits x n (Good head) =
    front_by_body x n head (body_of limits head.framing (drop n (bytes_of x)))

-- by where the first head ends
abbrev pub front_by_end : Limits → List (ℕ × ℕ) → Option ℕ → Front
front_by_end limits x (Some n) = front_by_head limits x n (verdict_by limits (take n (bytes_of x)))
front_by_end limits x None =
    if nat_le limits.max_head (length x)
    then ends (too_large limits (when x (limits.max_head - 1)) ∷ []) else waits []

-- a head has fewer than max_head bytes
unfoldable pub front : Limits → List (ℕ × ℕ) → Front
front limits x = front_by_end limits x (head_end (take (limits.max_head - 1) (bytes_of x)))

-- the units of a front, where rest gives those of the bytes behind it
abbrev pub follow : (List (ℕ × ℕ) → List Asked) → List (ℕ × ℕ) → Front → List Asked
follow rest x (waits us) = us
follow rest x (ends us) = us
follow rest x (goes us n) = us ++ rest (drop n x)

-- the units of an input of at most so many bytes: a front that goes on takes at least one
unfoldable pub units_within : ℕ → Limits → List (ℕ × ℕ) → List Asked
units_within zero limits x = []
units_within (suc most) limits x = follow (units_within most limits) x (front limits x)

-- What an input asks for, in order: the units of its front, and those of the bytes behind it. The
-- count alone makes the definition end; the clause `follow` of `units_follow` is free of it.
unfoldable pub units : Limits → List (ℕ × ℕ) → List Asked
units limits x = units_within (length x) limits x
