-- The text of an answer of the server itself, from the parts that were added one behind the other.
use Rattle.std.proofs.Common.{◌≡◌, ◌∙◌, ℕ, Bool, List, [], ◌++◌, length, codes, append_assoc, refl}
use Rattle.std.specs.Prelude.{decimal, if◌then◌else◌}
use Rattle.std.specs.List.{flat_map}
use Rattle.head_grammar.specs.declared.types.Version.{Version}
use Rattle.task_core.specs.Errors.{cause_code, cause_text, error_body, error_fields, error_text}
use Rattle.task_core.specs.Errors.{reason_of}
use Rattle.task_core.specs.ResponseHead.{crlf, field_line, status_line}
use Rattle.task_core.specs.declared.errors.Cause.{Cause}

joined : (t0 status fields end body t1 t2 t3 : List ℕ) → t0 ≡ [] → t1 ≡ t0 ++ status →
    t2 ≡ t1 ++ (fields ++ end) → t3 ≡ t2 ++ body → t3 ≡ status ++ fields ++ end ++ body
joined t0 status fields end body t1 t2 t3 p0 p1 p2 p3 = rw (p3, p2, p1, p0) (simp append_assoc)

pub error_text-parts : (why : Cause) (version : Version) (bodyless : Bool) (ident : List ℕ)
    (moment code size : ℕ) (reason body sent t0 t1 t2 t3 : List ℕ) →
    code ≡ cause_code why → reason ≡ reason_of code →
    body ≡ error_body ident reason (cause_text why) → size ≡ length body →
    sent ≡ (if bodyless then [] else body) → t0 ≡ [] →
    t1 ≡ t0 ++ status_line version (decimal code ++ codes " " ++ reason) →
    t2 ≡ t1 ++ (flat_map field_line (error_fields ident size moment) ++ crlf) → t3 ≡ t2 ++ sent →
    t3 ≡ error_text why version bodyless ident moment
unfolding error_text
error_text-parts why version bodyless ident moment code size reason body sent t0 t1 t2 t3 c r b s w
    p0 p1 p2 p3 =
    joined t0 (status_line version (decimal code ++ codes " " ++ reason))
    (flat_map field_line (error_fields ident size moment)) crlf sent t1 t2 t3 p0 p1 p2 p3
    ∙ rw (w, s, b, r, c) refl
