-- What the head of a rehearsal's request says: its framing, and that the last one closes.
use Rattle.std.proofs.Common.{◌≡◌, ◌<◌, ◌^◌, ℕ, Bool, true, false, List, [], ◌∷◌, ◌++◌}
use Rattle.std.proofs.Common.{length, None, Some, Ok, Err, refl, ap, sym, subst, ◌∙◌, cond}
use Rattle.std.specs.Prelude.{Result, not, ◌||◌, nat_le, codes, decimal}
use Rattle.std.specs.Str.Parse.{digits_value}
use Rattle.std.proofs.lemmas.Fmt.{decimal_is_IsNumeral}
use Rattle.byte_tables.specs.Numbers.{is_number}
use Rattle.byte_tables.specs.declared.refusal.Refusal.{Refusal}
use Rattle.byte_tables.specs.declared.refusal.Refusal.TheVariants as refusal
use Rattle.head_grammar.specs.FieldLines.{field_value, fields_of}
use Rattle.head_grammar.specs.Framings.{closes_by, closes_of, fixed, framing_by, framing_of}
use Rattle.head_grammar.specs.Framings.{has_both}
use Rattle.head_grammar.specs.RequestLines.{request_line}
use Rattle.head_grammar.specs.Verdict.{by_fields, by_framing, by_line, verdict, verdict_of}
use Rattle.head_grammar.specs.declared.request_line.RequestLine.{RequestLine}
use Rattle.head_grammar.specs.declared.types.Field.{Field}
use Rattle.head_grammar.specs.declared.types.Framing.{Framing}
use Rattle.head_grammar.specs.declared.types.Parsed.{Parsed}
use Rattle.head_grammar.specs.declared.types.Parsed.TheVariants.{Blank, Good, Bad}
use Rattle.head_grammar.specs.declared.types.Version.{Version}
use Rattle.head_grammar.specs.declared.types.Version.TheVariants.{Old, New}
use Rattle.rehearse.proofs.HeadFields.{FieldsAre, fields_are, lines_of}
use Rattle.rehearse.proofs.HeadTexts.{are_lines, text, text_head_lines}

-- a head with a body of so many bytes, which closes where it is the last one; or it is refused
abbrev pub Says : Bool → ℕ → Parsed → Type 0
Says closes n Blank = ⊥
Says closes n (Bad refusal version bodyless) = Unit {0}
Says closes n (Good head) = (head.framing ≡ fixed n) × (closes ≡ true → head.closes ≡ true)

abbrev pub Frames : ℕ → Result Framing Refusal → Type 0
Frames n (Err refusal) = Unit {0}
Frames n (Ok framing) = framing ≡ fixed n

by_size : (t u : Bool) (n m : ℕ) (r : Refusal) → m ≡ n →
    Frames n (cond t (Err refusal.Length) (cond u (Err r) (Ok (fixed m))))
by_size true u n m r same = tt
by_size false true n m r same = tt
by_size false false n m r same = ap fixed same

framed : (max_body n : ℕ) (number : List ℕ) (version : Version) (fields : List Field) →
    digits_value 10 number ≡ n →
    field_value (codes "transfer-encoding") fields ≡ None →
    field_value (codes "content-length") fields ≡ Some number →
    Frames n (framing_of version fields max_body)
unfolding framing_of
framed max_body n number version fields same none some =
    subst (λ o. Frames n (framing_by version max_body o
    (field_value (codes "content-length") fields))) (sym none)
    (subst (λ o. Frames n (framing_by version max_body None o)) (sym some)
    (by_size (not (is_number number)) (nat_le max_body (digits_value 10 number)) n
    (digits_value 10 number) (refusal.BodyTooLarge max_body) same))

closes_so : (version : Version) → closes_by version (Some (codes "close")) ≡ true
closes_so Old = refl
closes_so New = refl

closed : (version : Version) (fields : List Field) →
    field_value (codes "connection") fields ≡ Some (codes "close") → closes_of version fields ≡ true
unfolding closes_of
closed version fields some =
    ap (λ o. closes_by version o || has_both fields) some ∙ ap (λ t. t || has_both fields)
    (closes_so version)

by_frame : (closes : Bool) (n : ℕ) (line : RequestLine) (fields : List Field) (length : ℕ)
    (r : Result Framing Refusal) →
    Frames n r → (closes ≡ true → closes_of line.version fields ≡ true) →
    Says closes n (by_framing line fields length r)
by_frame closes n line fields length (Err refusal) f c = tt
by_frame closes n line fields length (Ok framing) f c = (f, c)

by_field : (closes : Bool) (n max_body : ℕ) (number : List ℕ) (line : RequestLine) (length : ℕ)
    (r : Result (List Field) Refusal) →
    digits_value 10 number ≡ n → FieldsAre closes number r →
    Says closes n (by_fields max_body line length r)
by_field closes n max_body number line length (Err refusal) same f = tt
by_field closes n max_body number line length (Ok fields) same f =
    by_frame closes n line fields length (framing_of line.version fields max_body)
    (framed max_body n number line.version fields same f.0 f.1)
    (λ h. closed line.version fields (f.2 h))

by_request : (closes : Bool) (n max_body length : ℕ) (rest : List (List ℕ))
    (r : Result RequestLine Refusal) →
    n < 2 ^ 64 → rest ≡ lines_of closes (decimal n) → Says closes n (by_line max_body rest length r)
by_request closes n max_body length rest (Err refusal) small is = tt
by_request closes n max_body length rest (Ok line) small is =
    by_field closes n max_body (decimal n) line length (fields_of rest)
    (decimal_is_IsNumeral n small).1
    (subst (λ ls. FieldsAre closes (decimal n) (fields_of ls)) (sym is) (fields_are closes n small))

-- the verdict on a head of these lines
pub head_says : (closes : Bool) (n max_body : ℕ) (line : List ℕ) → n < 2 ^ 64 →
    are_lines (line ∷ lines_of closes (decimal n)) ≡ true →
    Says closes n (verdict max_body (text (line ∷ lines_of closes (decimal n)) ++ (13 ∷ 10 ∷ [])))
unfolding verdict
head_says closes n max_body line small plain =
    let head : List ℕ = text (line ∷ lines_of closes (decimal n)) ++ (13 ∷ 10 ∷ []) in
    subst (λ ls. Says closes n (verdict_of max_body ls (length head)))
    (sym (text_head_lines line (lines_of closes (decimal n)) plain))
    (by_request closes n max_body (length head) (lines_of closes (decimal n)) (request_line line)
    small refl)
