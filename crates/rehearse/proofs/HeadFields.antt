-- What the field lines of a rehearsal's request say.
use Rattle.std.proofs.Common.{◌≡◌, ◌<◌, ◌≤◌, ◌+◌, ◌-◌, ◌^◌, ℕ, Bool, true, false, List, [], ◌∷◌}
use Rattle.std.proofs.Common.{◌++◌}
use Rattle.std.proofs.Common.{length, take, drop, get_or, None, Some, Ok, Err, refl, ap, sym, subst}
use Rattle.std.proofs.Common.{◌∙◌}
use Rattle.std.proofs.Common.{cond, arith, append-nil, take_all}
use Rattle.std.specs.Prelude.{Result, not, codes, decimal}
use Rattle.std.specs.List.{list_all, prefix_len, suffix_len}
use Rattle.std.specs.Str.Parse.{AllDigits}
use Rattle.std.proofs.lemmas.Bool.{lt-ltb}
use Rattle.std.proofs.lemmas.Fmt.{decimal_is_IsNumeral}
use Rattle.std.proofs.lemmas.List.Sums.{prefix_len-drop_no, suffix_len-take_no}
use Rattle.std.proofs.lemmas.Str.Parse.{digit_at}
use Rattle.byte_tables.specs.Classes.{is_field, is_white_space}
use Rattle.byte_tables.specs.declared.refusal.Refusal.{Refusal}
use Rattle.byte_tables.specs.declared.refusal.Refusal.TheVariants as refusal
use Rattle.head_grammar.specs.Classes.{trimmed, without_space_behind}
use Rattle.head_grammar.specs.Classes.{without_space_in_front}
use Rattle.head_grammar.specs.FieldLines.{cut_at, field_line, field_lines, field_value, fields_of}
use Rattle.head_grammar.specs.FieldLines.{kept_fields, combined_of, kept_of, onto_fields, unfolded}
use Rattle.head_grammar.specs.declared.types.Field.{Field}

-- ---- a number between white space

digit_no_space : (c : ℕ) → (48 ≤ c) × (c ≤ 57) → is_white_space c ≡ false
digit_no_space c h = let l = h.0 in grind (arith, l)

no_space_at : (ds : List ℕ) (i : ℕ) → AllDigits 10 ds → i < length ds →
    is_white_space (get_or ds i 0) ≡ false
no_space_at ds i all h = digit_no_space (get_or ds i 0) (digit_at ds i all h)

none_in_front : (ds : List ℕ) → AllDigits 10 ds → 0 < length ds → prefix_len is_white_space ds ≡ 0
none_in_front ds all some = prefix_len-drop_no is_white_space ds 0 0 some
    (no_space_at ds 0 all some)

none_behind : (ds : List ℕ) → AllDigits 10 ds → 0 < length ds → suffix_len is_white_space ds ≡ 0
none_behind ds all some =
    let at : is_white_space (get_or ds (length ds - 1) 0) ≡ false =
    no_space_at ds (length ds - 1) all (omega arith) in
    subst (λ xs. suffix_len is_white_space xs ≡ 0) (take_all (length ds) ds (omega arith))
    (suffix_len-take_no is_white_space ds (length ds) 0 some (omega arith) at)

trimmed_number : (ds : List ℕ) → AllDigits 10 ds → 0 < length ds → trimmed (32 ∷ ds) ≡ ds
trimmed_number ds all some =
    let front : without_space_in_front (32 ∷ ds) ≡ ds =
    ap (λ n. drop (1 + n) (32 ∷ ds)) (none_in_front ds all some) in
    ap without_space_behind front
    ∙ (ap (λ n. take (length ds - n) ds) (none_behind ds all some)
    ∙ take_all (length ds - 0) ds (omega arith))

-- ---- the lines

abbrev pub host_line : List ℕ
host_line = codes "Host: rehearsal"

abbrev pub length_line : List ℕ → List ℕ
length_line number = codes "Content-Length: " ++ number

abbrev pub close_lines : Bool → List (List ℕ)
close_lines false = []
close_lines true = codes "Connection: close" ∷ []

abbrev pub lines_of : Bool → List ℕ → List (List ℕ)
lines_of closes number = host_line ∷ length_line number ∷ close_lines closes

abbrev host : Field
host = record { name = codes "host"; value = codes "rehearsal" }

abbrev size : List ℕ → Field
size number = record { name = codes "content-length"; value = number }

abbrev close_fields : Bool → List Field
close_fields false = []
close_fields true = record { name = codes "connection"; value = codes "close" } ∷ []

size_line : (number : List ℕ) → trimmed (32 ∷ number) ≡ number →
    field_line (length_line number) ≡ cond (not (list_all is_field (32 ∷ number)))
    (Err refusal.FieldValue) (Ok (size number))
size_line number whole =
    ap (λ t. cut_at (length_line number) (cond t (Some 14) None))
    (lt-ltb 14 (length (length_line number)) (omega arith))
    ∙ ap (λ v. cond (not (list_all is_field (32 ∷ number))) (Err refusal.FieldValue) (Ok (size v)))
    whole

close_lines_say : (closes : Bool) → field_lines (close_lines closes) ≡ Ok (close_fields closes)
close_lines_say false = refl
close_lines_say true = refl

host_line_says : field_line host_line ≡ Ok host
host_line_says = refl

unfolded_same : (closes : Bool) (number : List ℕ) →
    unfolded (lines_of closes number) ≡ lines_of closes number
unfolding unfolded
unfolded_same false number = refl
unfolded_same true number = refl

-- what the fields are, unless they are refused
abbrev pub FieldsAre : Bool → List ℕ → Result (List Field) Refusal → Type 0
FieldsAre closes number (Err refusal) = Unit {0}
FieldsAre closes number (Ok fields) = (field_value (codes "transfer-encoding") fields ≡ None)
    × (field_value (codes "content-length") fields ≡ Some number)
    × (closes ≡ true → field_value (codes "connection") fields ≡ Some (codes "close"))

combined_say : (closes t : Bool) (number : List ℕ) →
    FieldsAre closes number (combined_of (kept_of (onto_fields (Ok host)
    (onto_fields (cond t (Err refusal.FieldValue) (Ok (size number)))
    (Ok (close_fields closes))))))
combined_say closes true number = tt
combined_say false false number = (refl, ap Some (append-nil number), λ h. cc)
combined_say true false number = (refl, ap Some (append-nil number), λ h. refl)

lines_say : (closes : Bool) (number : List ℕ) → trimmed (32 ∷ number) ≡ number →
    FieldsAre closes number (combined_of (kept_of (field_lines (lines_of closes number))))
lines_say closes number whole =
    subst (λ r. FieldsAre closes number (combined_of
    (kept_of (onto_fields (field_line host_line)
    (onto_fields r (field_lines (close_lines closes)))))))
    (sym (size_line number whole))
    (subst (λ r. FieldsAre closes number (combined_of
    (kept_of (onto_fields r (onto_fields (cond (not (list_all is_field (32 ∷ number)))
    (Err refusal.FieldValue) (Ok (size number))) (field_lines (close_lines closes)))))))
    (sym host_line_says)
    (subst (λ r. FieldsAre closes number (combined_of
    (kept_of (onto_fields (Ok host) (onto_fields
    (cond (not (list_all is_field (32 ∷ number))) (Err refusal.FieldValue) (Ok (size number)))
    r)))))
    (sym (close_lines_say closes))
    (combined_say closes (not (list_all is_field (32 ∷ number))) number)))

pub fields_are : (closes : Bool) (n : ℕ) → n < 2 ^ 64 →
    FieldsAre closes (decimal n) (fields_of (lines_of closes (decimal n)))
unfolding fields_of kept_fields
fields_are closes n h =
    let numeral = (decimal_is_IsNumeral n h).0 in
    subst (λ ls. FieldsAre closes (decimal n) (combined_of (kept_of (field_lines ls))))
    (sym (unfolded_same closes (decimal n)))
    (lines_say closes (decimal n) (trimmed_number (decimal n) numeral.1 numeral.0))
