-- A rehearsal's request as lines, an empty line and a body.
use Rattle.std.proofs.Common.{◌≡◌, ◌<◌, ◌≤◌, ◌+◌, ◌^◌, ℕ, Bool, true, false, List, [], ◌∷◌, ◌++◌}
use Rattle.std.proofs.Common.{refl, ap, sym, ◌∙◌, cond, arith, append_assoc}
use Rattle.std.specs.Prelude.{not, ◌==◌, ◌&&◌, codes, decimal}
use Rattle.std.specs.Str.Parse.{AllDigits}
use Rattle.std.proofs.lemmas.Fmt.{decimal_is_IsNumeral}
use Rattle.std.proofs.lemmas.List.Folds.{list_all-append}
use Rattle.std.proofs.lemmas.Str.Parse.{digit_from_value}
use Rattle.rehearsal.specs.Requests.{body_length, body_of, closing_line, field_lines, head_of}
use Rattle.rehearsal.specs.Requests.{request_count, request_line, request_of, target}
use Rattle.rehearse.proofs.HeadFields.{close_lines, length_line, lines_of}
use Rattle.rehearse.proofs.HeadTexts.{are_lines, is_line, is_plain, text}

-- ---- lines without CR

digit_plain : (c : ℕ) → (48 ≤ c) × (c ≤ 57) → not (c == 13) ≡ true
digit_plain c h = let l = h.0 in grind (arith, l)

and_so : (a b : Bool) → a ≡ true → b ≡ true → (a && b) ≡ true
and_so true b h k = k
and_so false b h k = cc

digits_plain : (ds : List ℕ) → AllDigits 10 ds → is_plain ds ≡ true
digits_plain [] all = refl
digits_plain (c ∷ cs) all =
    and_so (not (c == 13)) (is_plain cs) (digit_plain c (digit_from_value c all.0))
    (digits_plain cs all.1)

number_plain : (n : ℕ) → n < 2 ^ 64 → is_plain (decimal n) ≡ true
number_plain n h = digits_plain (decimal n) (decimal_is_IsNumeral n h).0.1

join_plain : (xs ys : List ℕ) → is_plain xs ≡ true → is_plain ys ≡ true → is_plain (xs ++ ys) ≡ true
join_plain xs ys h k = list_all-append (λ b. not (b == 13)) xs ys ∙ and_so (is_plain xs)
    (is_plain ys) h k

-- ---- its lines

-- the request line without the CR LF at its end
abbrev pub first_line : ℕ → ℕ → List ℕ
first_line connection number = codes "POST " ++ (target connection number ++ codes " HTTP/1.1")

-- the request line and the field lines
abbrev pub request_lines : ℕ → ℕ → Bool → List (List ℕ)
request_lines connection number closes =
    first_line connection number ∷ lines_of closes (decimal (body_length connection number))

first_plain : (connection number : ℕ) → connection < 2 ^ 64 → number < 2 ^ 64 →
    is_line (first_line connection number) ≡ true
first_plain connection number h k =
    join_plain (decimal connection ++ (codes "/r" ++ decimal number)) (codes " HTTP/1.1")
    (join_plain (decimal connection) (codes "/r" ++ decimal number) (number_plain connection h)
    (number_plain number k))
    refl

close_plain : (closes : Bool) → are_lines (close_lines closes) ≡ true
close_plain false = refl
close_plain true = refl

pub lines_plain : (connection number : ℕ) (closes : Bool) → connection < 2 ^ 64 → number < 2 ^ 64 →
    body_length connection number < 2 ^ 64 → are_lines (request_lines connection number closes) ≡
    true
lines_plain connection number closes h k l =
    let size : List ℕ = decimal (body_length connection number) in
    and_so (is_line (first_line connection number)) (are_lines (lines_of closes size))
    (first_plain connection number h k)
    (and_so (is_line (length_line size)) (are_lines (close_lines closes))
    (number_plain (body_length connection number) l) (close_plain closes))

-- ---- its text

glue : (l c f b r : List ℕ) → (((l ++ c) ++ (f ++ c)) ++ b) ++ r ≡ (l ++ (c ++ f)) ++
    (c ++ (b ++ r))
glue l c f b r =
    append_assoc ((l ++ c) ++ (f ++ c)) b r
    ∙ (append_assoc (l ++ c) (f ++ c) (b ++ r)
    ∙ (append_assoc l c ((f ++ c) ++ (b ++ r))
    ∙ (ap (λ xs. l ++ (c ++ xs)) (append_assoc f c (b ++ r))
    ∙ (ap (λ xs. l ++ xs) (sym (append_assoc c f (c ++ (b ++ r))))
    ∙ sym (append_assoc l (c ++ f) (c ++ (b ++ r)))))))

closing_text : (connection number : ℕ) (closes : Bool) →
    (number + 1 == request_count connection) ≡ closes →
    closing_line connection number ≡ text (close_lines closes)
unfolding closing_line
closing_text connection number closes is =
    ap (λ t. cond t (codes "Connection: close\r\n") []) is ∙ by closes
  where
    by : (t : Bool) → cond t (codes "Connection: close\r\n") [] ≡ text (close_lines t)
    by true = refl
    by false = refl

first_text : (connection number : ℕ) →
    request_line connection number ≡ first_line connection number ++ (13 ∷ 10 ∷ [])
unfolding request_line
first_text connection number =
    ap (λ xs. codes "POST " ++ xs) (sym (append_assoc (target connection number) (codes " HTTP/1.1")
    (13 ∷ 10 ∷ [])))

fields_text : (connection number : ℕ) (closes : Bool) →
    (number + 1 == request_count connection) ≡ closes →
    field_lines connection number ≡ text (lines_of closes (decimal (body_length connection number)))
unfolding field_lines
fields_text connection number closes is =
    let size : List ℕ = decimal (body_length connection number) in
    ap (λ xs. codes "Host: rehearsal\r\n" ++ (codes "Content-Length: " ++
    ((size ++ codes "\r\n") ++ xs)))
    (closing_text connection number closes is)
    ∙ ap (λ xs. codes "Host: rehearsal\r\n" ++ (codes "Content-Length: " ++ xs))
    (append_assoc size (13 ∷ 10 ∷ []) (text (close_lines closes)))

pub request_text : (connection number : ℕ) (closes : Bool) (rest : List ℕ) →
    (number + 1 == request_count connection) ≡ closes →
    request_of connection number ++ rest
    ≡ text (request_lines connection number closes) ++
    (13 ∷ 10 ∷ (body_of connection number ++ rest))
unfolding request_of head_of
request_text connection number closes rest is =
    let crlf : List ℕ = 13 ∷ 10 ∷ [] in
    let fields : List ℕ = text (lines_of closes (decimal (body_length connection number))) in
    ap (λ xs. ((xs ++ (field_lines connection number ++ crlf)) ++ body_of connection number) ++
    rest)
    (first_text connection number)
    ∙ (ap (λ xs. (((first_line connection number ++ crlf) ++ (xs ++ crlf)) ++ body_of connection
    number) ++ rest)
    (fields_text connection number closes is)
    ∙ glue (first_line connection number) crlf fields (body_of connection number) rest)
