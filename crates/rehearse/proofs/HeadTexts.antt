-- Where a head ends that is written as lines, and that these are its lines.
use Rattle.std.proofs.Common.{◌≡◌, ◌+◌, ◌-◌, ℕ, suc, Bool, true, false, List, [], ◌∷◌, ◌++◌}
use Rattle.std.proofs.Common.{length, take, Some, refl, ap, ◌∙◌, cond, arith}
use Rattle.std.proofs.Common.{append_assoc, length-append}
use Rattle.std.specs.Prelude.{option_map, not, ◌==◌, ◌&&◌}
use Rattle.std.specs.List.{list_all, onto_first}
use Rattle.std.specs.Str.{bytes_eq}
use Rattle.std.proofs.Math.Seq.{take-append_seam}
use Rattle.head_grammar.specs.Ends.{head_end}
use Rattle.head_grammar.specs.Lines.{head_lines, lines, skip_empty}

-- without CR
abbrev pub is_plain : List ℕ → Bool
is_plain line = list_all (λ b. not (b == 13)) line

-- some bytes without CR
abbrev pub is_line : List ℕ → Bool
is_line [] = false
is_line (b ∷ bs) = is_plain (b ∷ bs)

abbrev pub are_lines : List (List ℕ) → Bool
are_lines ls = list_all is_line ls

-- the lines, each with the CR LF that ends it
abbrev pub text : List (List ℕ) → List ℕ
text [] = []
text (line ∷ rest) = line ++ (13 ∷ 10 ∷ text rest)

pub both : (a b : Bool) → (a && b) ≡ true → (a ≡ true) × (b ≡ true)
both true b h = (refl, h)
both false b h = cc

pub not_true : (a : Bool) → not a ≡ true → a ≡ false
not_true true h = cc
not_true false h = refl

plain_line : (line : List ℕ) → is_line line ≡ true → is_plain line ≡ true
plain_line [] h = cc
plain_line (b ∷ bs) h = h

-- ---- where it ends

step : (b : ℕ) (bs : List ℕ) → (b == 13) ≡ false →
    head_end (b ∷ bs) ≡ option_map (λ n. suc n) (head_end bs)
unfolding head_end
step b bs other =
    ap (λ t. cond (t && bytes_eq (take 3 bs) (10 ∷ 13 ∷ 10 ∷ [])) (Some 4)
    (option_map (λ n. suc n) (head_end bs))) other

skip : (line rest : List ℕ) (n : ℕ) → is_plain line ≡ true → head_end rest ≡ Some n →
    head_end (line ++ rest) ≡ Some (length line + n)
skip [] rest n h e = e ∙ ap Some (omega arith)
skip (b ∷ bs) rest n h e =
    let parts = both (not (b == 13)) (is_plain bs) h in
    step b (bs ++ rest) (not_true (b == 13) parts.0)
    ∙ (ap (λ o. option_map (λ n. suc n) o) (skip bs rest n parts.1 e) ∙ ap Some (omega arith))

between : (c : ℕ) (rest : List ℕ) (n : ℕ) → (c == 13) ≡ false → head_end (c ∷ rest) ≡ Some n →
    head_end (13 ∷ 10 ∷ c ∷ rest) ≡ Some (2 + n)
unfolding head_end
between c rest n other e =
    ap (λ t. cond (t && bytes_eq (take 1 rest) (10 ∷ [])) (Some 4)
    (option_map (λ n. suc n) (head_end (10 ∷ c ∷ rest)))) other
    ∙ (ap (λ o. option_map (λ n. suc n) o) (step 10 (c ∷ rest) refl)
    ∙ (ap (λ o. option_map (λ n. suc n) (option_map (λ n. suc n) o)) e ∙ ap Some (omega arith)))

last : (body : List ℕ) → head_end (13 ∷ 10 ∷ 13 ∷ 10 ∷ body) ≡ Some 4
unfolding head_end
last body = refl

-- behind the empty line
pub text_end : (line : List ℕ) (rest : List (List ℕ)) (body : List ℕ) →
    are_lines (line ∷ rest) ≡ true →
    head_end (text (line ∷ rest) ++ (13 ∷ 10 ∷ body)) ≡ Some (length (text (line ∷ rest)) + 2)
text_end line [] body h =
    let parts = both (is_line line) true h in
    let count = length-append line (13 ∷ 10 ∷ []) in
    ap head_end (append_assoc line (13 ∷ 10 ∷ []) (13 ∷ 10 ∷ body))
    ∙ (skip line (13 ∷ 10 ∷ 13 ∷ 10 ∷ body) 4 (plain_line line parts.0) (last body)
    ∙ ap Some (omega (arith, count)))
text_end line ([] ∷ rest) body h =
    let parts = both (is_line line) (are_lines ([] ∷ rest)) h in cc
text_end line ((c ∷ cs) ∷ rest) body h =
    let parts = both (is_line line) (are_lines ((c ∷ cs) ∷ rest)) h in
    let next = both (is_line (c ∷ cs)) (are_lines rest) parts.1 in
    let first = both (not (c == 13)) (is_plain cs) next.0 in
    let behind : List ℕ = text ((c ∷ cs) ∷ rest) in
    let ih = text_end (c ∷ cs) rest body parts.1 in
    let count = length-append line (13 ∷ 10 ∷ behind) in
    ap head_end (append_assoc line (13 ∷ 10 ∷ behind) (13 ∷ 10 ∷ body))
    ∙ (skip line (13 ∷ 10 ∷ (behind ++ (13 ∷ 10 ∷ body))) (2 + (length behind + 2))
    (plain_line line parts.0)
    (between c (cs ++ (13 ∷ 10 ∷ text rest) ++ (13 ∷ 10 ∷ body)) (length behind + 2)
    (not_true (c == 13) first.0) ih)
    ∙ ap Some (omega (arith, count)))

-- ---- its lines

not_first : (b c : ℕ) (bs : List ℕ) → (b == 13) ≡ false →
    lines (b ∷ c ∷ bs) ≡ onto_first b (lines (c ∷ bs))
unfolding lines
not_first b c bs other =
    ap (λ t. cond (t && c == 10) ([] ∷ lines bs) (onto_first b (lines (c ∷ bs)))) other

at_end : (rest : List ℕ) → lines (13 ∷ 10 ∷ rest) ≡ [] ∷ lines rest
unfolding lines
at_end rest = refl

first_line : (line rest : List ℕ) → is_plain line ≡ true →
    lines (line ++ (13 ∷ 10 ∷ rest)) ≡ line ∷ lines rest
first_line [] rest h = at_end rest
first_line (b ∷ []) rest h =
    let parts = both (not (b == 13)) true h in
    not_first b 13 (10 ∷ rest) (not_true (b == 13) parts.0) ∙ ap (onto_first b) (at_end rest)
first_line (b ∷ c ∷ cs) rest h =
    let parts = both (not (b == 13)) (is_plain (c ∷ cs)) h in
    not_first b c (cs ++ (13 ∷ 10 ∷ rest)) (not_true (b == 13) parts.0)
    ∙ ap (onto_first b) (first_line (c ∷ cs) rest parts.1)

no_lines : lines [] ≡ []
unfolding lines
no_lines = refl

text_lines : (ls : List (List ℕ)) → are_lines ls ≡ true → lines (text ls) ≡ ls
text_lines [] h = no_lines
text_lines (line ∷ rest) h =
    let parts = both (is_line line) (are_lines rest) h in
    first_line line (text rest) (plain_line line parts.0)
    ∙ ap (λ ls. line ∷ ls) (text_lines rest parts.1)

none_empty : (line : List ℕ) (rest : List (List ℕ)) → is_line line ≡ true →
    skip_empty (line ∷ rest) ≡ line ∷ rest
none_empty [] rest h = cc
none_empty (b ∷ bs) rest h = refl

pub text_head_lines : (line : List ℕ) (rest : List (List ℕ)) → are_lines (line ∷ rest) ≡ true →
    head_lines (text (line ∷ rest) ++ (13 ∷ 10 ∷ [])) ≡ line ∷ rest
text_head_lines line rest h =
    let whole : List ℕ = text (line ∷ rest) in
    let parts = both (is_line line) (are_lines rest) h in
    let count = length-append whole (13 ∷ 10 ∷ []) in
    let short : length (whole ++ (13 ∷ 10 ∷ [])) - 2 ≡ length whole = omega (arith, count) in
    ap (λ n. skip_empty (lines (take n (whole ++ (13 ∷ 10 ∷ []))))) short
    ∙ (ap (λ bs. skip_empty (lines bs)) (take-append_seam whole (13 ∷ 10 ∷ []))
    ∙ (ap skip_empty (text_lines (line ∷ rest) h) ∙ none_empty line rest parts.0))
