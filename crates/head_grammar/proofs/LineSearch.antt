-- The first place of CR LF is where the first line ends.
use Rattle.std.proofs.Common.{◌≡◌, ◌<◌, ◌+◌, ◌-◌, ℕ, zero, suc, Bool, true, false, List, [], ◌∷◌}
use Rattle.std.proofs.Common.{length, take, drop, None, Some, refl, ap, sym, subst, ◌∙◌, cond}
use Rattle.std.proofs.Common.{arith}
use Rattle.std.specs.Prelude.{Option, ◌&&◌, ◌==◌}
use Rattle.std.specs.Bool.{Decides}
use Rattle.std.specs.List.{onto_first}
use Rattle.std.proofs.lemmas.Bool.Decides.{nat_tests}
use Rattle.memchr.specs.Find.{OccursAt, FindsNeedle}
use Rattle.memchr.proofs.lemmas.MatchLemmas.{OccursAt-part, OccursAt-from_part}
use Rattle.head_grammar.specs.Lines.{line_mark, lines, skip_empty}
use Rattle.byte_tables.proofs.Cuts.{rest_is}
use Rattle.head_grammar.proofs.Occurs.{finds_none, finds_some}

-- the lines of a text whose first line ends at a place, or nowhere
abbrev LinesBy : List ℕ → Option ℕ → Type 0
LinesBy text None = lines text ≡ text ∷ []
LinesBy text (Some k) = lines text ≡ take k text ∷ lines (drop (k + 2) text)

-- the first two bytes are CR LF
leads : (b c : ℕ) → Decides (b == 13 && c == 10) ((b ≡ 13) × (c ≡ 10))
leads b c = grind (arith, nat_tests)

at_front : (b c : ℕ) (bs : List ℕ) → (b ≡ 13) × (c ≡ 10) → OccursAt (b ∷ c ∷ bs) line_mark 0
at_front b c bs same = OccursAt-from_part (b ∷ c ∷ bs) line_mark 0 (omega arith) (let r = same.0 in
    let f = same.1 in cc)

lead_by : (b c : ℕ) (bs : List ℕ) → OccursAt (b ∷ c ∷ bs) line_mark 0 → (b ≡ 13) × (c ≡ 10)
lead_by b c bs h = let e : b ∷ c ∷ [] ≡ line_mark = OccursAt-part (b ∷ c ∷ bs) line_mark 0 h in
    (cc, cc)

step : (t : Bool) (b c : ℕ) (bs : List ℕ) (r : Option ℕ) → Decides t ((b ≡ 13) × (c ≡ 10)) →
    FindsNeedle (b ∷ c ∷ bs) line_mark 0 r →
    ((q : Option ℕ) → FindsNeedle (c ∷ bs) line_mark 0 q → LinesBy (c ∷ bs) q) →
    lines (b ∷ c ∷ bs) ≡ cond t ([] ∷ lines bs) (onto_first b (lines (c ∷ bs))) →
    LinesBy (b ∷ c ∷ bs) r
step true b c bs None d h ih e = absurd (h 0 (omega arith) (omega arith)
    (at_front b c bs (d.0 refl)))
step true b c bs (Some zero) d h ih e = e
step true b c bs (Some (suc j)) d h ih e = absurd (h.0.before 0 (omega arith) (omega arith)
    (at_front b c bs (d.0 refl)))
step false b c bs None d h ih e = e ∙ ap (onto_first b)
    (ih None (finds_none b (c ∷ bs) line_mark h))
step false b c bs (Some zero) d h ih e = let wrong : false ≡ true = d.1 (lead_by b c bs h.1) in cc
step false b c bs (Some (suc j)) d h ih e =
    let same : suc (j + 2) ≡ suc j + 2 = omega arith in
    e ∙ (ap (onto_first b) (ih (Some j) (finds_some b (c ∷ bs) line_mark j h))
    ∙ ap (λ n. (b ∷ take j (c ∷ bs)) ∷ lines (drop n (b ∷ c ∷ bs))) same)

lines_by : (text : List ℕ) (r : Option ℕ) → 0 < length text → FindsNeedle text line_mark 0 r →
    LinesBy text r
unfolding lines
lines_by [] r some h = absurd (omega arith)
lines_by (b ∷ []) None some h = refl
lines_by (b ∷ []) (Some k) some h = let f = h.1.fits in absurd (omega arith)
lines_by (b ∷ c ∷ bs) r some h = step (b == 13 && c == 10) b c bs r (leads b c) h
    (λ q found. lines_by (c ∷ bs) q (omega arith) found) refl

lines-nil : lines [] ≡ []
unfolding lines
lines-nil = refl

-- a text of some bytes in which no line ends is one line
pub lines_whole : (text : List ℕ) (r : Option ℕ) → 0 < length text →
    FindsNeedle text (13 ∷ 10 ∷ []) 0 r → r ≡ None → lines text ≡ text ∷ lines []
lines_whole text r some h e = lines_by text None some
    (subst (λ q. FindsNeedle text line_mark 0 q) e h) ∙ ap (λ rest. text ∷ rest) (sym lines-nil)

-- the first line, and the lines of the slice behind its CR LF
pub lines_cut : (text : List ℕ) (r : Option ℕ) (at : ℕ) → 0 < length text →
    FindsNeedle text (13 ∷ 10 ∷ []) 0 r → r ≡ Some at →
    lines text ≡ take at text ∷ lines (take (length text - (at + 2)) (drop (at + 2) text))
lines_cut text r at some h e =
    lines_by text (Some at) some (subst (λ q. FindsNeedle text line_mark 0 q) e h) ∙
    ap (λ rest. take at text ∷ lines rest) (sym (rest_is text (at + 2)))

-- a text of no bytes has no line
pub lines_none : (text : List ℕ) → length text ≡ 0 → lines text ≡ []
lines_none [] e = lines-nil
lines_none (b ∷ bs) e = absurd (omega arith)

-- a line with a byte is not skipped
pub skip_none : (all : List (List ℕ)) (line : List ℕ) (rest : List (List ℕ)) → all ≡ line ∷ rest →
    0 < length line → skip_empty all ≡ line ∷ rest
skip_none all [] rest e some = absurd (omega arith)
skip_none all (b ∷ bs) rest e some = ap skip_empty e
