-- The first place of CR LF CR LF is where the first head ends.
use Rattle.std.proofs.Common.{◌≡◌, ◌≤◌, ◌+◌, ◌-◌, ℕ, zero, suc, Bool, true, false, List, [], ◌∷◌}
use Rattle.std.proofs.Common.{length, take, drop, None, Some, refl, ap, sym, subst, ◌∙◌, cond}
use Rattle.std.proofs.Common.{arith, inl, inr}
use Rattle.std.specs.Prelude.{Option, option_map}
use Rattle.std.specs.Bool.{Decides}
use Rattle.std.specs.Str.{bytes_eq}
use Rattle.std.proofs.lemmas.Slice.Eq.{bytes_eq-Decides}
use Rattle.std.proofs.lemmas.List.{length-take, length-drop}
use Rattle.std.proofs.lemmas.Bool.Decides.{leb_tells}
use Rattle.memchr.specs.Find.{OccursAt, FindsNeedle}
use Rattle.memchr.proofs.lemmas.MatchLemmas.{OccursAt-part, OccursAt-from_part}
use Rattle.head_grammar.specs.Ends.{head_end, head_mark}
use Rattle.byte_tables.proofs.Cuts.{rest_is}
use Rattle.head_grammar.proofs.Occurs.{occurs_before, finds_none, finds_some, occurs_front}
use Rattle.head_grammar.proofs.Occurs.{occurs_drop, occurs_whole}

-- the four bytes at the front are the mark
at_front : (b : ℕ) (bs : List ℕ) → take 4 (b ∷ bs) ≡ head_mark → OccursAt (b ∷ bs) head_mark 0
at_front b bs e =
    let four : length (take 4 (b ∷ bs)) ≡ 4 = ap length e in
    OccursAt-from_part (b ∷ bs) head_mark 0 (omega (arith, four, length-take 4 (b ∷ bs))) e

step : (t : Bool) (b : ℕ) (bs : List ℕ) (r : Option ℕ) → Decides t (take 4 (b ∷ bs) ≡ head_mark) →
    FindsNeedle (b ∷ bs) head_mark 0 r →
    ((q : Option ℕ) → FindsNeedle bs head_mark 0 q → head_end bs ≡ option_map (λ k. k + 4) q) →
    cond t (Some 4) (option_map (λ n. suc n) (head_end bs)) ≡ option_map (λ k. k + 4) r
step true b bs None d h ih = absurd (h 0 (omega arith) (omega arith) (at_front b bs (d.0 refl)))
step true b bs (Some zero) d h ih = refl
step true b bs (Some (suc j)) d h ih = absurd (h.0.before 0 (omega arith) (omega arith)
    (at_front b bs (d.0 refl)))
step false b bs None d h ih = ap (option_map (λ n. suc n)) (ih None (finds_none b bs head_mark h))
step false b bs (Some zero) d h ih = let e : false ≡ true =
    d.1 (OccursAt-part (b ∷ bs) head_mark 0 h.1) in cc
step false b bs (Some (suc j)) d h ih =
    let some = ih (Some j) (finds_some b bs head_mark j h) in
    let e : suc (j + 4) ≡ suc j + 4 = omega arith in
    ap (option_map (λ n. suc n)) some ∙ ap Some e

head_end_is : (bytes : List ℕ) (r : Option ℕ) → FindsNeedle bytes head_mark 0 r →
    head_end bytes ≡ option_map (λ k. k + 4) r
unfolding head_end
head_end_is [] None h = refl
head_end_is [] (Some k) h = let f = h.1.fits in absurd (omega arith)
head_end_is (b ∷ bs) r h = step (bytes_eq (take 4 (b ∷ bs)) head_mark) b bs r
    (bytes_eq-Decides (take 4 (b ∷ bs)) head_mark) h (head_end_is bs)

step_none : (t : Bool) (r : Option ℕ) → cond t (Some 4) (option_map (λ n. suc n) r) ≡ None →
    (t ≡ false) × (r ≡ None)
step_none true r e = cc
step_none false None e = (refl, refl)
step_none false (Some n) e = cc

-- the mark stands nowhere in bytes in which no head ends
no_mark : (bytes : List ℕ) (k : ℕ) → head_end bytes ≡ None → OccursAt bytes head_mark k → ⊥
unfolding head_end
no_mark [] k e h = let f = h.fits in absurd (omega arith)
no_mark (b ∷ bs) zero e h =
    let none = step_none (bytes_eq (take 4 (b ∷ bs)) head_mark) (head_end bs) e in
    let wrong : false ≡ true = sym none.0 ∙ (bytes_eq-Decides (take 4 (b ∷ bs)) head_mark).1
    (OccursAt-part (b ∷ bs) head_mark 0 h) in cc
no_mark (b ∷ bs) (suc k) e h =
    let none = step_none (bytes_eq (take 4 (b ∷ bs)) head_mark) (head_end bs) e in
    no_mark bs k none.1 (occurs_before b bs head_mark k h)

-- a mark that ends behind `from` begins at most three bytes before it
late : (bytes : List ℕ) (from k : ℕ) → head_end (take from bytes) ≡ None →
    OccursAt bytes head_mark k → from - 3 ≤ k
late bytes from k none occurs =
    elim (leb_tells (k + 4) from) [
      | inl w ↦ (let l = w.1 in absurd (no_mark (take from bytes) k none
          (occurs_front bytes head_mark from k l occurs)))
      | inr w ↦ (let l = w.1 in omega arith)
    ]

-- so the search may begin there
finds_from : (bytes : List ℕ) (from : ℕ) (r : Option ℕ) → head_end (take from bytes) ≡ None →
    FindsNeedle (drop (from - 3) bytes) head_mark 0 r →
    FindsNeedle bytes head_mark 0 (option_map (λ k. from - 3 + k) r)
finds_from bytes from None none h = λ k low high occurs.
    let l = late bytes from k none occurs in
    let f = occurs.fits in
    let count = length-drop (from - 3) bytes in
    h (k - (from - 3)) (omega arith) (omega arith)
    (occurs_drop bytes head_mark (from - 3) k l occurs)
finds_from bytes from (Some at) none h = (
  record {
    low = omega arith;
    high = let f = h.1.fits in let count = length-drop (from - 3) bytes in omega arith;
    before = λ k low high occurs.
        let l = late bytes from k none occurs in
        h.0.before (k - (from - 3)) (omega arith) (omega arith)
        (occurs_drop bytes head_mark (from - 3) k l occurs);
  },
  occurs_whole bytes head_mark (from - 3) at (omega arith) h.1,
)

-- the first end, by a search of the slice that begins three bytes before `from`
pub head_end_searched : (bytes : List ℕ) (from start : ℕ) (r : Option ℕ) →
    head_end (take from bytes) ≡ None → start ≡ from - 3 →
    FindsNeedle (take (length bytes - start) (drop start bytes)) head_mark 0 r →
    head_end bytes ≡ option_map (λ k. k + 4) (option_map (λ k. start + k) r)
head_end_searched bytes from start r none e h =
    let found = subst (λ m. FindsNeedle (drop m bytes) head_mark 0 r) e
    (subst (λ xs. FindsNeedle xs head_mark 0 r) (rest_is bytes start) h) in
    head_end_is bytes (option_map (λ k. from - 3 + k) r) (finds_from bytes from r none found) ∙
    ap (λ m. option_map (λ k. k + 4) (option_map (λ k. m + k) r)) (sym e)
