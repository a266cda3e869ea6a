-- Reading several bytes.
use Rattle.std.proofs.Common.{◌≡◌, ◌≤◌, ◌<◌, ◌+◌, ◌-◌, ℕ, zero, suc, min, Bool, true, false, List}
use Rattle.std.proofs.Common.{[], ◌∷◌, ◌++◌, length, take, drop, get_or, refl, ap, sym, ◌∙◌, cond}
use Rattle.std.proofs.Common.{arith, append_assoc, length-take}
use Rattle.std.specs.Prelude.{nat_eq, ◌||◌}
use Rattle.std.proofs.lemmas.List.{take_rest, take-append-drop, append-nil, length-drop}
use Rattle.std.proofs.Math.Seq as seq
use Rattle.chunk_body.specs.Reading.{Reading, step, data_left, limited, line_within, is_last}
use Rattle.chunk_body.specs.Reading.{advance, gives, given, reads, decodes, run_at, data_run}
use Rattle.chunk_body.specs.Reading.{passed, IsSound, has_ended}
use Rattle.byte_tables.specs.declared.refusal.Refusal.{Refusal}
use Rattle.chunk_body.specs.declared.place.Place.{Place}
use Rattle.chunk_body.specs.declared.place.Place.TheVariants.{LineStart, Digits, Blanks, Extension}
use Rattle.chunk_body.specs.declared.place.Place.TheVariants.{LineCr, Data, DataEnd, DataCr}
use Rattle.chunk_body.specs.declared.place.Place.TheVariants.{Trailer, Over, Refused}
use Rattle.chunk_body.proofs.Choices.{test_true, test_false}

pub reads-append : (r : Reading) (xs ys : List ℕ) → reads r (xs ++ ys) ≡ reads (reads r xs) ys
unfolding reads
reads-append r [] ys = refl
reads-append r (x ∷ xs) ys = reads-append (advance r x) xs ys

pub decodes-append : (r : Reading) (xs ys : List ℕ) → decodes r (xs ++ ys)
    ≡ decodes r xs ++ decodes (reads r xs) ys
unfolding reads decodes
decodes-append r [] ys = refl
decodes-append r (x ∷ xs) ys =
    ap (λ l. gives r x ++ l) (decodes-append (advance r x) xs ys)
    ∙ sym (append_assoc (gives r x) (decodes (advance r x) xs)
    (decodes (reads (advance r x) xs) ys))

-- one byte
pub one_read : (r : Reading) (xs : List ℕ) → 0 < length xs → reads r (take 1 xs)
    ≡ advance r (get_or xs 0 0)
unfolding reads
one_read r [] l = absurd (omega arith)
one_read r (x ∷ xs) l = refl

pub one_decoded : (r : Reading) (xs : List ℕ) → 0 < length xs → gives r (get_or xs 0 0) ≡ [] →
    decodes r (take 1 xs) ≡ []
unfolding decodes
one_decoded r [] l e = absurd (omega arith)
one_decoded r (x ∷ xs) l e = ap (λ g. g ++ []) e

abbrev at : ℕ → ℕ → ℕ → Place → Reading
at mb mt t p = record { max_body = mb; max_trailer = mt; taken = t; place = p }

not_last : (mb t : ℕ) → t + 1 < mb → nat_eq (t + 1) mb ≡ false
not_last mb t l = test_false (t + 1) mb (λ e. omega arith)

within_left : (m : ℕ) → line_within (data_left m) ≡ data_left m
within_left zero = refl
within_left (suc m) = refl

-- a byte of data
advance_data : (mb mt t m c : ℕ) → t + 1 < mb → advance (at mb mt t (Data (suc m))) c
    ≡ at mb mt (t + 1) (data_left m)
unfolding advance is_last limited step
advance_data mb mt t m c l =
    let n : nat_eq (t + 1) mb ≡ false = not_last mb t l in
    rw n (let e : suc m - 1 ≡ m = omega arith in ap
    (λ k. at mb mt (t + 1) (line_within (data_left k))) e
    ∙ ap (at mb mt (t + 1)) (within_left m))

gives_data : (mb mt t m c : ℕ) → t + 1 < mb → gives (at mb mt t (Data (suc m))) c ≡ c ∷ []
unfolding gives is_last
gives_data mb mt t m c l = let n : nat_eq (t + 1) mb ≡ false = not_last mb t l in rw n refl

-- a run of data
record Passes (mb mt t left : ℕ) (d : List ℕ) : Type 0 where
  state : reads (at mb mt t (Data left)) d ≡ at mb mt (t + length d) (data_left (left - length d))
  body : decodes (at mb mt t (Data left)) d ≡ d

passes : (mb mt t left : ℕ) (c : ℕ) (d : List ℕ) → length (c ∷ d) ≤ left → t + length (c ∷ d) < mb →
    Passes mb mt t left (c ∷ d)
unfolding reads decodes
passes mb mt t zero c d l h = absurd (omega arith)
passes mb mt t (suc m) c [] l h =
    let s : advance (at mb mt t (Data (suc m))) c ≡ at mb mt (t + 1) (data_left m) =
    advance_data mb mt t m c (omega arith) in
    let g : gives (at mb mt t (Data (suc m))) c ≡ c ∷ [] = gives_data mb mt t m c (omega arith) in
    record {
      state = s ∙ (let e : m ≡ suc m - 1 = omega arith in
          ap (λ k. at mb mt (t + 1) (data_left k)) e);
      body = ap (λ x. x ++ []) g;
    }
passes mb mt t (suc zero) c (b ∷ d) l h = absurd (omega arith)
passes mb mt t (suc (suc m)) c (b ∷ d) l h =
    let s : advance (at mb mt t (Data (suc (suc m)))) c ≡ at mb mt (t + 1) (Data (suc m)) =
    advance_data mb mt t (suc m) c (omega arith) in
    let g : gives (at mb mt t (Data (suc (suc m)))) c ≡ c ∷ [] =
    gives_data mb mt t (suc m) c (omega arith) in
    let more : Passes mb mt (t + 1) (suc m) (b ∷ d) =
    passes mb mt (t + 1) (suc m) b d (omega arith) (omega arith) in
    let n : (t + 1) + length (b ∷ d) ≡ t + length (c ∷ b ∷ d) = omega arith in
    let k : suc m - length (b ∷ d) ≡ suc (suc m) - length (c ∷ b ∷ d) = omega arith in
    record {
      state = ap (λ r. reads r (b ∷ d)) s ∙ (more.state
          ∙ (ap (λ j. at mb mt j (data_left (suc m - length (b ∷ d)))) n
          ∙ ap (λ j. at mb mt (t + length (c ∷ b ∷ d)) (data_left j)) k));
      body = ap (λ x. x ++ decodes (advance (at mb mt t (Data (suc (suc m)))) c) (b ∷ d)) g
          ∙ ap (λ r. c ∷ decodes r (b ∷ d)) s ∙ ap (λ x. c ∷ x) more.body;
    }

pub record Passed (r : Reading) (n : ℕ) (d : List ℕ) : Type 0 where
  pub state : reads r d ≡ passed r n
  pub body : decodes r d ≡ d

run_from : (mb mt t left : ℕ) (xs : List ℕ) (n : ℕ) → n ≡ min (min left (mb - 1 - t)) (length xs) →
    0 < n → Passed (at mb mt t (Data left)) n (take n xs)
run_from mb mt t left [] n e h = absurd (omega arith)
run_from mb mt t left (x ∷ xs) zero e h = absurd (omega arith)
run_from mb mt t left (x ∷ xs) (suc n) e h =
    let k : length (x ∷ take n xs) ≡ suc n = omega (arith, length-take n xs) in
    let p : Passes mb mt t left (x ∷ take n xs) = passes mb mt t left x (take n xs) (omega arith)
    (omega arith) in
    record { state = p.state ∙ ap (λ j. at mb mt (t + j) (data_left (left - j))) k; body = p.body }

by_place : (mb mt t : ℕ) (p : Place) (xs : List ℕ) (n : ℕ) → n ≡ run_at p (mb - 1 - t) (length xs) →
    (n ≡ 0 → ⊥) → Passed (at mb mt t p) n (take n xs)
by_place mb mt t LineStart xs n e h = absurd (h e)
by_place mb mt t (Digits a b) xs n e h = absurd (h e)
by_place mb mt t (Blanks a b) xs n e h = absurd (h e)
by_place mb mt t (Extension a b) xs n e h = absurd (h e)
by_place mb mt t (LineCr a b) xs n e h = absurd (h e)
by_place mb mt t (Data left) xs n e h = run_from mb mt t left xs n e (omega arith)
by_place mb mt t DataEnd xs n e h = absurd (h e)
by_place mb mt t DataCr xs n e h = absurd (h e)
by_place mb mt t (Trailer a b) xs n e h = absurd (h e)
by_place mb mt t Over xs n e h = absurd (h e)
by_place mb mt t (Refused r) xs n e h = absurd (h e)

pub run_passed : (r : Reading) (xs : List ℕ) (n : ℕ) → n ≡ data_run r (length xs) → (n ≡ 0 → ⊥) →
    Passed r n (take n xs)
run_passed r xs n e h = by_place r.max_body r.max_trailer r.taken r.place xs n e h

same_cond : (b : Bool) → cond {A = List ℕ} b [] [] ≡ []
same_cond true = refl
same_cond false = refl

none_given : (mb mt t : ℕ) (p : Place) (c len : ℕ) → 0 < len → t < mb → has_ended p ≡ false →
    IsSound mt p → run_at p (mb - 1 - t) len ≡ 0 →
    cond (has_ended p || nat_eq (t + 1) mb) [] (given p c) ≡ []
none_given mb mt t LineStart c len l h w s e = same_cond (nat_eq (t + 1) mb)
none_given mb mt t (Digits a b) c len l h w s e = same_cond (nat_eq (t + 1) mb)
none_given mb mt t (Blanks a b) c len l h w s e = same_cond (nat_eq (t + 1) mb)
none_given mb mt t (Extension a b) c len l h w s e = same_cond (nat_eq (t + 1) mb)
none_given mb mt t (LineCr a b) c len l h w s e = same_cond (nat_eq (t + 1) mb)
none_given mb mt t (Data left) c len l h w s e =
    let n : nat_eq (t + 1) mb ≡ true = test_true (t + 1) mb (omega arith) in rw n refl
none_given mb mt t DataEnd c len l h w s e = same_cond (nat_eq (t + 1) mb)
none_given mb mt t DataCr c len l h w s e = same_cond (nat_eq (t + 1) mb)
none_given mb mt t (Trailer a b) c len l h w s e = same_cond (nat_eq (t + 1) mb)
none_given mb mt t Over c len l h w s e = refl
none_given mb mt t (Refused r) c len l h w s e = refl

pub nothing_given : (r : Reading) (c len : ℕ) → 0 < len → r.taken < r.max_body → has_ended r.place
    ≡ false → IsSound r.max_trailer r.place → data_run r len ≡ 0 → gives r c ≡ []
unfolding gives is_last
nothing_given r c len l w h s e = none_given r.max_body r.max_trailer r.taken r.place c len l w h s
    e

-- nothing more is read where it ended
pub ended_stays : (r : Reading) (xs : List ℕ) → has_ended r.place ≡ true → reads r xs ≡ r
unfolding reads advance
ended_stays r [] h = refl
ended_stays r (x ∷ xs) h = ap (λ s. reads s xs) (let e : advance r x ≡ r = rw h refl in e)
    ∙ ended_stays r xs h

pub ended_gives : (r : Reading) (xs : List ℕ) → has_ended r.place ≡ true → decodes r xs ≡ []
unfolding decodes advance gives
ended_gives r [] h = refl
ended_gives r (x ∷ xs) h =
    let g : gives r x ≡ [] = rw h refl in
    let a : advance r x ≡ r = rw h refl in
    ap (λ l. l ++ decodes (advance r x) xs) g ∙ ap (λ s. decodes s xs) a ∙ ended_gives r xs h

-- the next part of a piece
pub take-add : (i n : ℕ) (xs : List ℕ) → take (i + n) xs
    ≡ take i xs ++ take n (take (length xs - i) (drop i xs))
take-add i n xs = seq.take-add i n xs ∙ ap (λ l. take i xs ++ take n l) (sym (take_rest xs i))

pub part_read : (s0 s1 s2 : Reading) (xs : List ℕ) (i n : ℕ) → s1 ≡ reads s0 (take i xs) →
    s2 ≡ reads s1 (take n (take (length xs - i) (drop i xs))) → s2 ≡ reads s0 (take (i + n) xs)
part_read s0 s1 s2 xs i n e f =
    f ∙ ap (λ s. reads s (take n (take (length xs - i) (drop i xs)))) e
    ∙ sym (ap (λ l. reads s0 l) (take-add i n xs) ∙ reads-append s0 (take i xs)
    (take n (take (length xs - i) (drop i xs))))

pub part_decoded : (s0 s1 : Reading) (b0 b1 b2 : List ℕ) (xs : List ℕ) (i n : ℕ) →
    s1 ≡ reads s0 (take i xs) → b1 ≡ b0 ++ decodes s0 (take i xs) →
    b2 ≡ b1 ++ decodes s1 (take n (take (length xs - i) (drop i xs))) →
    b2 ≡ b0 ++ decodes s0 (take (i + n) xs)
part_decoded s0 s1 b0 b1 b2 xs i n e f g =
    let part : List ℕ = take n (take (length xs - i) (drop i xs)) in
    g ∙ ap (λ b. b ++ decodes s1 part) f ∙ append_assoc b0 (decodes s0 (take i xs))
    (decodes s1 part)
    ∙ ap (λ s. b0 ++ (decodes s0 (take i xs) ++ decodes s part)) e
    ∙ sym (ap (λ l. b0 ++ l) (ap (λ l. decodes s0 l) (take-add i n xs)
    ∙ decodes-append s0 (take i xs) part))

pub rest_length : (xs : List ℕ) (i : ℕ) → length (take (length xs - i) (drop i xs)) ≡ length xs - i
rest_length xs i = ap length (take_rest xs i) ∙ length-drop i xs

-- what came behind the end of reading changes nothing
pub whole_read : (s0 s1 : Reading) (xs : List ℕ) (i : ℕ) → s1 ≡ reads s0 (take i xs) →
    has_ended s1.place ≡ true → s1 ≡ reads s0 xs
whole_read s0 s1 xs i e h =
    sym (ap (λ l. reads s0 l) (sym (take-append-drop i xs))
    ∙ reads-append s0 (take i xs) (drop i xs) ∙ ap (λ s. reads s (drop i xs)) (sym e)
    ∙ ended_stays s1 (drop i xs) h)

pub whole_decoded : (s0 s1 : Reading) (xs : List ℕ) (i : ℕ) → s1 ≡ reads s0 (take i xs) →
    has_ended s1.place ≡ true → decodes s0 (take i xs) ≡ decodes s0 xs
whole_decoded s0 s1 xs i e h =
    sym (ap (λ l. decodes s0 l) (sym (take-append-drop i xs))
    ∙ decodes-append s0 (take i xs) (drop i xs)
    ∙ ap (λ l. decodes s0 (take i xs) ++ l) (ap (λ s. decodes s (drop i xs)) (sym e)
    ∙ ended_gives s1 (drop i xs) h) ∙ append-nil (decodes s0 (take i xs)))

pub none_read : (s : Reading) → s ≡ reads s []
unfolding reads
none_read s = refl

pub none_decoded : (s : Reading) (b : List ℕ) → b ≡ b ++ decodes s []
unfolding decodes
none_decoded s b = sym (append-nil b)

pub nothing_decoded : (s : Reading) → [] ≡ decodes s []
unfolding decodes
nothing_decoded s = refl

pub refused_ended : (p : Place) (r : Refusal) → p ≡ Refused r → has_ended p ≡ true
refused_ended p r e = ap has_ended e

pub counted : (r : Reading) (c : ℕ) → has_ended r.place ≡ false → (advance r c).taken ≡ r.taken + 1
unfolding advance
counted r c h = rw h refl
