-- Where a head ends, when more bytes come.
use Rattle.std.proofs.Common.{◌≡◌, ◌≤◌, ◌<◌, ◌+◌, ℕ, zero, suc, Bool, true, false, List, [], ◌∷◌}
use Rattle.std.proofs.Common.{◌++◌, length, take, drop, None, Some, refl, ap, sym, ◌∙◌, cond, arith}
use Rattle.std.proofs.Common.{inl, inr}
use Rattle.std.specs.Prelude.{Option, option_map}
use Rattle.std.specs.Str.{bytes_eq}
use Rattle.std.proofs.lemmas.Bool.Decides.{leb_tells}
use Rattle.std.proofs.lemmas.Slice.Eq.{bytes_eq-Decides}
use Rattle.std.proofs.lemmas.List.{length-take, take-take, take-append-le, take-append-drop}
use Rattle.head_grammar.specs.Ends.{head_end, head_mark}

-- one step of the search for a head's end
head_end-cons : (b : ℕ) (bs : List ℕ) → head_end (b ∷ bs)
    ≡ cond (bytes_eq (take 4 (b ∷ bs)) head_mark) (Some 4) (option_map (λ n. suc n) (head_end bs))
unfolding head_end
head_end-cons b bs = refl

pub head_end-nil : head_end [] ≡ None
unfolding head_end
head_end-nil = refl

-- four bytes at the front that are the mark
front_long : (xs : List ℕ) → bytes_eq (take 4 xs) head_mark ≡ true → 4 ≤ length xs
front_long xs e =
    let same : length (take 4 xs) ≡ 4 = ap length ((bytes_eq-Decides (take 4 xs) head_mark).0 e) in
    omega (arith, same, length-take 4 xs)

within_rest : (r : Option ℕ) (b : ℕ) (bs : List ℕ) (n : ℕ) →
    ((m : ℕ) → r ≡ Some m → m ≤ length bs) → option_map (λ n. suc n) r ≡ Some n →
    n ≤ length (b ∷ bs)
within_rest None b bs n ih e = cc
within_rest (Some m) b bs n ih e = let l = ih m refl in let s : suc m ≡ n = cc in omega arith

within_step : (t : Bool) (b : ℕ) (bs : List ℕ) (n : ℕ) → (t ≡ true → 4 ≤ length (b ∷ bs)) →
    ((m : ℕ) → head_end bs ≡ Some m → m ≤ length bs) →
    cond t (Some 4) (option_map (λ n. suc n) (head_end bs)) ≡ Some n → n ≤ length (b ∷ bs)
within_step true b bs n t_is ih e = let four : 4 ≡ n = cc in let l = t_is refl in omega arith
within_step false b bs n t_is ih e = within_rest (head_end bs) b bs n ih e

-- a head ends within the bytes
pub head_end-within : (xs : List ℕ) (n : ℕ) → head_end xs ≡ Some n → n ≤ length xs
head_end-within [] n e = let absent : None ≡ Some n = sym head_end-nil ∙ e in cc
head_end-within (b ∷ bs) n e =
    within_step (bytes_eq (take 4 (b ∷ bs)) head_mark) b bs n (front_long (b ∷ bs))
    (head_end-within bs) (sym (head_end-cons b bs) ∙ e)

later_rest : (r q : Option ℕ) (b : ℕ) (bs : List ℕ) (n : ℕ) →
    ((m : ℕ) → r ≡ None → q ≡ Some m → length bs < m) →
    option_map (λ n. suc n) r ≡ None → option_map (λ n. suc n) q ≡ Some n → length (b ∷ bs) < n
later_rest None None b bs n ih e f = cc
later_rest (Some k) q b bs n ih e f = cc
later_rest None (Some m) b bs n ih e f = let l = ih m refl refl in let s : suc m ≡ n = cc in
    omega arith

later_short : (b : ℕ) (bs : List ℕ) (n : ℕ) → 4 ≡ n → (4 ≤ length (b ∷ bs) → false ≡ true) →
    length (b ∷ bs) < n
later_short b bs n four never =
    elim (leb_tells 4 (length (b ∷ bs))) [
      | inl w ↦ (let e : false ≡ true = never w.1 in cc)
      | inr w ↦ (let l : length (b ∷ bs) < 4 = w.1 in omega arith)
    ]

later_step : (t u : Bool) (b : ℕ) (bs ys : List ℕ) (n : ℕ) →
    (u ≡ true → 4 ≤ length (b ∷ bs) → t ≡ true) →
    ((m : ℕ) → head_end bs ≡ None → head_end (bs ++ ys) ≡ Some m → length bs < m) →
    cond t (Some 4) (option_map (λ n. suc n) (head_end bs)) ≡ None →
    cond u (Some 4) (option_map (λ n. suc n) (head_end (bs ++ ys))) ≡ Some n → length (b ∷ bs) < n
later_step true u b bs ys n same ih e f = cc
later_step false true b bs ys n same ih e f = let four : 4 ≡ n = cc in
    later_short b bs n four (same refl)
later_step false false b bs ys n same ih e f = later_rest (head_end bs)
    (head_end (bs ++ ys)) b bs n ih e f

four_rest : (r : Option ℕ) (n : ℕ) → ((m : ℕ) → r ≡ Some m → 4 ≤ m) → option_map (λ n. suc n) r
    ≡ Some n → 4 ≤ n
four_rest None n ih e = cc
four_rest (Some m) n ih e = let s : suc m ≡ n = cc in let l = ih m refl in omega arith

four_step : (t : Bool) (r : Option ℕ) (n : ℕ) → ((m : ℕ) → r ≡ Some m → 4 ≤ m) →
    cond t (Some 4) (option_map (λ n. suc n) r) ≡ Some n → 4 ≤ n
four_step true r n ih e = let four : 4 ≡ n = cc in omega arith
four_step false r n ih e = four_rest r n ih e

-- a head has at least the four bytes that end it
pub head_end-four : (xs : List ℕ) (n : ℕ) → head_end xs ≡ Some n → 4 ≤ n
head_end-four [] n e = let absent : None ≡ Some n = sym head_end-nil ∙ e in cc
head_end-four (b ∷ bs) n e = four_step (bytes_eq (take 4 (b ∷ bs)) head_mark) (head_end bs) n
    (head_end-four bs) (sym (head_end-cons b bs) ∙ e)

-- where no head ends in the first bytes, one ends behind them
pub head_end-later : (xs ys : List ℕ) (n : ℕ) → head_end xs ≡ None → head_end (xs ++ ys) ≡ Some n →
    length xs < n
head_end-later [] ys n e f = let l = head_end-four ys n f in omega arith
head_end-later (b ∷ bs) ys n e f =
    later_step (bytes_eq (take 4 (b ∷ bs)) head_mark) (bytes_eq (take 4 (b ∷ (bs ++ ys))) head_mark)
    b bs ys n
    (λ u l. ap (λ zs. bytes_eq zs head_mark) (sym (take-append-le 4 (b ∷ bs) ys l)) ∙ u)
    (λ m. head_end-later bs ys m)
    (sym (head_end-cons b bs) ∙ e) (sym (head_end-cons b (bs ++ ys)) ∙ f)

still_rest : (r q : Option ℕ) (n : ℕ) → ((m : ℕ) → r ≡ Some m → q ≡ Some m) →
    option_map (λ n. suc n) r ≡ Some n → option_map (λ n. suc n) q ≡ Some n
still_rest None q n ih e = cc
still_rest (Some m) q n ih e = ap (option_map (λ n. suc n)) (ih m refl) ∙ e

still_step : (t : Bool) (r q : Option ℕ) (n : ℕ) → ((m : ℕ) → r ≡ Some m → q ≡ Some m) →
    cond t (Some 4) (option_map (λ n. suc n) r) ≡ Some n →
    cond t (Some 4) (option_map (λ n. suc n) q) ≡ Some n
still_step true r q n ih e = e
still_step false r q n ih e = still_rest r q n ih e

-- a head that ends keeps its end, whatever comes behind it
pub head_end-still : (xs ys : List ℕ) (n : ℕ) → head_end xs ≡ Some n → head_end (xs ++ ys) ≡ Some n
head_end-still [] ys n e = let absent : None ≡ Some n = sym head_end-nil ∙ e in cc
head_end-still (b ∷ bs) ys n e =
    let long = head_end-four (b ∷ bs) n e in
    let within = head_end-within (b ∷ bs) n e in
    let same : bytes_eq (take 4 (b ∷ (bs ++ ys))) head_mark ≡ bytes_eq (take 4 (b ∷ bs)) head_mark =
    ap (λ zs. bytes_eq zs head_mark) (take-append-le 4 (b ∷ bs) ys (omega arith)) in
    head_end-cons b (bs ++ ys) ∙ (ap (λ t. cond t (Some 4)
    (option_map (λ n. suc n) (head_end (bs ++ ys)))) same ∙
    still_step (bytes_eq (take 4 (b ∷ bs)) head_mark) (head_end bs) (head_end (bs ++ ys)) n
    (head_end-still bs ys) (sym (head_end-cons b bs) ∙ e))

cut_by : (xs : List ℕ) (n : ℕ) (r : Option ℕ) → head_end (take n xs) ≡ r → head_end xs ≡ Some n →
    head_end (take n xs) ≡ Some n
cut_by xs n None f e =
    let whole : head_end (take n xs ++ drop n xs) ≡ Some n = ap head_end (take-append-drop n xs)
    ∙ e in
    let past = head_end-later (take n xs) (drop n xs) n f whole in
    let within = head_end-within xs n e in
    let count = length-take n xs in absurd (omega arith)
cut_by xs n (Some m) f e =
    let still : head_end (take n xs ++ drop n xs) ≡ Some m =
    head_end-still (take n xs) (drop n xs) m f in
    let same : Some m ≡ Some n = sym still ∙ (ap head_end (take-append-drop n xs) ∙ e) in
    f ∙ same

-- a head alone ends where it ends
pub head_end-cut : (xs : List ℕ) (n : ℕ) → head_end xs ≡ Some n → head_end (take n xs) ≡ Some n
head_end-cut xs n e = cut_by xs n (head_end (take n xs)) refl e

none_by : (xs : List ℕ) (k : ℕ) (r : Option ℕ) → head_end (take k xs) ≡ r → head_end xs ≡ None →
    head_end (take k xs) ≡ None
none_by xs k None e h = e
none_by xs k (Some m) e h =
    let still : head_end xs ≡ Some m = ap head_end (sym (take-append-drop k xs))
    ∙ head_end-still (take k xs) (drop k xs) m e in
    let wrong : Some m ≡ None = sym still ∙ h in cc

moved_none : (k : ℕ) (r : Option ℕ) → r ≡ None → r ≡ option_map (λ n. k + n) r
moved_none k None e = refl
moved_none k (Some n) e = cc

moved_zero : (r : Option ℕ) → r ≡ option_map (λ n. 0 + n) r
moved_zero None = refl
moved_zero (Some n) = ap Some (omega arith)

moved_suc : (k : ℕ) (r : Option ℕ) → option_map (λ n. suc n) (option_map (λ n. k + n) r)
    ≡ option_map (λ n. suc k + n) r
moved_suc k None = refl
moved_suc k (Some n) = ap Some (omega arith)

none_step : (t : Bool) (r : Option ℕ) → cond t (Some 4) (option_map (λ n. suc n) r) ≡ None →
    (t ≡ false) × (r ≡ None)
none_step true r e = cc
none_step false None e = (refl, refl)
none_step false (Some n) e = cc

-- where no head ends in the first k + 3 bytes, the search may begin behind the first k
pub head_end-drop : (xs : List ℕ) (k : ℕ) → head_end (take (k + 3) xs) ≡ None →
    head_end xs ≡ option_map (λ n. k + n) (head_end (drop k xs))
head_end-drop xs zero e = moved_zero (head_end xs)
head_end-drop [] (suc k) e = moved_none (suc k) (head_end []) head_end-nil
head_end-drop (b ∷ bs) (suc k) e =
    let next : suc k + 3 ≡ suc (k + 3) = omega arith in
    let front : head_end (b ∷ take (k + 3) bs) ≡ None =
    ap (λ n. head_end (take n (b ∷ bs))) (sym next) ∙ e in
    let none = none_step (bytes_eq (take 4 (b ∷ take (k + 3) bs)) head_mark)
    (head_end (take (k + 3) bs)) (sym (head_end-cons b (take (k + 3) bs)) ∙ front) in
    let four : take 4 (b ∷ take (k + 3) bs) ≡ take 4 (b ∷ bs) =
    ap (λ zs. b ∷ zs) (take-take 3 (k + 3) bs (omega arith)) in
    let other : bytes_eq (take 4 (b ∷ bs)) head_mark ≡ false =
    ap (λ zs. bytes_eq zs head_mark) (sym four) ∙ none.0 in
    head_end-cons b bs ∙ (ap (λ t. cond t (Some 4) (option_map (λ n. suc n) (head_end bs))) other ∙
    (ap (option_map (λ n. suc n)) (head_end-drop bs k none.1) ∙ moved_suc k (head_end (drop k bs))))
