-- Lists of moments that never fall.
use Rattle.std.proofs.Common.{◌≡◌, ◌≤◌, ◌-◌, ℕ, zero, suc, List, [], ◌∷◌, length, ap, sym, subst}
use Rattle.std.proofs.Common.{arith, min, get_or}
use Rattle.outside.specs.Moments.{NeverFalls, moment_at}

first_of : (x : ℕ) (rest : List ℕ) → moment_at (x ∷ rest) 0 ≡ x
first_of x rest =
    let e : min 0 (length (x ∷ rest) - 1) ≡ 0 = omega arith in ap (λ n. get_or (x ∷ rest) n 0) e

alone : (x i : ℕ) → moment_at (x ∷ []) i ≡ x
alone x i =
    let e : min i (length (x ∷ []) - 1) ≡ 0 = omega arith in ap (λ n. get_or (x ∷ []) n 0) e

behind : (x y : ℕ) (rest : List ℕ) (j : ℕ) →
    moment_at (x ∷ y ∷ rest) (suc j) ≡ moment_at (y ∷ rest) j
behind x y rest j =
    let e : min (suc j) (length (x ∷ y ∷ rest) - 1) ≡ suc (min j (length (y ∷ rest) - 1)) =
    omega arith in
    ap (λ n. get_or (x ∷ y ∷ rest) n 0) e

one : (x : ℕ) → NeverFalls (x ∷ [])
one x = record {
  later = λ i j _. let left = alone x i in let right = alone x j in omega (arith, left, right);
}

earlier_at : (x y : ℕ) (rest : List ℕ) → x ≤ y → NeverFalls (y ∷ rest) → (i j : ℕ) → i ≤ j →
    moment_at (x ∷ y ∷ rest) i ≤ moment_at (x ∷ y ∷ rest) j
earlier_at x y rest below rises zero zero order = omega arith
earlier_at x y rest below rises zero (suc j) order =
    let step = rises.later 0 j (omega arith) in
    let from = first_of x (y ∷ rest) in
    let next = first_of y rest in
    let to = behind x y rest j in
    omega (arith, below, step, from, next, to)
earlier_at x y rest below rises (suc i) zero order = absurd (omega (arith, order))
earlier_at x y rest below rises (suc i) (suc j) order =
    let step = rises.later i j (omega (arith, order)) in
    let from = behind x y rest i in
    let to = behind x y rest j in
    omega (arith, step, from, to)

-- a moment may stand in front of one that isn't earlier
earlier : (x y : ℕ) (rest : List ℕ) → x ≤ y → NeverFalls (y ∷ rest) → NeverFalls (x ∷ y ∷ rest)
earlier x y rest below rises = record { later = earlier_at x y rest below rises }

-- eight moments, none of which is earlier than the one before
pub eight_rise : (moments : List ℕ) (a b c d e f g h : ℕ) →
    moments ≡ a ∷ b ∷ c ∷ d ∷ e ∷ f ∷ g ∷ h ∷ [] →
    a ≤ b → b ≤ c → c ≤ d → d ≤ e → e ≤ f → f ≤ g → g ≤ h → NeverFalls moments
eight_rise moments a b c d e f g h is ab bc cd de ef fg gh =
    subst NeverFalls (sym is)
    (earlier a b _ ab (earlier b c _ bc (earlier c d _ cd (earlier d e _ de
    (earlier e f _ ef (earlier f g _ fg (earlier g h _ gh (one h))))))))
