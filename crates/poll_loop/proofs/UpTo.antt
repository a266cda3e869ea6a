-- Lists that are changed from the front, one item after the other.
use Rattle.std.proofs.Common.{◌≤◌, ◌≡◌, ◌<◌, ℕ, zero, suc, List, [], ◌∷◌, refl, ap, arith, length}
use Rattle.std.proofs.Common.{slice_index_or, slice_set}
use Rattle.poll_loop.specs.Lists.{Both, EachIs, Paired, UpTo}

pub paired_at : {W X : Type 0} (R : W → X → Type 0) (i : ℕ) (ws : List W) (xs : List X) (w : W)
    (x : X) → Paired R ws xs → i < length ws → R (slice_index_or ws i w) (slice_index_or xs i x)
paired_at R i [] ys w x p h = absurd (let h' : i < 0 = h in omega (arith, h'))
paired_at R i (v ∷ vs) [] w x p h = absurd p
paired_at R zero (v ∷ vs) (y ∷ ys) w x p h = p.0
paired_at R (suc i) (v ∷ vs) (y ∷ ys) w x p h = paired_at R i vs ys w x p.1 (grind (arith, h))

-- what is not changed yet
pub up_to_at : {W X : Type 0} (R : W → X → X → Type 0) (i : ℕ) (ws : List W) (os ns : List X)
    (d : X) → UpTo R i ws os ns → slice_index_or ns i d ≡ slice_index_or os i d
up_to_at R zero ws os ns d u = ap (λ xs. slice_index_or xs 0 d) u
up_to_at R (suc i) [] os ns d u = absurd u
up_to_at R (suc i) (w ∷ ws) [] ns d u = absurd u
up_to_at R (suc i) (w ∷ ws) (o ∷ os) [] d u = absurd u
up_to_at R (suc i) (w ∷ ws) (o ∷ os) (n ∷ ns) d u = up_to_at R i ws os ns d u.1

-- one more is changed
pub up_to_more : {W X : Type 0} (R : W → X → X → Type 0) (i : ℕ) (ws : List W) (os ns : List X)
    (w : W) (d v : X) → UpTo R i ws os ns → i < length os → i < length ws →
    R (slice_index_or ws i w) (slice_index_or os i d) v → UpTo R (suc i) ws os (slice_set ns i v)
up_to_more R zero [] os ns w d v u h k r = absurd (let k' : 0 < 0 = k in omega (arith, k'))
up_to_more R zero (x ∷ ws) [] ns w d v u h k r = absurd (let h' : 0 < 0 = h in omega (arith, h'))
up_to_more R zero (x ∷ ws) (o ∷ os) [] w d v u h k r = cc
up_to_more R zero (x ∷ ws) (o ∷ os) (n ∷ ns) w d v u h k r = (r, tails u)
  where
    tails : {X : Type 0} {n o : X} {ns os : List X} → n ∷ ns ≡ o ∷ os → ns ≡ os
    tails e = cc
up_to_more R (suc i) [] os ns w d v u h k r = absurd u
up_to_more R (suc i) (x ∷ ws) [] ns w d v u h k r = absurd u
up_to_more R (suc i) (x ∷ ws) (o ∷ os) [] w d v u h k r = absurd u
up_to_more R (suc i) (x ∷ ws) (o ∷ os) (n ∷ ns) w d v u h k r =
    (u.0, up_to_more R i ws os ns w d v u.1 (grind (arith, h)) (grind (arith, k)) r)

-- the next one stays as it is
pub up_to_keep : {W X : Type 0} (R : W → X → X → Type 0) (i : ℕ) (ws : List W) (os ns : List X)
    (w : W) (d : X) → UpTo R i ws os ns → i < length os → i < length ws →
    R (slice_index_or ws i w) (slice_index_or os i d) (slice_index_or ns i d) →
    UpTo R (suc i) ws os ns
up_to_keep R zero [] os ns w d u h k r = absurd (let k' : 0 < 0 = k in omega (arith, k'))
up_to_keep R zero (x ∷ ws) [] ns w d u h k r = absurd (let h' : 0 < 0 = h in omega (arith, h'))
up_to_keep R zero (x ∷ ws) (o ∷ os) [] w d u h k r = cc
up_to_keep R zero (x ∷ ws) (o ∷ os) (n ∷ ns) w d u h k r = (r, tails u)
  where
    tails : {X : Type 0} {n o : X} {ns os : List X} → n ∷ ns ≡ o ∷ os → ns ≡ os
    tails e = cc
up_to_keep R (suc i) [] os ns w d u h k r = absurd u
up_to_keep R (suc i) (x ∷ ws) [] ns w d u h k r = absurd u
up_to_keep R (suc i) (x ∷ ws) (o ∷ os) [] w d u h k r = absurd u
up_to_keep R (suc i) (x ∷ ws) (o ∷ os) (n ∷ ns) w d u h k r =
    (u.0, up_to_keep R i ws os ns w d u.1 (grind (arith, h)) (grind (arith, k)) r)

-- what stands at a place, whatever would be said beside the list
pub same_at : {X : Type 0} (i : ℕ) (xs : List X) (d f : X) → i < length xs →
    slice_index_or xs i d ≡ slice_index_or xs i f
same_at i [] d f h = absurd (let h' : i < 0 = h in omega (arith, h'))
same_at zero (x ∷ xs) d f h = refl
same_at (suc i) (x ∷ xs) d f h = same_at i xs d f (grind (arith, h))

pub each_at : {X : Type 0} (P : X → Type 0) (i : ℕ) (xs : List X) (d : X) → EachIs P xs →
    i < length xs → P (slice_index_or xs i d)
each_at P i [] d p h = absurd (let h' : i < 0 = h in omega (arith, h'))
each_at P zero (y ∷ ys) d p h = p.0
each_at P (suc i) (y ∷ ys) d p h = each_at P i ys d p.1 (grind (arith, h))

pub both_of : {X : Type 0} (R : X → X → Type 0) (xs ys : List X) →
    UpTo (λ (_ : X). R) (length xs) xs xs ys → Both R xs ys
both_of R [] [] u = tt
both_of R [] (y ∷ ys) u = cc
both_of R (x ∷ xs) [] u = absurd u
both_of R (x ∷ xs) (y ∷ ys) u = (u.0, both_of R xs ys u.1)

pub both_same : {X : Type 0} (xs : List X) → Both (λ (x y : X). y ≡ x) xs xs
both_same [] = tt
both_same (x ∷ xs) = (refl, both_same xs)

pub up_to_length : {W X : Type 0} (R : W → X → X → Type 0) (i : ℕ) (ws : List W) (os ns : List X) →
    UpTo R i ws os ns → length ns ≡ length os
up_to_length R zero ws os ns u = ap length u
up_to_length R (suc i) [] os ns u = absurd u
up_to_length R (suc i) (w ∷ ws) [] ns u = absurd u
up_to_length R (suc i) (w ∷ ws) (o ∷ os) [] u = absurd u
up_to_length R (suc i) (w ∷ ws) (o ∷ os) (n ∷ ns) u = let e =
    up_to_length R i ws os ns u.1 in grind (arith, e)

-- no more are changed than there are of the first list
pub up_to_all : {W X : Type 0} (R : W → X → X → Type 0) (i : ℕ) (ws : List W) (os ns : List X) →
    UpTo R i ws os ns → length ws ≤ i → UpTo R (length ws) ws os ns
up_to_all R zero [] os ns u h = u
up_to_all R zero (w ∷ ws) os ns u h = absurd (let h' : length (w ∷ ws) ≤ 0 = h in grind (arith, h'))
up_to_all R (suc i) [] os ns u h = absurd u
up_to_all R (suc i) (w ∷ ws) [] ns u h = absurd u
up_to_all R (suc i) (w ∷ ws) (o ∷ os) [] u h = absurd u
up_to_all R (suc i) (w ∷ ws) (o ∷ os) (n ∷ ns) u h = (
  u.0,
  up_to_all R i ws os ns u.1 (grind (arith, h)),
)

pub paired_length : {W X : Type 0} (R : W → X → Type 0) (ws : List W) (xs : List X) →
    Paired R ws xs → length ws ≤ length xs
paired_length R [] xs p = omega arith
paired_length R (w ∷ ws) [] p = absurd p
paired_length R (w ∷ ws) (x ∷ xs) p = let e = paired_length R ws xs p.1 in grind (arith, e)
