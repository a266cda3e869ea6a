-- Lists that are judged item by item.
use Rattle.std.proofs.Common.{◌≡◌, ◌≤◌, ◌<◌, ◌+◌, ◌⊎◌, inl, inr, ℕ, suc, List, [], ◌∷◌, ◌++◌}
use Rattle.std.proofs.Common.{length, refl, ap, sym, subst, ◌∙◌, arith}
use Rattle.std.specs.Prelude.{All, IsPermutation, Option, None, Some, IfSome, option_map, slice_get}
use Rattle.std.proofs.lemmas.List.Elements.{All-cons, All-head, All-nil, All-tail}
use Rattle.std.proofs.lemmas.List.Sorted.{All-permutation}
use Rattle.std.proofs.lemmas.Option.{slice_get_within}
use Rattle.poll_loop.specs.Lists.{EachIs}

-- each of the first so many is so
abbrev pub FirstAre : {X : Type 0} → (X → Type 0) → ℕ → List X → Type 0
FirstAre {X} P n xs = (k : ℕ) (x : X) → k < n → slice_get xs k ≡ Some x → P x

pub first_none : {X : Type 0} (P : X → Type 0) (xs : List X) → FirstAre P 0 xs
first_none P xs k x less is = absurd (let h : k < 0 = less in omega (arith, h))

before_or_at : (k n : ℕ) → k < n + 1 → (k < n) ⊎ (k ≡ n)
before_or_at k n h = grind (arith, h)

pub first_more : {X : Type 0} (P : X → Type 0) (xs : List X) (n : ℕ) → FirstAre P n xs →
    ((x : X) → slice_get xs n ≡ Some x → P x) → FirstAre P (n + 1) xs
first_more P xs n h one k x less is = elim (before_or_at k n less) [
  | inl before ↦ h k x before is
  | inr at ↦ one x (subst (λ i. slice_get xs i ≡ Some x) at is)
]

each_at : {X : Type 0} (P : X → Type 0) (xs : List X) →
    ((k : ℕ) (x : X) → slice_get xs k ≡ Some x → P x) → EachIs P xs
each_at P [] h = tt
each_at P (x ∷ xs) h = (h 0 x refl, each_at P xs (λ k y e. h (suc k) y e))

pub first_all : {X : Type 0} (P : X → Type 0) (xs : List X) (n : ℕ) → length xs ≤ n →
    FirstAre P n xs → EachIs P xs
first_all P xs n all h = each_at P xs (λ k x is.
    let within = slice_get_within xs k x is in h k x (omega (arith, all, within)) is)

-- what holds of an item that is read as a value holds of the value
pub read_is : {X Y : Type 0} (P : Y → Type 0) (f : X → Y) (read : Option X) (value : Option Y)
    (x : X) (y : Y) → option_map f read ≡ value → read ≡ Some x → value ≡ Some y → P (f x) → P y
read_is P f read value x y mapped is is' h =
    let same : Some (f x) ≡ Some y = sym (ap (λ o. option_map f o) is) ∙ (mapped ∙ is') in
    subst (λ o. IfSome o P) same h

pub read_none : {X Y : Type 0} (f : X → Y) (read : Option X) (value : Option Y) (y : Y) →
    option_map f read ≡ value → read ≡ None → value ≡ Some y → ⊥
read_none f read value y mapped is is' =
    let none : None ≡ Some y = sym (ap (λ o. option_map f o) is) ∙ (mapped ∙ is') in cc

pub each_by : {X : Type 0} (P Q : X → Type 0) → ((x : X) → P x → Q x) → (xs : List X) →
    EachIs P xs → EachIs Q xs
each_by P Q f [] h = tt
each_by P Q f (x ∷ xs) h = (f x h.0, each_by P Q f xs h.1)

pub each_append : {X : Type 0} (P : X → Type 0) (xs ys : List X) → EachIs P xs → EachIs P ys →
    EachIs P (xs ++ ys)
each_append P [] ys h k = k
each_append P (x ∷ xs) ys h k = (h.0, each_append P xs ys h.1 k)

each_front : {X : Type 0} (P : X → Type 0) (xs ys : List X) → EachIs P (xs ++ ys) → EachIs P xs
each_front P [] ys h = tt
each_front P (x ∷ xs) ys h = (h.0, each_front P xs ys h.1)

each_back : {X : Type 0} (P : X → Type 0) (xs ys : List X) → EachIs P (xs ++ ys) → EachIs P ys
each_back P [] ys h = h
each_back P (x ∷ xs) ys h = each_back P xs ys h.1

pub each_all : {X : Type 0} (P : X → Type 0) (xs : List X) → All P xs → EachIs P xs
each_all P [] all = tt
each_all P (x ∷ xs) all = (All-head P x xs all, each_all P xs (All-tail P x xs all))

all_each : {X : Type 0} (P : X → Type 0) (xs : List X) → EachIs P xs → All P xs
all_each P [] h = All-nil P
all_each P (x ∷ xs) h = All-cons P x xs h.0 (all_each P xs h.1)

each_permuted : {X : Type 0} (P : X → Type 0) (xs ys : List X) → IsPermutation xs ys →
    EachIs P xs → EachIs P ys
each_permuted P xs ys same h = each_all P ys (All-permutation P xs ys same (all_each P xs h))

-- those in front of a permutation, and those behind
pub each_given : {X : Type 0} (P : X → Type 0) (xs front back : List X) →
    IsPermutation xs (front ++ back) → EachIs P xs → EachIs P front
each_given P xs front back same h =
    each_front P front back (each_permuted P xs (front ++ back) same h)

pub each_left : {X : Type 0} (P : X → Type 0) (xs front back : List X) →
    IsPermutation xs (front ++ back) → EachIs P xs → EachIs P back
each_left P xs front back same h =
    each_back P front back (each_permuted P xs (front ++ back) same h)
