-- A body at the front of some bytes, when more bytes come.
use Rattle.std.proofs.Common.{◌≡◌, ◌≤◌, ◌<◌, ℕ, Bool, true, false, List, ◌++◌, length, take, refl}
use Rattle.std.proofs.Common.{ap, ◌∙◌, cond, arith, length-append, inl, inr}
use Rattle.std.specs.Prelude.{nat_le}
use Rattle.std.proofs.lemmas.Bool.{le-leb}
use Rattle.std.proofs.lemmas.Bool.Decides.{leb_tells}
use Rattle.std.proofs.lemmas.List.{take-append-le}
use Rattle.chunk_body.specs.Bodies.{Body, whole, wrong, partial, IsSettled, LiesWithin}
use Rattle.head_grammar.specs.declared.types.Framing.{Framing}
use Rattle.head_grammar.specs.declared.types.Framing.TheVariants.{Empty, Fixed, Chunked}
use Rattle.request_stream.specs.Units.{coded_by, body_of}
use Rattle.request_stream.specs.Grammar.{Grammar}
use Rattle.request_stream.specs.declared.types.Limits.{Limits}

-- what it takes, or the byte that is refused, is among so many bytes
abbrev pub IsWithin : ℕ → Body → Type 0
IsWithin n (whole k d) = k ≤ n
IsWithin n (wrong j r) = j < n
IsWithin n (partial d) = Unit {0}

lies_within : (n : ℕ) (v : Body) → LiesWithin n v → IsWithin n v
lies_within n (whole k d) h = h.1
lies_within n (wrong j r) h = h
lies_within n (partial d) h = tt

fixed_settled : (t : Bool) (n : ℕ) (xs ys : List ℕ) → (t ≡ true → n ≤ length xs) →
    IsSettled (cond t (whole n (take n xs)) (partial xs)) →
    cond (nat_le n (length (xs ++ ys))) (whole n (take n (xs ++ ys))) (partial (xs ++ ys))
    ≡ cond t (whole n (take n xs)) (partial xs)
fixed_settled true n xs ys h s =
    let low : n ≤ length xs = h refl in
    let full : nat_le n (length (xs ++ ys)) ≡ true =
    le-leb n (length (xs ++ ys)) (let l = length-append xs ys in omega arith) in
    ap (λ t. cond t (whole n (take n (xs ++ ys))) (partial (xs ++ ys))) full
    ∙ ap (whole n) (take-append-le n xs ys low)
fixed_settled false n xs ys h s = absurd s

told_le : (n m : ℕ) → nat_le n m ≡ true → n ≤ m
told_le n m e = elim (leb_tells n m) [
  | inl w ↦ w.1
  | inr w ↦ (let f : nat_le n m ≡ false = w.0 in
      cc)
]

fixed_within : (t : Bool) (n : ℕ) (xs : List ℕ) → (t ≡ true → n ≤ length xs) →
    IsWithin (length xs) (cond t (whole n (take n xs)) (partial xs))
fixed_within true n xs h = h refl
fixed_within false n xs h = tt

module _ (known : Grammar) where
  -- a body that is settled stays what it is, whatever comes behind it
  pub body-settled : (limits : Limits) (f : Framing) (xs ys : List ℕ) →
      IsSettled (body_of limits f xs) → body_of limits f (xs ++ ys) ≡ body_of limits f xs
  unfolding body_of
  body-settled limits Empty xs ys s = refl
  body-settled limits (Fixed n) xs ys s = fixed_settled (nat_le n (length xs)) n xs ys
      (told_le n (length xs)) s
  body-settled limits Chunked xs ys s = known.body_settled limits xs ys s

  pub body-within : (limits : Limits) (f : Framing) (xs : List ℕ) →
      IsWithin (length xs) (body_of limits f xs)
  unfolding body_of
  body-within limits Empty xs = omega arith
  body-within limits (Fixed n) xs = fixed_within (nat_le n (length xs)) n xs (told_le n (length xs))
  body-within limits Chunked xs = lies_within (length xs) (coded_by limits xs)
      (known.body_within limits xs)
