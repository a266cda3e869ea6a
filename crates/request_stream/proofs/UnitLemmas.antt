-- The units of an input, when more bytes come.
use Rattle.std.proofs.Common.{◌≡◌, ◌≤◌, ◌<◌, ◌+◌, ◌-◌, ℕ, zero, suc, Bool, true, false, List, []}
use Rattle.std.proofs.Common.{◌∷◌, ◌++◌, length, take, drop, map, get_or, None, Some, refl, ap, sym}
use Rattle.std.proofs.Common.{subst, ◌∙◌, cond, arith, length-append, inl, inr}
use Rattle.std.specs.Prelude.{Option, nat_le}
use Rattle.std.proofs.lemmas.Bool.{le-leb, lt-leb}
use Rattle.std.proofs.lemmas.Bool.Decides.{leb_tells}
use Rattle.std.proofs.lemmas.List.{take-append-le, drop-append-le, map-append, length-map}
use Rattle.std.proofs.lemmas.List.{length-take, length-drop, get_or_append_left, append-nil}
use Rattle.std.proofs.lemmas.List.{nil_from_length, take_all}
use Rattle.std.proofs.Math.Seq.{take-append-add}
use Rattle.request_stream.specs.Grammar.{Grammar}
use Rattle.request_stream.specs.declared.types.Limits.{Limits}
use Rattle.head_grammar.specs.Heads.{Head}
use Rattle.head_grammar.specs.declared.types.Parsed.{Parsed}
use Rattle.head_grammar.specs.declared.types.Parsed.TheVariants.{Blank, Good, Bad}
use Rattle.head_grammar.specs.Ends.{head_end}
use Rattle.chunk_body.specs.Bodies.{Body, whole, wrong, partial, IsSettled}
use Rattle.request_stream.specs.Units.{verdict_by, Asked, request, bytes_of, when, body_of, Front}
use Rattle.request_stream.specs.Units.{waits, ends, goes, refusing, refused_body, too_large}
use Rattle.request_stream.specs.Units.{welcome, front_by_body, front_by_head, front_by_end, front}
use Rattle.request_stream.specs.Units.{follow, units_within, units}
use Rattle.request_stream.proofs.BodyLemmas.{IsWithin, body-settled, body-within}

-- a front that no more bytes change
abbrev pub IsFixed : Front → Type 0
IsFixed (waits us) = ⊥
IsFixed (ends us) = Unit {0}
IsFixed (goes us n) = Unit {0}

-- what a front takes is something, and there
abbrev pub Takes : ℕ → Front → Type 0
Takes m (waits us) = Unit {0}
Takes m (ends us) = Unit {0}
Takes m (goes us n) = (0 < n) × (n ≤ m)

-- the units of the front itself
abbrev pub said : Front → List Asked
said (waits us) = us
said (ends us) = us
said (goes us n) = us

pub told_le : (n m : ℕ) → nat_le n m ≡ true → n ≤ m
told_le n m e = elim (leb_tells n m) [
  | inl w ↦ w.1
  | inr w ↦ (let f : nat_le n m ≡ false = w.0 in
      cc)
]

pub length-bytes_of : (x : List (ℕ × ℕ)) → length (bytes_of x) ≡ length x
length-bytes_of x = length-map {B = ℕ} x (λ (p : ℕ × ℕ). p.1)

pub bytes_of-append : (x y : List (ℕ × ℕ)) → bytes_of (x ++ y) ≡ bytes_of x ++ bytes_of y
bytes_of-append x y = map-append (λ (p : ℕ × ℕ). p.1) x y

pub when-append : (x y : List (ℕ × ℕ)) (i : ℕ) → i < length x → when (x ++ y) i ≡ when x i
when-append x y i h =
    let l = length-map {B = ℕ} x (λ (p : ℕ × ℕ). p.0) in
    ap (λ ms. get_or ms i 0) (map-append (λ (p : ℕ × ℕ). p.0) x y)
    ∙ get_or_append_left (map (λ (p : ℕ × ℕ). p.0) x) (map (λ (p : ℕ × ℕ). p.0) y) 0 i
    (omega arith)

-- the bytes among which a head has to end
abbrev pub window : Limits → List (ℕ × ℕ) → List ℕ
window limits x = take (limits.max_head - 1) (bytes_of x)

by_closes : (t : Bool) (us : List Asked) (k m : ℕ) → 0 < k → k ≤ m →
    Takes m (cond t (ends us) (goes us k))
by_closes true us k m low high = tt
by_closes false us k m low high = (low, high)

takes_body : (x : List (ℕ × ℕ)) (n : ℕ) (h : Head) (v : Body) → 0 < n → n ≤ length x →
    IsWithin (length x - n) v → Takes (length x) (front_by_body x n h v)
takes_body x n h (whole k d) low high w = let l : k ≤ length x - n = w in
    by_closes h.closes _ (n + k) (length x) (omega arith) (omega arith)
takes_body x n h (wrong j r) low high w = tt
takes_body x n h (partial d) low high w = tt

by_full : (t : Bool) (us : List Asked) (m : ℕ) → Takes m (cond t (ends us) (waits []))
by_full true us m = tt
by_full false us m = tt

nil_short : (limits : Limits) → 0 < limits.max_head → nat_le limits.max_head 0 ≡ false
nil_short limits h = lt-leb limits.max_head 0 (omega arith)

take_nil : (k : ℕ) (xs : List ℕ) → xs ≡ [] → take k xs ≡ []
take_nil k xs e = take_all k xs (let l : length xs ≡ 0 = ap length e in omega arith) ∙ e

-- two ways to read what is behind, which agree on shorter inputs
follow_same : (f g : List (ℕ × ℕ) → List Asked) (x : List (ℕ × ℕ)) (v : Front) →
    Takes (length x) v →
    ((z : List (ℕ × ℕ)) → length z < length x → f z ≡ g z) → follow f x v ≡ follow g x v
follow_same f g x (waits us) t h = refl
follow_same f g x (ends us) t h = refl
follow_same f g x (goes us n) t h =
    let low = t.0 in let high = t.1 in let l = length-drop n x in
    ap (λ r. us ++ r) (h (drop n x) (omega arith))

-- a front of this input is the front of the longer one
settled_closes : (t : Bool) (us vs : List Asked) (k : ℕ) → us ≡ vs → cond t (ends us) (goes us k)
    ≡ cond t (ends vs) (goes vs k)
settled_closes t us vs k e = ap (λ ws. cond t (ends ws) (goes ws k)) e

settled_body : (x y : List (ℕ × ℕ)) (n : ℕ) (h : Head) (v : Body) → 0 < n → n ≤ length x →
    IsWithin (length x - n) v → IsFixed (front_by_body x n h v) →
    front_by_body (x ++ y) n h v ≡ front_by_body x n h v
settled_body x y n h (whole k d) low high w s =
    let l : k ≤ length x - n = w in
    settled_closes h.closes _ _ (n + k) (ap (λ m. welcome h ++ request h d m ∷ [])
    (when-append x y (n + k - 1) (omega arith)))
settled_body x y n h (wrong j r) low high w s =
    let l : j < length x - n = w in
    ap (λ m. ends (welcome h ++ refused_body h r m ∷ [])) (when-append x y (n + j) (omega arith))
settled_body x y n h (partial d) low high w s = absurd s

fixed_body : (x : List (ℕ × ℕ)) (n : ℕ) (h : Head) (v : Body) → IsFixed (front_by_body x n h v) →
    IsSettled v
fixed_body x n h (whole k d) s = tt
fixed_body x n h (wrong j r) s = tt
fixed_body x n h (partial d) s = s

pub behind-append : (x y : List (ℕ × ℕ)) (n : ℕ) → n ≤ length x → drop n (bytes_of (x ++ y))
    ≡ drop n (bytes_of x) ++ bytes_of y
behind-append x y n high = ap (drop n) (bytes_of-append x y)
    ∙ drop-append-le n (bytes_of x) (bytes_of y) (let l = length-bytes_of x in omega arith)

pub front_of-append : (x y : List (ℕ × ℕ)) (n : ℕ) → n ≤ length x → take n (bytes_of (x ++ y))
    ≡ take n (bytes_of x)
front_of-append x y n high = ap (take n) (bytes_of-append x y)
    ∙ take-append-le n (bytes_of x) (bytes_of y) (let l = length-bytes_of x in omega arith)

-- the window only grows
pub window-append : (limits : Limits) (x y : List (ℕ × ℕ)) →
    (k : ℕ) × (window limits (x ++ y) ≡ window limits x ++ take k (bytes_of y))
window-append limits x y =
    elim (leb_tells (length (bytes_of x)) (limits.max_head - 1)) [
      | inl w ↦
          (let k : ℕ = limits.max_head - 1 - length (bytes_of x) in
          let l : length (bytes_of x) ≤ limits.max_head - 1 = w.1 in
          let sum : limits.max_head - 1 ≡ length (bytes_of x) + k = omega arith in
          let all : window limits x ≡ bytes_of x =
          take_all (limits.max_head - 1) (bytes_of x) l in (
            k,
            ap (take (limits.max_head - 1)) (bytes_of-append x y)
                ∙ (ap (λ m. take m (bytes_of x ++ bytes_of y)) sum
                ∙ (take-append-add (bytes_of x) (bytes_of y) k
                ∙ ap (λ xs. xs ++ take k (bytes_of y)) (sym all))),
          ))
      | inr w ↦
          (let l : limits.max_head - 1 < length (bytes_of x) = w.1 in (
            0,
            ap (take (limits.max_head - 1)) (bytes_of-append x y)
                ∙ (take-append-le (limits.max_head - 1) (bytes_of x) (bytes_of y) (omega arith)
                ∙ sym (append-nil (window limits x))),
          ))
    ]

pub window-full : (limits : Limits) (x y : List (ℕ × ℕ)) → 0 < limits.max_head →
    limits.max_head ≤ length x → window limits (x ++ y) ≡ window limits x
window-full limits x y h full = ap (take (limits.max_head - 1)) (bytes_of-append x y)
    ∙ take-append-le (limits.max_head - 1) (bytes_of x) (bytes_of y) (let l = length-bytes_of x in
    omega arith)

settled_full : (limits : Limits) (x y : List (ℕ × ℕ)) (t : Bool) → nat_le limits.max_head (length x)
    ≡ t → 0 < limits.max_head → head_end (window limits x) ≡ None →
    IsFixed (cond t (ends (too_large limits (when x (limits.max_head - 1)) ∷ [])) (waits [])) →
    front_by_end limits (x ++ y) (head_end (window limits (x ++ y)))
    ≡ cond t (ends (too_large limits (when x (limits.max_head - 1)) ∷ [])) (waits [])
settled_full limits x y false e h none s = absurd s
settled_full limits x y true e h none s =
    let full = told_le limits.max_head (length x) e in
    let more = length-append x y in
    let long : nat_le limits.max_head (length (x ++ y)) ≡ true =
    le-leb limits.max_head (length (x ++ y)) (omega arith) in
    ap (front_by_end limits (x ++ y)) (ap head_end (window-full limits x y h full) ∙ none)
    ∙ (ap (λ t. cond t (ends (too_large limits (when (x ++ y) (limits.max_head - 1)) ∷ []))
    (waits [])) long
    ∙ ap (λ m. ends (too_large limits m ∷ [])) (when-append x y (limits.max_head - 1)
    (omega arith)))

module _ (known : Grammar) where
  takes_head : (limits : Limits) (x : List (ℕ × ℕ)) (n : ℕ) (p : Parsed) → 0 < n → n ≤ length x →
      Takes (length x) (front_by_head limits x n p)
  takes_head limits x n Blank low high = (low, high)
  takes_head limits x n (Bad r v b) low high = tt
  takes_head limits x n (Good h) low high =
      let count : length (drop n (bytes_of x)) ≡ length x - n = length-drop n (bytes_of x)
      ∙ ap (λ m. m - n) (length-bytes_of x) in
      takes_body x n h (body_of limits h.framing (drop n (bytes_of x))) low high
      (subst (λ m. IsWithin m (body_of limits h.framing (drop n (bytes_of x)))) count
      (body-within known limits h.framing (drop n (bytes_of x))))

  pub head_within : (limits : Limits) (x : List (ℕ × ℕ)) (n : ℕ) → head_end (window limits x)
      ≡ Some n → n ≤ length x
  head_within limits x n e =
      let l : n ≤ length (window limits x) = (known.end_within (window limits x) n e).1 in
      let t = length-take (limits.max_head - 1) (bytes_of x) in
      let b = length-bytes_of x in omega arith

  takes_end : (limits : Limits) (x : List (ℕ × ℕ)) (r : Option ℕ) → head_end (window limits x) ≡ r →
      Takes (length x) (front_by_end limits x r)
  takes_end limits x None e = by_full (nat_le limits.max_head (length x)) _ (length x)
  takes_end limits x (Some n) e = let four : 4 ≤ n = (known.end_within (window limits x) n e).0 in
      takes_head limits x n (verdict_by limits (take n (bytes_of x))) (omega arith)
      (head_within limits x n e)

  -- what a front takes is something, and there
  pub front-takes : (limits : Limits) (x : List (ℕ × ℕ)) → Takes (length x) (front limits x)
  unfolding front
  front-takes limits x = takes_end limits x (head_end (window limits x)) refl

  pub front-nil : (limits : Limits) → 0 < limits.max_head → front limits [] ≡ waits []
  unfolding front
  front-nil limits h =
      let e : head_end (take (limits.max_head - 1) []) ≡ None =
      ap head_end (take_nil (limits.max_head - 1) [] refl) ∙ known.no_end in
      ap (front_by_end limits []) e ∙ ap (λ t. cond t
      (ends (too_large limits (when [] (limits.max_head - 1)) ∷ [])) (waits []))
      (nil_short limits h)

  within_nil : (m : ℕ) (limits : Limits) → 0 < limits.max_head → units_within m limits [] ≡ []
  unfolding units_within
  within_nil zero limits h = refl
  within_nil (suc m) limits h = ap (follow (units_within m limits) []) (front-nil limits h)

  nil_is : (limits : Limits) (x : List (ℕ × ℕ)) (m k : ℕ) → 0 < limits.max_head → x ≡ [] →
      units_within m limits x ≡ units_within k limits x
  nil_is limits x m k h e = ap (units_within m limits) e
      ∙ (within_nil m limits h ∙ sym (ap (units_within k limits) e ∙ within_nil k limits h))

  -- any count of bytes that is enough gives the same
  pub within_enough : (m k : ℕ) (limits : Limits) (x : List (ℕ × ℕ)) → 0 < limits.max_head →
      length x ≤ m → length x ≤ k → units_within m limits x ≡ units_within k limits x
  unfolding units_within
  within_enough zero k limits x h a b = nil_is limits x zero k h (nil_from_length x (omega arith))
  within_enough (suc m) zero limits x h a b = nil_is limits x (suc m) zero h
      (nil_from_length x (omega arith))
  within_enough (suc m) (suc k) limits x h a b =
      follow_same (units_within m limits) (units_within k limits) x (front limits x)
      (front-takes limits x) (λ z l. within_enough m k limits z h (omega arith) (omega arith))

  units_suc : (limits : Limits) (a : ℕ × ℕ) (x : List (ℕ × ℕ)) → 0 < limits.max_head →
      units limits (a ∷ x) ≡ follow (units limits) (a ∷ x) (front limits (a ∷ x))
  unfolding units units_within
  units_suc limits a x h =
      follow_same (units_within (length x) limits) (units limits) (a ∷ x) (front limits (a ∷ x))
      (front-takes limits (a ∷ x)) (λ z l. within_enough (length x) (length z) limits z h
      (omega arith) (omega arith))

  pub units-nil : (limits : Limits) → 0 < limits.max_head → units limits [] ≡ []
  unfolding units
  units-nil limits h = within_nil 0 limits h

  -- the definition without a count: the front's units, and those of what is behind
  pub units-step : (limits : Limits) (x : List (ℕ × ℕ)) → 0 < limits.max_head →
      units limits x ≡ follow (units limits) x (front limits x)
  units-step limits [] h = units-nil limits h ∙ sym
      (ap (follow (units limits) []) (front-nil limits h))
  units-step limits (a ∷ x) h = units_suc limits a x h

  pub body_within : (limits : Limits) (x : List (ℕ × ℕ)) (n : ℕ) (h : Head) →
      IsWithin (length x - n) (body_of limits h.framing (drop n (bytes_of x)))
  body_within limits x n h =
      let count : length (drop n (bytes_of x)) ≡ length x - n = length-drop n (bytes_of x)
      ∙ ap (λ m. m - n) (length-bytes_of x) in
      subst (λ m. IsWithin m (body_of limits h.framing (drop n (bytes_of x)))) count
      (body-within known limits h.framing (drop n (bytes_of x)))

  settled_head : (limits : Limits) (x y : List (ℕ × ℕ)) (n : ℕ) (p : Parsed) → 0 < n →
      n ≤ length x → IsFixed (front_by_head limits x n p) → front_by_head limits (x ++ y) n p
      ≡ front_by_head limits x n p
  settled_head limits x y n Blank low high s = refl
  settled_head limits x y n (Bad r v b) low high s =
      ap (λ m. ends (refusing r v b m ∷ [])) (when-append x y (n - 1) (omega arith))
  settled_head limits x y n (Good h) low high s =
      let same : body_of limits h.framing (drop n (bytes_of (x ++ y)))
      ≡ body_of limits h.framing (drop n (bytes_of x)) =
      ap (body_of limits h.framing) (behind-append x y n high)
      ∙ body-settled known limits h.framing (drop n (bytes_of x)) (bytes_of y)
      (fixed_body x n h (body_of limits h.framing (drop n (bytes_of x))) s) in
      ap (front_by_body (x ++ y) n h) same ∙ settled_body x y n h
      (body_of limits h.framing (drop n (bytes_of x))) low high (body_within limits x n h) s

  pub window-still : (limits : Limits) (x y : List (ℕ × ℕ)) (n : ℕ) → head_end (window limits x)
      ≡ Some n → head_end (window limits (x ++ y)) ≡ Some n
  window-still limits x y n e =
      let more = window-append limits x y in
      ap head_end more.1 ∙ known.end_settled (window limits x) (take more.0 (bytes_of y)) n e

  settled_end : (limits : Limits) (x y : List (ℕ × ℕ)) (r : Option ℕ) → 0 < limits.max_head →
      head_end (window limits x) ≡ r → IsFixed (front_by_end limits x r) →
      front_by_end limits (x ++ y) (head_end (window limits (x ++ y))) ≡ front_by_end limits x r
  settled_end limits x y None h e s = settled_full limits x y
      (nat_le limits.max_head (length x)) refl h e s
  settled_end limits x y (Some n) h e s =
      let four : 4 ≤ n = (known.end_within (window limits x) n e).0 in
      let high = head_within limits x n e in
      ap (front_by_end limits (x ++ y)) (window-still limits x y n e)
      ∙ (ap (λ b. front_by_head limits (x ++ y) n (verdict_by limits b))
      (front_of-append x y n high)
      ∙ settled_head limits x y n (verdict_by limits (take n (bytes_of x))) (omega arith) high s)

  -- a front that more bytes don't change
  pub front-settled : (limits : Limits) (x y : List (ℕ × ℕ)) → 0 < limits.max_head →
      IsFixed (front limits x) → front limits (x ++ y) ≡ front limits x
  unfolding front
  front-settled limits x y h s = settled_end limits x y (head_end (window limits x)) h refl s
