-- Six numbers as one.
use Rattle.std.proofs.Common.{◌≡◌, ◌≤◌, ◌<◌, ◌+◌, ◌*◌, ◌⊎◌, inl, inr, ℕ, ap}
use Rattle.std.proofs.Common.{◌∙◌, arith, mul-le-mul_right}
use Rattle.std.proofs.Common.{◌^◌, List, [], ◌∷◌, length}
use Rattle.channel.specs.Views.{View}
use Rattle.poll_loop.specs.Lists.{EachIs}
use Rattle.rehearse.specs.Falling.{AreWithin, Falls, IsCounted, Measure, bound_of, measure}
use Rattle.rehearse.specs.Falling.{number_of, sum_of, units_left}

-- a greater number of more places, where the last place is below the bound
higher : (bound a b c d : ℕ) → c < bound → a < b → a * bound + c < b * bound + d
higher bound a b c d low less =
    let more : (1 + a) * bound ≤ b * bound = mul-le-mul_right bound (omega (arith, less)) in
    let one : (1 + a) * bound ≡ bound + a * bound = omega arith in
    omega (arith, more, one, low)

-- the places in front decide, or else the last one
place : (bound a b c d : ℕ) → c < bound → (a < b) ⊎ ((a ≡ b) × (c < d)) →
    a * bound + c < b * bound + d
place bound a b c d low h = elim h [
  | inl less ↦ higher bound a b c d low less
  | inr same ↦ (
      let more = same.1 in
      let front : a * bound ≡ b * bound = ap (λ n. n * bound) same.0 in
      omega (arith, front, more))
]

-- the same, where what is behind the first place that changed isn't known to fall
fall : {P : Type 0} (bound a b c d : ℕ) → c < bound →
    (a < b) ⊎ ((a ≡ b) × ((c < d) ⊎ ((c ≡ d) × P))) →
    (a * bound + c < b * bound + d) ⊎ ((a * bound + c ≡ b * bound + d) × P)
fall bound a b c d low h = elim h [
  | inl less ↦ inl (higher bound a b c d low less)
  | inr same ↦ elim same.1 [
    | inl less ↦ inl (place bound a b c d low (inr (same.0, less)))
    | inr rest ↦ (
        let front : a * bound ≡ b * bound = ap (λ n. n * bound) same.0 in
        let last = rest.0 in
        inr (omega (arith, front, last), rest.1))
  ]
]

pub numbers_fall : (bound : ℕ) (new old : Measure) → AreWithin bound new → Falls new old →
    number_of bound new < number_of bound old
numbers_fall bound new old within falls =
    let two = fall bound new.waiting old.waiting new.channels old.channels within.channels falls in
    let three = fall bound (new.waiting * bound + new.channels) (old.waiting * bound + old.channels)
    new.unread old.unread within.unread two in
    let four = fall bound ((new.waiting * bound + new.channels) * bound + new.unread)
    ((old.waiting * bound + old.channels) * bound + old.unread) new.units old.units within.units
    three in
    let five = fall bound
    (((new.waiting * bound + new.channels) * bound + new.unread) * bound + new.units)
    (((old.waiting * bound + old.channels) * bound + old.unread) * bound + old.units)
    new.steps old.steps within.steps four in
    place bound
    ((((new.waiting * bound + new.channels) * bound + new.unread) * bound + new.units) * bound
    + new.steps)
    ((((old.waiting * bound + old.channels) * bound + old.unread) * bound + old.units) * bound
    + old.steps)
    new.output old.output within.output five

-- ---- the bound

sum_within : (f : View → ℕ) (most : ℕ) (vs : List View) → EachIs (λ v. f v ≤ most) vs →
    sum_of f vs ≤ length vs * most
sum_within f most [] h = omega arith
sum_within f most (v ∷ vs) h =
    let one = h.0 in
    let rest = sum_within f most vs h.1 in
    let more : length (v ∷ vs) * most ≡ most + length vs * most =
    (let l : length (v ∷ vs) ≡ 1 + length vs = omega arith in
    ap (λ n. n * most) l ∙ omega arith) in
    omega (arith, one, rest, more)

each_units : (vs : List View) → EachIs IsCounted vs → EachIs (λ v. units_left v ≤ 2 ^ 65) vs
each_units [] h = tt
each_units (v ∷ vs) h = (let u = h.0.units in omega (arith, u), each_units vs h.1)

each_left : (vs : List View) → EachIs IsCounted vs → EachIs (λ v. v.shown.left ≤ 2 ^ 65) vs
each_left [] h = tt
each_left (v ∷ vs) h = (let u = h.0.left in omega (arith, u), each_left vs h.1)

each_output : (vs : List View) → EachIs IsCounted vs → EachIs (λ v. v.shown.output ≤ 2 ^ 65) vs
each_output [] h = tt
each_output (v ∷ vs) h = (let u = h.0.output in omega (arith, u), each_output vs h.1)

pub numbers_within : (limit whole whole' waiting : ℕ) (vs : List View) → length vs ≤ limit →
    whole' ≤ whole → EachIs IsCounted vs →
    AreWithin (bound_of limit whole) (measure waiting whole' vs)
numbers_within limit whole whole' waiting vs few less h =
    let units = sum_within units_left (2 ^ 65) vs (each_units vs h) in
    let steps = sum_within (λ v. v.shown.left) (2 ^ 65) vs (each_left vs h) in
    let output = sum_within (λ v. v.shown.output) (2 ^ 65) vs (each_output vs h) in
    record {
      channels = omega (arith, few);
      unread = omega (arith, less);
      units = omega (arith, units, few);
      steps = omega (arith, steps, few);
      output = omega (arith, output, few);
    }
