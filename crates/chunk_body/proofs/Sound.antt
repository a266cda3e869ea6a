-- The numbers of a place stay within their types.
use Rattle.std.proofs.Common.{◌≡◌, ◌≤◌, ◌<◌, ◌+◌, ◌-◌, ◌*◌, ◌^◌, ℕ, zero, suc, true, false, arith}
use Rattle.std.proofs.Common.{inl, inr, ◌⊎◌}
use Rattle.std.specs.Prelude.{if◌then◌else◌, nat_lt, nat_eq}
use Rattle.std.proofs.Math.Nat.{pow-le-pow_right, pow-suc}
use Rattle.std.proofs.lemmas.Grind.{common_steps}
use Rattle.std.proofs.lemmas.Bool.{cases_lt}
use Rattle.byte_tables.specs.Classes.{is_hex, is_field}
use Rattle.chunk_body.specs.Coded.{hex_of, is_blank}
use Rattle.chunk_body.specs.Reading.{mark_step, step, behind_line, behind_digits, data_left}
use Rattle.chunk_body.specs.Reading.{trailer_at, is_last_of_trailer, IsSound, has_ended, line_bytes}
use Rattle.byte_tables.specs.declared.refusal.Refusal.TheVariants.{ChunkSize, ChunkExtension}
use Rattle.byte_tables.specs.declared.refusal.Refusal.TheVariants.{ChunkLineEnd, ChunkEnd}
use Rattle.chunk_body.specs.declared.place.Place.{Place}
use Rattle.chunk_body.specs.declared.place.Place.TheVariants.{LineStart, Digits, Blanks, Extension}
use Rattle.chunk_body.specs.declared.place.Place.TheVariants.{LineCr, Data, DataEnd, DataCr}
use Rattle.chunk_body.specs.declared.place.Place.TheVariants.{Trailer, Over, Refused}
use Rattle.chunk_body.proofs.Choices.{by_cond, apart}

pub digits_below : (n k : ℕ) → n ≤ 15 → k < 16 ^ n → k < 1152921504606846976
digits_below n k l h = let p : 16 ^ n ≤ 16 ^ 15 = pow-le-pow_right {n = 16} (omega arith) l in
    omega (arith, p)

pub digits_within : (n k : ℕ) → n ≤ 16 → k < 16 ^ n → k < 2 ^ 64
digits_within n k l h = let p : 16 ^ n ≤ 16 ^ 16 = pow-le-pow_right {n = 16} (omega arith) l in
    omega (arith, p)

pub digits_more : (n k d : ℕ) → k < 16 ^ n → d < 16 → 16 * k + d < 16 ^ (n + 1)
digits_more n k d h l = let p : 16 ^ suc n ≡ 16 ^ n * 16 = pow-suc 16 n in grind (arith, p)

pub hex_small : (c : ℕ) → is_hex c ≡ true → hex_of c < 16
unfolding hex_of
hex_small c h = grind (arith, common_steps)

mark_small : (m c : ℕ) → mark_step m c < 5
unfolding mark_step
mark_small m c =
    by_cond (λ v. v < 5) (nat_eq c 13) (if nat_eq m 2 then 3 else 1) (if nat_eq c 10
    then (if nat_eq m 1 then 2 else (if nat_eq m 3 then 4 else 0)) else 0)
    (λ _. by_cond (λ v. v < 5) (nat_eq m 2) 3 1 (λ _. omega arith) (λ _. omega arith))
    (λ _. by_cond (λ v. v < 5) (nat_eq c 10) (if nat_eq m 1 then 2
    else (if nat_eq m 3 then 4 else 0)) 0
    (λ _. by_cond (λ v. v < 5) (nat_eq m 1) 2 (if nat_eq m 3 then 4 else 0) (λ _. omega arith)
    (λ _. by_cond (λ v. v < 5) (nat_eq m 3) 4 0 (λ _. omega arith) (λ _. omega arith)))
    (λ _. omega arith))

lt-or-eq : (m n : ℕ) → m ≤ n → (m < n) ⊎ (m ≡ n)
lt-or-eq m n l = elim (cases_lt m n) [ inl w ↦ inl w | inr w ↦ inr (omega arith) ]

-- the property that is kept, unless a line has 1,024 bytes
Kept : ℕ → Place → Type 0
Kept max p = (line_bytes p ≡ 1024 → ⊥) → IsSound max p

behind_line_sound : (max k : ℕ) → 1 ≤ max → k < 2 ^ 64 → IsSound max (behind_line k)
behind_line_sound max zero l h = (omega arith, omega arith)
behind_line_sound max (suc k) l h = (omega arith, h)

data_left_sound : (max left : ℕ) → left < 2 ^ 64 → IsSound max (data_left left)
data_left_sound max zero h = tt
data_left_sound max (suc k) h = (omega arith, h)

below_16 : (n : ℕ) → nat_lt n 16 ≡ true → n + 1 ≤ 16
below_16 n h = grind (arith, common_steps)

less : (n : ℕ) → n < 1024 → (n + 1 ≡ 1024 → ⊥) → n + 1 < 1024
less n l f = elim (lt-or-eq (n + 1) 1024 (omega arith)) [ inl w ↦ w | inr w ↦ absurd (f w) ]

trailer_sound : (max n m : ℕ) → n < max → nat_eq (n + 1) max ≡ false → m < 5 →
    IsSound max (trailer_at (n + 1) m)
trailer_sound max n m l e h =
    by_cond (IsSound max) (nat_eq m 4) Over (Trailer (n + 1) m) (λ _. tt)
    (λ f. let a = apart (n + 1) max e in let b = apart m 4 f in (omega arith, omega arith))

digits_end_sound : (max n k c : ℕ) → n ≤ 17 → k < 2 ^ 64 → Kept max (behind_digits n k c)
unfolding behind_digits Kept
digits_end_sound max n k c l h =
    by_cond (Kept max) (is_blank c) (Blanks n k) (if nat_eq c 59 then Extension n k
    else (if nat_eq c 13 then LineCr n k else Refused ChunkSize)) (λ _ _. (omega arith, h))
    (λ _. by_cond (Kept max) (nat_eq c 59) (Extension n k) (if nat_eq c 13 then LineCr n k
    else Refused ChunkSize) (λ _ _. (omega arith, h))
    (λ _. by_cond (Kept max) (nat_eq c 13) (LineCr n k) (Refused ChunkSize)
    (λ _ _. (omega arith, h)) (λ _ _. tt)))

kept : (max : ℕ) (p : Place) (c : ℕ) → 1 ≤ max → IsSound max p → has_ended p ≡ false →
    is_last_of_trailer max p ≡ false → Kept max (step p c)
unfolding step Kept
kept max LineStart c l s e t =
    by_cond (Kept max) (is_hex c) (Digits 1 (hex_of c)) (Refused ChunkSize)
    (λ h _. (omega arith, hex_small c h)) (λ _ _. tt)
kept max (Digits n k) c l s e t =
    by_cond (Kept max) (is_hex c) (if nat_lt n 16 then Digits (n + 1) (16 * k + hex_of c)
    else Refused ChunkSize) (behind_digits (n + 1) k c)
    (λ h. by_cond (Kept max) (nat_lt n 16) (Digits (n + 1) (16 * k + hex_of c)) (Refused ChunkSize)
    (λ w _. (below_16 n w, digits_more n k (hex_of c) s.1 (hex_small c h))) (λ _ _. tt))
    (λ _. digits_end_sound max (n + 1) k c (omega arith) (digits_within n k s.0 s.1))
kept max (Blanks n k) c l s e t =
    by_cond (Kept max) (is_blank c) (Blanks (n + 1) k) (if nat_eq c 59 then Extension (n + 1) k
    else Refused ChunkSize) (λ _ f. (less n s.0 f, s.1))
    (λ _. by_cond (Kept max) (nat_eq c 59) (Extension (n + 1) k) (Refused ChunkSize)
    (λ _ f. (less n s.0 f, s.1)) (λ _ _. tt))
kept max (Extension n k) c l s e t =
    by_cond (Kept max) (is_field c) (Extension (n + 1) k) (if nat_eq c 13 then LineCr (n + 1) k
    else Refused ChunkExtension) (λ _ f. (less n s.0 f, s.1))
    (λ _. by_cond (Kept max) (nat_eq c 13) (LineCr (n + 1) k) (Refused ChunkExtension)
    (λ _ f. (less n s.0 f, s.1)) (λ _ _. tt))
kept max (LineCr n k) c l s e t =
    by_cond (Kept max) (nat_eq c 10) (behind_line k) (Refused ChunkLineEnd)
    (λ _ _. behind_line_sound max k l s.1) (λ _ _. tt)
kept max (Data left) c l s e t = λ _. data_left_sound max (left - 1) (omega arith)
kept max DataEnd c l s e t = by_cond (Kept max) (nat_eq c 13) DataCr (Refused ChunkEnd) (λ _ _. tt)
    (λ _ _. tt)
kept max DataCr c l s e t = by_cond (Kept max) (nat_eq c 10) LineStart (Refused ChunkEnd)
    (λ _ _. tt) (λ _ _. tt)
kept max (Trailer n m) c l s e t = λ _. trailer_sound max n (mark_step m c) s.0 t (mark_small m c)
kept max Over c l s e t = λ _. tt
kept max (Refused r) c l s e t = λ _. tt

pub step_sound : (max : ℕ) (p : Place) (c : ℕ) → 1 ≤ max → IsSound max p → has_ended p ≡ false →
    is_last_of_trailer max p ≡ false → (line_bytes (step p c) ≡ 1024 → ⊥) → IsSound max (step p c)
unfolding Kept
step_sound max p c l s e t n = kept max p c l s e t n
