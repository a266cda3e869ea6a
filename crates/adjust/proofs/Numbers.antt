-- A number that a u64 has, or has not.
use Rattle.std.proofs.Common.{◌≡◌, ◌<◌, ◌≤◌, ℕ, Option, None, Some, ap, cond, sym, ◌∙◌}
use Rattle.std.proofs.Common.{arith}
use Rattle.std.specs.Prelude.{◌^◌, SomeIff}
use Rattle.std.proofs.lemmas.Bool.{le-ltb, lt-ltb}
use Rattle.adjust.specs.Values.{as_u64}

is_small : (n : ℕ) → n < 18446744073709551616 → as_u64 n ≡ Some n
is_small n l = ap (λ t. cond t (Some n) None) (lt-ltb n 18446744073709551616 l)

is_large : (n : ℕ) → 18446744073709551616 ≤ n → as_u64 n ≡ None
is_large n l = ap (λ t. cond t (Some n) None) (le-ltb n 18446744073709551616 l)

-- what is read of digits is their number, where a u64 has it
pub read_u64 : (r : Option ℕ) (n : ℕ) → SomeIff r (n < 2 ^ 64) n → r ≡ as_u64 n
read_u64 None n none = sym (is_large n (omega (arith, none)))
read_u64 (Some m) n some = ap Some some.1 ∙ sym (is_small n some.0)
