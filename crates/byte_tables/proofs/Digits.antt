-- The number of some digits, and of one more.
use Rattle.std.proofs.Common.{◌≡◌, ◌<◌, ◌≤◌, ◌*◌, ◌+◌, ℕ, List, length, take, get_or, sym, ◌∙◌, ap}
use Rattle.std.proofs.Common.{arith}
use Rattle.std.specs.Char.{digit_value}
use Rattle.std.specs.Str.Parse.{digits_value}
use Rattle.std.proofs.lemmas.Int.Digits.{digits_value_more}
use Rattle.std.proofs.lemmas.Str.Parse.{digits_value-take-le}

-- the number with one more digit
pub number_more : (ds : List ℕ) (i n : ℕ) → i < length ds → n ≡ digits_value 10 (take i ds) →
    n * 10 + digit_value (get_or ds i 0) ≡ digits_value 10 (take (i + 1) ds)
number_more ds i n l e = ap (λ m. m * 10 + digit_value (get_or ds i 0)) e
    ∙ sym (digits_value_more 10 ds i l)

-- the whole number is no less
pub number_whole : (ds : List ℕ) (i n : ℕ) → i < length ds → n ≡ digits_value 10 (take i ds) →
    n * 10 + digit_value (get_or ds i 0) ≤ digits_value 10 ds
number_whole ds i n l e = let more = number_more ds i n l e in let part =
    digits_value-take-le 10 ds (i + 1) (omega arith) in omega arith
