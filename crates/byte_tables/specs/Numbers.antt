-- Numbers in decimal digits.
use Rattle.std.specs.Prelude.{ℕ, Bool, List, length, nat_lt, ◌&&◌}
use Rattle.std.specs.List.{list_all}
use Rattle.byte_tables.specs.Classes.{is_digit}

-- 1*DIGIT, as a length is (RFC 9110, section 8.6)
abbrev pub is_number : List ℕ → Bool
is_number text = nat_lt 0 (length text) && list_all is_digit text
