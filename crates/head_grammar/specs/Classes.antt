-- White space (RFC 9110, section 5.6.3).
use Rattle.std.specs.Prelude.{ℕ, List, length, take, drop, ◌-◌}
use Rattle.std.specs.List.{prefix_len, suffix_len}
use Rattle.byte_tables.specs.Classes.{is_white_space}

abbrev pub without_space_in_front : List ℕ → List ℕ
without_space_in_front bytes = drop (prefix_len is_white_space bytes) bytes

abbrev pub without_space_behind : List ℕ → List ℕ
without_space_behind bytes = take (length bytes - suffix_len is_white_space bytes) bytes

-- the bytes without the white space at both ends
abbrev pub trimmed : List ℕ → List ℕ
trimmed bytes = without_space_behind (without_space_in_front bytes)
