-- The classes of bytes that messages are made of.
use Rattle.std.specs.Prelude.{ℕ, Bool, not, ◌&&◌, ◌||◌, ◌==◌, nat_le, bit_and, codes}
use Rattle.std.specs.List.{list_any}

abbrev pub is_between : ℕ → ℕ → ℕ → Bool
is_between low high b = nat_le low b && nat_le b high

-- ALPHA (RFC 5234, appendix B.1)
abbrev pub is_letter : ℕ → Bool
is_letter b = is_between 65 90 b || is_between 97 122 b

-- DIGIT (RFC 5234, appendix B.1)
abbrev pub is_digit : ℕ → Bool
is_digit b = is_between 48 57 b

-- HEXDIG: a DIGIT, or one of A to F in either case (RFC 5234, appendix B.1 and section 2.3)
abbrev pub is_hex : ℕ → Bool
is_hex b = is_digit b || is_between 65 70 b || is_between 97 102 b

-- SP or HTAB, of which optional white space is made (RFC 9110, section 5.6.3)
abbrev pub is_white_space : ℕ → Bool
is_white_space b = b == 32 || b == 9

-- VCHAR (RFC 5234, appendix B.1)
abbrev pub is_visible : ℕ → Bool
is_visible b = is_between 33 126 b

-- tchar (RFC 9110, section 5.6.2)
abbrev pub is_token : ℕ → Bool
is_token b = list_any (λ c. b == c) (codes "!#$%&'*+-.^_`|~") || is_digit b || is_letter b

-- a byte of field-content: SP, HTAB, VCHAR or obs-text (RFC 9110, section 5.5)
abbrev pub is_field : ℕ → Bool
is_field b = b == 32 || b == 9 || is_visible b || is_between 128 255 b

-- a byte of a request-target, which has no white space (RFC 9112, section 3.2)
abbrev pub is_target : ℕ → Bool
is_target b = is_visible b

-- whether a class's bit is set
abbrev pub is_in : ℕ → ℕ → Bool
is_in class bits = not (bit_and bits class == 0)
