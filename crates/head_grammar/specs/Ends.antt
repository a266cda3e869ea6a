-- Where a request head ends (RFC 9112, section 2.1).
use Rattle.std.specs.Prelude.{ℕ, suc, List, [], ◌∷◌, take, Option, None, Some, option_map}
use Rattle.std.specs.Prelude.{if◌then◌else◌}
use Rattle.std.specs.Str.{bytes_eq}

-- CR LF CR LF, the end of the last line and an empty line
abbrev pub head_mark : List ℕ
head_mark = 13 ∷ 10 ∷ 13 ∷ 10 ∷ []

-- the length of the shortest front that ends with CR LF CR LF
unfoldable pub head_end : List ℕ → Option ℕ
head_end [] = None
head_end (b ∷ bs) =
    if bytes_eq (take 4 (b ∷ bs)) head_mark then Some 4 else option_map (λ n. suc n) (head_end bs)
