-- The lines of a head (RFC 9112, sections 2.1 and 2.2).
use Rattle.std.specs.Prelude.{ℕ, List, [], ◌∷◌, ◌&&◌, ◌==◌, ◌-◌, take, length, if◌then◌else◌}
use Rattle.std.specs.List.{onto_first}

-- CR LF, the end of a line
abbrev pub line_mark : List ℕ
line_mark = 13 ∷ 10 ∷ []

-- the lines of a text: CR LF ends each of them, and the last one may stand without
unfoldable pub lines : List ℕ → List (List ℕ)
lines [] = []
lines (b ∷ []) = (b ∷ []) ∷ []
lines (b ∷ c ∷ bs) = if b == 13 && c == 10 then [] ∷ lines bs else onto_first b (lines (c ∷ bs))

-- empty lines in front of the request line are skipped
abbrev pub skip_empty : List (List ℕ) → List (List ℕ)
skip_empty [] = []
skip_empty ([] ∷ rest) = skip_empty rest
skip_empty ((b ∷ bs) ∷ rest) = (b ∷ bs) ∷ rest

-- the request line and the field lines of a whole head, without the empty line at its end
abbrev pub head_lines : List ℕ → List (List ℕ)
head_lines head = skip_empty (lines (take (length head - 2) head))
