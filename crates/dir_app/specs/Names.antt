-- Which files a path may name. No name leads out of the root by its words: no part is "." or "..",
-- none has a
-- NUL or a "\", and none but the last is empty.
use Rattle.std.specs.Prelude.{ℕ, Bool, true, not, ◌&&◌, ◌||◌, ◌==◌, nat_lt, List, [], ◌∷◌, ◌++◌}
use Rattle.std.specs.Prelude.{length, drop, codes, slice_index}
use Rattle.std.specs.List.{after_last, list_any, slice_split}
use Rattle.std.specs.Str.{bytes_eq, is_utf8}

abbrev pub is_slash : ℕ → Bool
is_slash b = b == 47

-- a path without a byte is the root's (RFC 9110, section 4.2.3)
abbrev pub rooted : List ℕ → List ℕ
rooted [] = codes "/"
rooted (b ∷ bs) = b ∷ bs

-- what stands between the slashes of a path, behind its first byte
abbrev pub parts : List ℕ → List (List ℕ)
parts path = slice_split is_slash (drop 1 path)

-- NUL ends a name, and "\" is a slash elsewhere
abbrev pub is_forbidden : ℕ → Bool
is_forbidden b = b == 0 || b == 92

-- a part leads neither to its own folder nor to the one above
abbrev pub is_name : List ℕ → Bool
is_name part =
    not (bytes_eq part (codes ".")) && not (bytes_eq part (codes "..")) && not
    (list_any is_forbidden part)

-- it isn't empty, "." or "..", and has no NUL and no "\"
abbrev pub leads_down : List ℕ → Bool
leads_down part = nat_lt 0 (length part) && is_name part

-- none but the last is empty
abbrev pub are_names : List (List ℕ) → Bool
are_names [] = true
are_names (last ∷ []) = is_name last
are_names (part ∷ next ∷ rest) = nat_lt 0 (length part) && is_name part && are_names (next ∷ rest)

abbrev pub stays_below : List ℕ → Bool
stays_below path = is_utf8 path && slice_index path 0 == 47 && are_names (parts path)

-- the page of a folder, where a path ends with a slash
abbrev pub page : List ℕ → List ℕ
page [] = codes "index.html"
page (b ∷ bs) = []

-- the name of a file in its folder
abbrev pub last_part : List ℕ → List ℕ
last_part path = let last = after_last is_slash path in last ++ page last

-- the path of a file
abbrev pub path_of : List ℕ → List ℕ
path_of path = path ++ page (after_last is_slash path)
