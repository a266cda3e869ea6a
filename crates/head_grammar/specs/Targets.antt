-- What a request-target names (RFC 9112, section 3.2; RFC 3986, section 3).
use Rattle.std.specs.Prelude.{ℕ, Bool, false, not, ◌&&◌, ◌||◌, ◌==◌, ◌+◌, List, [], ◌∷◌, take, drop}
use Rattle.std.specs.Prelude.{codes, if◌then◌else◌}
use Rattle.std.specs.List.{list_all, prefix_len}
use Rattle.std.specs.Str.{bytes_eq}
use Rattle.byte_tables.specs.Classes.{is_digit, is_letter}
use Rattle.percent_encoding.specs.Percent.{percent_decode}

-- how many bytes stand before the first one that is this, or all where none is
abbrev pub place_or_end : ℕ → List ℕ → ℕ
place_or_end b bytes = prefix_len (λ c. not (c == b)) bytes

abbrev pub before : ℕ → List ℕ → List ℕ
before b bytes = take (place_or_end b bytes) bytes

abbrev pub behind : ℕ → List ℕ → List ℕ
behind b bytes = drop (place_or_end b bytes + 1) bytes

-- a fragment, which follows the first "#", is no part of a request
abbrev pub without_fragment : List ℕ → List ℕ
without_fragment target = before 35 target

-- the query follows the first "?"
unfoldable pub query_of : List ℕ → List ℕ
query_of target = behind 63 (without_fragment target)

-- scheme = ALPHA *( ALPHA / DIGIT / "+" / "-" / "." )
abbrev pub is_scheme_byte : ℕ → Bool
is_scheme_byte b = is_letter b || is_digit b || b == 43 || b == 45 || b == 46

abbrev pub is_scheme : List ℕ → Bool
is_scheme [] = false
is_scheme (b ∷ bs) = is_letter b && list_all is_scheme_byte bs

-- the bytes from the first "/" on
abbrev pub from_slash : List ℕ → List ℕ
from_slash bytes = drop (place_or_end 47 bytes) bytes

-- what stands behind the first ":" and with it
abbrev pub from_colon : List ℕ → List ℕ
from_colon bytes = drop (place_or_end 58 bytes) bytes

-- absolute-form = scheme "://" authority path: the path without what stands in front of it
abbrev pub without_authority : List ℕ → List ℕ
without_authority bytes =
    if is_scheme (before 58 bytes) && bytes_eq (take 3 (from_colon bytes)) (codes "://")
    then from_slash (drop 3 (from_colon bytes)) else bytes

-- the path as it was sent
abbrev pub raw_path : List ℕ → List ℕ
raw_path target = without_authority (before 63 (without_fragment target))

abbrev pub without_slashes : List ℕ → List ℕ
without_slashes path = drop (prefix_len (λ b. b == 47) path) path

-- one slash in front, in place of those that stand there
abbrev pub rooted : List ℕ → List ℕ
rooted path = 47 ∷ without_slashes path

-- the path without its escapes (RFC 3986, section 2.1)
unfoldable pub path_of : List ℕ → List ℕ
path_of target = rooted (percent_decode (raw_path target))
