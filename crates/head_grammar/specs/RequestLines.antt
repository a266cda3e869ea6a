-- What a request line says (RFC 9112, section 3).
use Rattle.std.specs.Prelude.{ℕ, Bool, not, ◌&&◌, ◌||◌, ◌==◌, List, [], ◌∷◌, length, take, codes}
use Rattle.std.specs.Prelude.{slice_index, Result, Ok, Err, if◌then◌else◌}
use Rattle.std.specs.List.{list_all, slice_split}
use Rattle.std.specs.Str.{bytes_eq}
use Rattle.byte_tables.specs.Classes.{is_between, is_digit, is_target, is_token}
use Rattle.byte_tables.specs.declared.refusal.Refusal.{Refusal}
use Rattle.byte_tables.specs.declared.refusal.Refusal.TheVariants as refusal
use Rattle.head_grammar.specs.Targets.{path_of, query_of}
use Rattle.head_grammar.specs.declared.types.Version.{Version}
use Rattle.head_grammar.specs.declared.types.Version.TheVariants.{Old, New}
use Rattle.head_grammar.specs.Heads.{RequestLine}

-- the parts of a request line, cut at each SP
abbrev pub parts : List ℕ → List (List ℕ)
parts line = slice_split (λ b. b == 32) line

-- method = token (RFC 9110, section 9.1); no method that is served has a lower-case letter
abbrev pub is_method : List ℕ → Bool
is_method part = list_all (λ b. is_token b && not (is_between 97 122 b)) part

-- HTTP-version = HTTP-name "/" DIGIT "." DIGIT (section 2.3)
abbrev pub is_version : List ℕ → Bool
is_version part =
    length part == 8 && bytes_eq (take 5 part) (codes "HTTP/") && is_digit (slice_index part 5)
    && slice_index part 6 == 46 && is_digit (slice_index part 7)

-- 1.1 is served as such, and every other version as 1.0
abbrev pub version_of : List ℕ → Version
version_of part = if bytes_eq part (codes "HTTP/1.1") then New else Old

abbrev pub is_request_target : List ℕ → Bool
is_request_target part = list_all is_target part

-- three parts that aren't empty: the first check that fails, in this order, refuses
abbrev pub request_of : List ℕ → List ℕ → List ℕ → Result RequestLine Refusal
request_of method target version =
    if not (is_method method) then Err refusal.Method
    else (if not (is_version version) then Err refusal.Version
    else (if not (is_request_target target) then Err refusal.Target
    else Ok (record {
      method = method;
      target = target;
      path = path_of target;
      query = query_of target;
      version = version_of version;
    })))

abbrev pub is_empty : List ℕ → Bool
is_empty part = length part == 0

-- request-line = method SP request-target SP HTTP-version
abbrev pub request_of_parts : List (List ℕ) → Result RequestLine Refusal
request_of_parts (method ∷ target ∷ version ∷ []) =
    if is_empty method || is_empty target || is_empty version then Err refusal.RequestLine
    else request_of method target version
request_of_parts _ = Err refusal.RequestLine

unfoldable pub request_line : List ℕ → Result RequestLine Refusal
request_line line = request_of_parts (parts line)
