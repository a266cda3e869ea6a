-- The media types of files (RFC 9110, section 8.3.1), by what their names end with.
use Rattle.std.specs.Prelude.{ℕ, ◌==◌, Bool, List, [], ◌∷◌, codes, find, if◌then◌else◌}
use Rattle.std.specs.List.{after_last, list_any}
use Rattle.std.specs.Option.{option_map_or}
use Rattle.std.specs.Str.{str_eq_ignore_ascii_case}

abbrev pub media_rows : List (List ℕ × List ℕ)
media_rows =
    (codes "html", codes "text/html; charset=utf-8")
    ∷ (codes "htm", codes "text/html; charset=utf-8")
    ∷ (codes "css", codes "text/css; charset=utf-8")
    ∷ (codes "js", codes "text/javascript; charset=utf-8")
    ∷ (codes "mjs", codes "text/javascript; charset=utf-8")
    ∷ (codes "txt", codes "text/plain; charset=utf-8")
    ∷ (codes "csv", codes "text/csv; charset=utf-8")
    ∷ (codes "json", codes "application/json")
    ∷ (codes "xml", codes "application/xml")
    ∷ (codes "pdf", codes "application/pdf")
    ∷ (codes "wasm", codes "application/wasm")
    ∷ (codes "svg", codes "image/svg+xml")
    ∷ (codes "png", codes "image/png")
    ∷ (codes "jpg", codes "image/jpeg")
    ∷ (codes "jpeg", codes "image/jpeg")
    ∷ (codes "gif", codes "image/gif")
    ∷ (codes "webp", codes "image/webp")
    ∷ (codes "woff2", codes "font/woff2")
    ∷ []

-- the type of unknown bytes (RFC 2046, section 4.5.1)
abbrev pub unknown_type : List ℕ
unknown_type = codes "application/octet-stream"

abbrev pub is_dot : ℕ → Bool
is_dot b = b == 46

-- what stands behind the last dot, or nothing where there is no dot
abbrev pub suffix : List ℕ → List ℕ
suffix name = if list_any is_dot name then after_last is_dot name else []

-- letters of either case are the same in a suffix
abbrev pub type_of_suffix : List ℕ → List ℕ
type_of_suffix end =
    option_map_or (λ row. row.1) (find (λ row. str_eq_ignore_ascii_case row.0 end) media_rows)
    unknown_type

unfoldable pub media_type : List ℕ → List ℕ
media_type name = type_of_suffix (suffix name)
