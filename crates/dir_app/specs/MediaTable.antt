-- Internal: the table of suffixes as it is searched: each has the number of its type.
use Rattle.std.specs.Prelude.{ℕ, ◌==◌, List, [], ◌∷◌, codes, if◌then◌else◌}
use Rattle.dir_app.specs.Media.{unknown_type}

abbrev pub suffix_rows : List (List ℕ × ℕ)
suffix_rows =
    (codes "html", 0)
    ∷ (codes "htm", 0)
    ∷ (codes "css", 1)
    ∷ (codes "js", 2)
    ∷ (codes "mjs", 2)
    ∷ (codes "txt", 3)
    ∷ (codes "csv", 4)
    ∷ (codes "json", 5)
    ∷ (codes "xml", 6)
    ∷ (codes "pdf", 7)
    ∷ (codes "wasm", 8)
    ∷ (codes "svg", 9)
    ∷ (codes "png", 10)
    ∷ (codes "jpg", 11)
    ∷ (codes "jpeg", 11)
    ∷ (codes "gif", 12)
    ∷ (codes "webp", 13)
    ∷ (codes "woff2", 14)
    ∷ []

unfoldable pub type_at : ℕ → List ℕ
type_at number =
    if number == 0 then codes "text/html; charset=utf-8"
    else if number == 1 then codes "text/css; charset=utf-8"
    else if number == 2 then codes "text/javascript; charset=utf-8"
    else if number == 3 then codes "text/plain; charset=utf-8"
    else if number == 4 then codes "text/csv; charset=utf-8"
    else if number == 5 then codes "application/json"
    else if number == 6 then codes "application/xml"
    else if number == 7 then codes "application/pdf"
    else if number == 8 then codes "application/wasm"
    else if number == 9 then codes "image/svg+xml"
    else if number == 10 then codes "image/png"
    else if number == 11 then codes "image/jpeg"
    else if number == 12 then codes "image/gif"
    else if number == 13 then codes "image/webp"
    else if number == 14 then codes "font/woff2"
    else unknown_type
