-- What each connection of a rehearsal sends: one request behind the other (RFC 9112, section
-- 9.3.2).
use Rattle.std.specs.Prelude.{ℕ, ◌+◌, ◌*◌, ◌%◌, ◌==◌, List, [], ◌++◌, map, codes, decimal}
use Rattle.std.specs.Prelude.{if◌then◌else◌}
use Rattle.std.specs.List.{concat, range_with_len}

-- how many requests a connection sends, by its number from 0
abbrev pub request_count : ℕ → ℕ
request_count connection = 1 + connection % 4

-- how many bytes the body of a request has, by its number from 0
abbrev pub body_length : ℕ → ℕ → ℕ
body_length connection number = (37 * connection + 11 * number) % 300

-- byte number `place` of that body, a small letter
abbrev pub body_byte : ℕ → ℕ → ℕ → ℕ
body_byte connection number place = 97 + (connection + number + place) % 26

abbrev pub body_of : ℕ → ℕ → List ℕ
body_of connection number =
    map (body_byte connection number) (range_with_len 0 (body_length connection number))

-- the last request closes its connection
unfoldable pub closing_line : ℕ → ℕ → List ℕ
closing_line connection number =
    if number + 1 == request_count connection then codes "Connection: close\r\n" else []

abbrev pub target : ℕ → ℕ → List ℕ
target connection number = codes "/c" ++ (decimal connection ++ (codes "/r" ++ decimal number))

unfoldable pub request_line : ℕ → ℕ → List ℕ
request_line connection number = codes "POST " ++ (target connection number ++ codes
    " HTTP/1.1\r\n")

abbrev pub length_line : ℕ → ℕ → List ℕ
length_line connection number =
    codes "Content-Length: " ++ (decimal (body_length connection number) ++ codes "\r\n")

unfoldable pub field_lines : ℕ → ℕ → List ℕ
field_lines connection number =
    codes "Host: rehearsal\r\n" ++ (length_line connection number ++ closing_line connection number)

unfoldable pub head_of : ℕ → ℕ → List ℕ
head_of connection number =
    request_line connection number ++ (field_lines connection number ++ codes "\r\n")

unfoldable pub request_of : ℕ → ℕ → List ℕ
request_of connection number = head_of connection number ++ body_of connection number

-- all that a connection sends
unfoldable pub input_of : ℕ → List ℕ
input_of connection = concat (map (request_of connection)
    (range_with_len 0 (request_count connection)))
