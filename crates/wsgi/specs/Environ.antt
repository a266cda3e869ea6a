-- The environ of a request (PEP 3333, 'environ Variables'; RFC 3875, section 4.1). It lacks the
-- keys that speak of the server's own objects (wsgi.version, .input, .errors, .multithread,
-- .multiprocess, .run_once) and GATEWAY_INTERFACE. Three variables are looser than there:
-- SERVER_NAME of an address of version 6 has no brackets, SCRIPT_NAME is the prefix of any path,
-- and REMOTE_ADDR is any token that a trusted proxy tells.
use Rattle.std.specs.Prelude.{ℕ, Bool, true, not, ◌==◌, ◌&&◌, List, [], ◌∷◌, ◌++◌, length, take}
use Rattle.std.specs.Prelude.{drop, map, codes, decimal, find, Option, Some, option_map, unwrap_or}
use Rattle.std.specs.Prelude.{Result, Ok, if◌then◌else◌}
use Rattle.std.specs.Char.{to_ascii_uppercase}
use Rattle.std.specs.List.{filter, list_any}
use Rattle.std.specs.Option.{option_to_list}
use Rattle.std.specs.Str.{bytes_eq}
use Rattle.head_grammar.specs.FieldLines.{field_value}
use Rattle.head_grammar.specs.declared.types.Field.{Field}
use Rattle.head_grammar.specs.declared.types.Framing.{Framing}
use Rattle.head_grammar.specs.declared.types.Framing.TheVariants.{Chunked}
use Rattle.head_grammar.specs.Heads.{Head}
use Rattle.head_grammar.specs.declared.types.Version.{Version}
use Rattle.head_grammar.specs.declared.types.Version.TheVariants.{Old, New}
use Rattle.outside.specs.declared.types.Kind.{Kind}
use Rattle.outside.specs.declared.types.Peer.{Peer}
use Rattle.proxy_trust.specs.Trust.{◌>>=◌, trusted}
use Rattle.proxy_trust.specs.declared.types.Trusted.{Trusted}
use Rattle.wsgi.specs.declared.site.Site.{Site}

-- the value of the first pair with this name
abbrev pub first_value : List ℕ → List (List ℕ × List ℕ) → Option (List ℕ)
first_value name pairs = option_map (λ pair. pair.1) (find (λ pair. bytes_eq pair.0 name) pairs)

-- whether bytes have "/" in front, or there are none
abbrev pub is_rooted : List ℕ → Bool
is_rooted [] = true
is_rooted (b ∷ _) = b == 47

-- PATH_INFO: the path behind that of the application, where it begins with it
abbrev pub path_info : List ℕ → List ℕ → List ℕ
path_info prefix path =
    if bytes_eq (take (length prefix) path) prefix && is_rooted (drop (length prefix) path)
    then drop (length prefix) path else path

-- CONTENT_LENGTH: of a body in chunks its length once it is decoded, else what the field says
abbrev pub content_length : Framing → List Field → ℕ → Option (List ℕ)
content_length Chunked fields length = Some (decimal length)
content_length _ fields length = field_value (codes "content-length") fields

-- SERVER_PROTOCOL
abbrev pub protocol : Version → List ℕ
protocol Old = codes "HTTP/1.0"
protocol New = codes "HTTP/1.1"

-- a byte of a field name in the name of a variable (RFC 3875, section 4.1.18)
abbrev pub variable_byte : ℕ → ℕ
variable_byte b = if b == 45 then 95 else to_ascii_uppercase b

-- the variable of a field
abbrev pub field_variable : Field → List ℕ × List ℕ
field_variable field = (codes "HTTP_" ++ map variable_byte field.name, field.value)

-- the fields without a variable of their name: the type and length of the body have variables of
-- their own, and its transfer coding has none
abbrev pub is_of_body : List ℕ → Bool
is_of_body name =
    list_any (λ other. bytes_eq name other)
    (codes "content-type" ∷ codes "content-length" ∷ codes "transfer-encoding" ∷ [])

-- the variables of the other fields
abbrev pub field_variables : List Field → List (List ℕ × List ℕ)
field_variables fields = map field_variable (filter (λ field. not (is_of_body field.name)) fields)

-- a variable that has a value or is left out
abbrev pub optional : List ℕ → Option (List ℕ) → List (List ℕ × List ℕ)
optional name value = option_to_list (option_map (λ value. (name, value)) value)

-- what the request line says (RFC 9112, section 3)
abbrev pub line_variables : List ℕ → Head → List (List ℕ × List ℕ)
line_variables prefix head =
    (codes "REQUEST_METHOD", head.method)
    ∷ (codes "SCRIPT_NAME", prefix)
    ∷ (codes "PATH_INFO", path_info prefix head.path)
    ∷ (codes "REQUEST_URI", head.target)
    ∷ (codes "QUERY_STRING", head.query)
    ∷ []

-- what is said of the body
abbrev pub body_variables : Head → ℕ → List (List ℕ × List ℕ)
body_variables head length =
    optional (codes "CONTENT_TYPE") (field_value (codes "content-type") head.fields)
    ++ optional (codes "CONTENT_LENGTH") (content_length head.framing head.fields length)

-- who serves: what trusted proxies tell of it, else what the server knows
abbrev pub server_variables : Site → Peer → Version → Trusted → List (List ℕ × List ℕ)
server_variables site peer version told =
    (codes "SERVER_NAME", unwrap_or told.server_name site.server_name)
    ∷ (codes "SERVER_PORT", unwrap_or told.server_port (decimal peer.local_port))
    ∷ (codes "SERVER_PROTOCOL", protocol version)
    ∷ (codes "SERVER_SOFTWARE", site.ident)
    ∷ []

-- who asks, and by which scheme, in the same way
abbrev pub client_variables : Site → Peer → Trusted → List (List ℕ × List ℕ)
client_variables site peer told =
    (codes "REMOTE_ADDR", unwrap_or told.addr peer.addr)
    ∷ (codes "REMOTE_HOST", unwrap_or told.addr peer.addr)
    ∷ (codes "REMOTE_PORT", unwrap_or told.port (decimal peer.port))
    ∷ (codes "wsgi.url_scheme", unwrap_or told.scheme site.url_scheme)
    ∷ []

-- the environ where trusted proxies tell this
abbrev pub environ_with : Site → Peer → Head → ℕ → Trusted → List (List ℕ × List ℕ)
environ_with site peer head length told =
    line_variables site.url_prefix head
    ++ body_variables head length
    ++ server_variables site peer head.version told
    ++ client_variables site peer told
    ++ field_variables told.fields

-- The environ of a request, whose body has this length once it is decoded, or the kind of the
-- first malformed proxy header. Its order counts.
unfoldable pub environ_of : Site → Peer → Head → ℕ → Result (List (List ℕ × List ℕ)) Kind
environ_of site peer head length = do
  told ← trusted site.rules peer head.fields
  Ok (environ_with site peer head length told)
