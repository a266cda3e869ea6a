-- What is printed: the texts of faults, the adjustments and the help.
use Rattle.std.specs.Prelude.{ℕ, Bool, true, false, ◌==◌, List, [], ◌∷◌, ◌++◌, map, codes, decimal}
use Rattle.std.specs.Prelude.{slice_get, Option, None, Some, if◌then◌else◌}
use Rattle.std.specs.List.{concat, list_any}
use Rattle.std.specs.Option.{option_map_or}
use Rattle.outside.specs.declared.types.Listen.{Listen}
use Rattle.outside.specs.Kinds.{kind_name}
use Rattle.adjust.specs.Options.{Row, option_rows}
use Rattle.adjust.specs.declared.options.Field.{Field}
use Rattle.adjust.specs.declared.options.Field.TheVariants as field
use Rattle.adjust.specs.declared.options.Form.{Form}
use Rattle.adjust.specs.declared.options.Form.TheVariants as form
use Rattle.adjust.specs.declared.types.Adjustments.{Adjustments}
use Rattle.adjust.specs.declared.types.UsageFault.{UsageFault}
use Rattle.adjust.specs.declared.types.UsageFault.TheVariants as fault

-- ---- faults

abbrev pub name_at : ℕ → List ℕ
name_at place = option_map_or (λ (row : Row). row.name) (slice_get option_rows place) []

abbrev pub form_at : ℕ → Form
form_at place = option_map_or (λ (row : Row). row.form) (slice_get option_rows place) form.Flag

abbrev pub about : ℕ → List ℕ → List ℕ
about place text = codes "--" ++ (name_at place ++ text)

-- the range of a number
abbrev pub range_text : Form → List ℕ
range_text (form.Number low high) = decimal low ++ (codes " to " ++ decimal high)
range_text _ = []

unfoldable pub fault_text_of : UsageFault → List ℕ
fault_text_of fault.Words = codes "the words could not be read"
fault_text_of (fault.BadValue place) = about place (codes " has a bad value")
fault_text_of (fault.BadNumber place) = about place (codes " needs a whole number")
fault_text_of (fault.OutOfRange place) =
    about place (codes " must be from ") ++ range_text (form_at place)
fault_text_of (fault.BadListen k) =
    codes "--listen entry " ++ (decimal k ++ codes " is not host:port")
fault_text_of (fault.BothWays place) = about place (codes " is given both ways")
fault_text_of (fault.ProxyAlone place) = about place (codes " needs --trusted-proxy")
fault_text_of fault.NoApplication = codes "no application is named"
fault_text_of fault.BadApplication = codes "unknown application"
fault_text_of fault.Operands = codes "wrong number of operands"
fault_text_of fault.NoMemory = codes "out of memory"

-- ---- help

abbrev pub value_mark : Form → List ℕ
value_mark form.Flag = codes "\n"
value_mark _ = codes "=VALUE\n"

abbrev pub help_line : Row → List ℕ
help_line row = codes "  --" ++ (row.name ++ value_mark row.form)

-- how the program is called, and then its options
unfoldable pub help_text_of : List ℕ
help_text_of =
    codes "usage: waitress-serve [options] echo | table FILE | dir ROOT\n"
    ++ concat (map help_line option_rows)

-- ---- the adjustments

-- an address of version 6 stands in brackets before a port
abbrev pub host_text : List ℕ → List ℕ
host_text host =
    if list_any (λ b. b == 58) host then codes "[" ++ (host ++ codes "]") else host

abbrev pub listen_text : Listen → List ℕ
listen_text listen = host_text listen.host ++ (codes ":" ++ decimal listen.port)

-- the items with a byte between each two, or `none`
abbrev pub list_text : {X : Type 0} → (X → List ℕ) → ℕ → List X → List ℕ
list_text text between [] = codes "none"
list_text text between (x ∷ xs) = text x ++ concat (map (λ y. between ∷ text y) xs)

abbrev pub flag_text : Bool → List ℕ
flag_text true = codes "on"
flag_text false = codes "off"

abbrev pub optional_text : Option (List ℕ) → List ℕ
optional_text None = codes "none"
optional_text (Some text) = text

abbrev pub optional_number : Option ℕ → List ℕ
optional_number None = codes "none"
optional_number (Some n) = decimal n

abbrev pub field_text : Adjustments → Field → List ℕ
field_text a field.NotShown = []
field_text a field.Host = host_text a.host
field_text a field.Listen = list_text listen_text 32 a.listen
field_text a field.TrustedProxy = optional_text a.trusted_proxy
field_text a field.TrustedProxyHeaders = list_text kind_name 44 a.trusted_proxy_headers
field_text a field.ClearUntrustedProxyHeaders = flag_text a.clear_untrusted_proxy_headers
field_text a field.UrlScheme = a.url_scheme
field_text a field.UrlPrefix = a.url_prefix
field_text a field.ServerName = a.server_name
field_text a field.Ident = a.ident
field_text a field.ServeLimit = optional_number a.serve_limit
field_text a field.Port = decimal a.port
field_text a field.Threads = decimal a.threads
field_text a field.TrustedProxyCount = decimal a.trusted_proxy_count
field_text a field.Backlog = decimal a.backlog
field_text a field.RecvBytes = decimal a.recv_bytes
field_text a field.InbufOverflow = decimal a.inbuf_overflow
field_text a field.OutbufOverflow = decimal a.outbuf_overflow
field_text a field.OutbufHighWatermark = decimal a.outbuf_high_watermark
field_text a field.ConnectionLimit = decimal a.connection_limit
field_text a field.CleanupInterval = decimal a.cleanup_interval
field_text a field.ChannelTimeout = decimal a.channel_timeout
field_text a field.MaxRequestHeaderSize = decimal a.max_request_header_size
field_text a field.MaxRequestBodySize = decimal a.max_request_body_size
field_text a field.ChannelRequestLookahead = decimal a.channel_request_lookahead

abbrev pub is_shown : Field → Bool
is_shown field.NotShown = false
is_shown _ = true

abbrev pub check_line : Adjustments → Row → List ℕ
check_line a row =
    if is_shown row.field then row.name ++ (codes " = " ++ (field_text a row.field ++ codes "\n"))
    else []

-- a line for each option that is shown
unfoldable pub check_text_of : Adjustments → List ℕ
check_text_of a = concat (map (check_line a) option_rows)
