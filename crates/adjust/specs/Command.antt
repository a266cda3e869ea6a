-- What a command line asks for, or what is wrong with it.
use Rattle.std.specs.Prelude.{◌≡◌, ◌⊎◌, ℕ, Bool, true, false, not, ◌&&◌, ◌||◌, nat_le, List, []}
use Rattle.std.specs.Prelude.{◌∷◌, position, find, codes, slice_get, unwrap_or, Option, None, Some}
use Rattle.std.specs.Prelude.{is_some, option_map, option_and_then, Result, Ok, Err, if◌then◌else◌}
use Rattle.std.specs.Borrow.{Bor}
use Rattle.std.specs.List.{filter_map}
use Rattle.std.specs.Option.{option_map_or, option_or}
use Rattle.std.specs.Str.{bytes_eq}
use Rattle.byte_tables.specs.Classes.{is_visible}
use Rattle.outside.specs.declared.types.Kind.{Kind}
use Rattle.outside.specs.declared.types.Kind.TheVariants.{Proto}
use Rattle.clap.specs.Words.{Row as Found, first_of}
use Rattle.adjust.specs.CommandLine.{are_taken, given}
use Rattle.adjust.specs.Lists.{are_kinds, bad_entry, kinds, listen_of, parts}
use Rattle.adjust.specs.Options.{Row, option_rows}
use Rattle.adjust.specs.Values.{host, is_field_text, is_proxy, is_scheme, is_some_of, number, path}
use Rattle.adjust.specs.declared.options.Form.{Form}
use Rattle.adjust.specs.declared.options.Form.TheVariants as form
use Rattle.adjust.specs.declared.types.Adjustments.{Adjustments}
use Rattle.adjust.specs.declared.types.AppName.{AppName}
use Rattle.adjust.specs.declared.types.AppName.TheVariants.{Echo, Table, Dir}
use Rattle.adjust.specs.declared.types.Command.{Command}
use Rattle.adjust.specs.declared.types.Command.TheVariants.{Serve, Check, Rehearse, Help}
use Rattle.adjust.specs.declared.types.UsageFault.{UsageFault}
use Rattle.adjust.specs.declared.types.UsageFault.TheVariants as fault

-- ---- what is given, by the names of options and operands

-- a value, as it is written
abbrev pub value : List Found → List ℕ → Option (List ℕ)
value words name = first_of name words

abbrev pub is_on : List Found → List ℕ → Bool
is_on words name = option_map_or (λ text. bytes_eq text (codes "true")) (value words name) false

abbrev pub is_given : List Found → List ℕ → Bool
is_given words name = is_some (value words name)

-- the row of an option, its place from 0, and its default
abbrev pub has_name : List ℕ → Row → Bool
has_name name row = bytes_eq row.name name

abbrev pub place_of : List ℕ → ℕ
place_of name = unwrap_or (position (has_name name) option_rows) 0

abbrev pub default_of : List ℕ → List ℕ
default_of name = option_map_or (λ (row : Row). row.default) (find (has_name name) option_rows) []

-- the value, or the default where none is given
abbrev pub text : List Found → List ℕ → List ℕ
text words name = unwrap_or (value words name) (default_of name)

abbrev pub number_at : List Found → List ℕ → ℕ
number_at words name = unwrap_or (number (text words name)) 0

-- a text that may be there, as bytes
abbrev pub now_of : Option (Bor (List ℕ)) → Option (List ℕ)
now_of = option_map (λ text. text.now)

-- ---- faults

-- whether a value that has bytes is of a form that is no number and no list of addresses
abbrev pub fits : Form → List ℕ → Bool
fits form.Host value = is_some (host value)
fits form.Proxy value = is_proxy value
fits form.Kinds value = are_kinds value
fits form.Scheme value = is_scheme value
fits form.Path value = is_some_of is_visible value
fits form.Name value = is_some_of is_visible value
fits form.FieldText value = is_field_text value
fits _ value = true

abbrev pub range_fault : ℕ → ℕ → ℕ → Option ℕ → Option UsageFault
range_fault place low high None = Some (fault.BadNumber place)
range_fault place low high (Some n) =
    if nat_le low n && nat_le n high then None else Some (fault.OutOfRange place)

abbrev pub fit_fault : ℕ → Form → List ℕ → Option UsageFault
fit_fault place form value = if fits form value then None else Some (fault.BadValue place)

-- what is wrong with the value of the option at this place
abbrev pub form_fault : ℕ → Form → List ℕ → Option UsageFault
form_fault place (form.Number low high) value = range_fault place low high (number value)
form_fault place form.Addresses value = option_map (λ k. fault.BadListen k)
    (bad_entry (parts false value))
form_fault place form value = fit_fault place form value

abbrev pub value_fault : ℕ → Form → List ℕ → Option UsageFault
value_fault place form [] = Some (fault.BadValue place)
value_fault place form (b ∷ bs) = form_fault place form (b ∷ bs)

abbrev pub row_fault : List Found → Row → Option UsageFault
row_fault words row =
    option_and_then (value_fault (place_of row.name) row.form) (value words row.name)

-- the first fault of a value, in the order of the table
unfoldable pub first_value_fault : List Found → Option UsageFault
first_value_fault words = slice_get (filter_map (row_fault words) option_rows) 0

-- the addresses are given by `listen` or by `host` and `port`
abbrev pub listen_both_ways : List Found → Option UsageFault
listen_both_ways words =
    if is_given words (codes "listen") && (is_given words (codes "host") || is_given words
    (codes "port"))
    then Some (fault.BothWays (place_of (codes "listen"))) else None

abbrev pub clear_both_ways : List Found → Option UsageFault
clear_both_ways words =
    if is_on words (codes "clear-untrusted-proxy-headers") && is_on words
    (codes "no-clear-untrusted-proxy-headers")
    then Some (fault.BothWays (place_of (codes "clear-untrusted-proxy-headers"))) else None

abbrev pub proxy_alone : List Found → List ℕ → Option UsageFault
proxy_alone words name =
    if is_given words name && not (is_given words (codes "trusted-proxy"))
    then Some (fault.ProxyAlone (place_of name)) else None

unfoldable pub first_fault : List Found → Option UsageFault
first_fault words =
    option_or (option_or (option_or (option_or (first_value_fault words)
    (listen_both_ways words))
    (clear_both_ways words))
    (proxy_alone words (codes "trusted-proxy-count")))
    (proxy_alone words (codes "trusted-proxy-headers"))

-- ---- commands

-- a proxy is trusted with the scheme alone, where no kinds are given
abbrev pub default_kinds : Bool → List Kind
default_kinds trusted = if trusted then Proto ∷ [] else []

abbrev pub trusted_kinds : List Found → List Kind
trusted_kinds words =
    option_map_or kinds (value words (codes "trusted-proxy-headers"))
    (default_kinds (is_given words (codes "trusted-proxy")))

abbrev pub host_of : List ℕ → List ℕ
host_of text = unwrap_or (host text) []

abbrev pub trusted_proxy : List Found → Option (List ℕ)
trusted_proxy words = value words (codes "trusted-proxy")

abbrev pub serve_limit : List Found → Option ℕ
serve_limit words = option_and_then number (value words (codes "serve-limit"))

unfoldable pub adjustments_of : List Found → Adjustments
adjustments_of words = record {
  host = host_of (text words (codes "host"));
  port = number_at words (codes "port");
  listen = listen_of (text words (codes "listen"));
  threads = number_at words (codes "threads");
  trusted_proxy = trusted_proxy words;
  trusted_proxy_count = number_at words (codes "trusted-proxy-count");
  trusted_proxy_headers = trusted_kinds words;
  clear_untrusted_proxy_headers = not (is_on words (codes "no-clear-untrusted-proxy-headers"));
  url_scheme = text words (codes "url-scheme");
  url_prefix = path (text words (codes "url-prefix"));
  server_name = text words (codes "server-name");
  ident = text words (codes "ident");
  backlog = number_at words (codes "backlog");
  recv_bytes = number_at words (codes "recv-bytes");
  inbuf_overflow = number_at words (codes "inbuf-overflow");
  outbuf_overflow = number_at words (codes "outbuf-overflow");
  outbuf_high_watermark = number_at words (codes "outbuf-high-watermark");
  connection_limit = number_at words (codes "connection-limit");
  cleanup_interval = number_at words (codes "cleanup-interval");
  channel_timeout = number_at words (codes "channel-timeout");
  max_request_header_size = number_at words (codes "max-request-header-size");
  max_request_body_size = number_at words (codes "max-request-body-size");
  channel_request_lookahead = number_at words (codes "channel-request-lookahead");
  serve_limit = serve_limit words;
}

-- an operand of one byte at least
abbrev pub operand : Option (List ℕ) → Option (List ℕ)
operand None = None
operand (Some []) = None
operand (Some (b ∷ bs)) = Some (b ∷ bs)

-- an application that has an operand
abbrev pub named_by : (List ℕ → AppName) → Option (List ℕ) → Result AppName UsageFault
named_by make None = Err fault.Operands
named_by make (Some name) = Ok (make name)

abbrev pub application : List ℕ → Option (List ℕ) → Result AppName UsageFault
application name text =
    if bytes_eq name (codes "echo") then (if is_some text then Err fault.Operands else Ok Echo)
    else if bytes_eq name (codes "table") then named_by (λ file. Table file) (operand text)
    else if bytes_eq name (codes "dir") then named_by (λ root. Dir root) (operand text)
    else Err fault.BadApplication

abbrev pub application_of : List Found → Result AppName UsageFault
application_of words =
    option_map_or (λ name. application name (value words (codes "ARG"))) (value words (codes "APP"))
    (Err fault.NoApplication)

abbrev pub served : List Found → Result AppName UsageFault → Result Command UsageFault
served words (Err fault) = Err fault
served words (Ok app) = Ok (Serve (adjustments_of words) app)

-- what is asked for where no option is at fault
unfoldable pub asked : List Found → Result Command UsageFault
asked words =
    if is_on words (codes "check") then Ok (Check (adjustments_of words))
    else if is_given words (codes "rehearse") then Ok (Rehearse
    (number_at words (codes "rehearse")))
    else served words (application_of words)

unfoldable pub decided : List Found → Result Command UsageFault
decided words =
    if is_on words (codes "help") then Ok Help
    else option_map_or (λ f. Err f) (first_fault words) (asked words)

-- what the words behind the program's name ask for
unfoldable pub command : List (List ℕ) → Result Command UsageFault
command words = if are_taken words then decided (given words) else Err fault.Words

-- the answer is this one, or memory was refused
abbrev pub IsOrLacksMemory : Result Command UsageFault → Result Command UsageFault → Type 0
IsOrLacksMemory answer result = (result ≡ answer) ⊎ (result ≡ Err fault.NoMemory)
