-- The options of the server.
use Rattle.std.specs.Prelude.{ℕ, List, [], ◌∷◌, codes}
use Rattle.adjust.specs.declared.options.Form.{Form}
use Rattle.adjust.specs.declared.options.Form.TheVariants.{Host, Number, Addresses, Proxy, Kinds}
use Rattle.adjust.specs.declared.options.Form.TheVariants.{Scheme, Path, Name, FieldText, Flag}
use Rattle.adjust.specs.declared.options.Field.{Field}
use Rattle.adjust.specs.declared.options.Field.TheVariants as field
use Rattle.adjust.specs.declared.options.OptionRow.{OptionRow}

-- an option: its name, what its value has to be, what it shows as, and the value that stands where
-- none is given, which is empty where there is none
pub record Row : Type 0 where
  pub name : List ℕ
  pub form : Form
  pub field : Field
  pub default : List ℕ

abbrev pub row : List ℕ → Form → Field → List ℕ → Row
row name form field default = record { name = name; form = form; field = field; default = default }

abbrev pub row_of : OptionRow → Row
row_of option = row option.name.now option.form option.field option.default.now

-- the options, in the order in which they are checked and printed
unfoldable pub option_rows : List Row
option_rows =
    row (codes "host") Host field.Host (codes "0.0.0.0")
    ∷ row (codes "port") (Number 1 65535) field.Port (codes "8080")
    ∷ row (codes "listen") Addresses field.Listen []
    ∷ row (codes "threads") (Number 0 64) field.Threads (codes "4")
    ∷ row (codes "trusted-proxy") Proxy field.TrustedProxy []
    ∷ row (codes "trusted-proxy-count") (Number 1 100) field.TrustedProxyCount (codes "1")
    ∷ row (codes "trusted-proxy-headers") Kinds field.TrustedProxyHeaders []
    ∷ row (codes "clear-untrusted-proxy-headers") Flag field.ClearUntrustedProxyHeaders []
    ∷ row (codes "no-clear-untrusted-proxy-headers") Flag field.NotShown []
    ∷ row (codes "url-scheme") Scheme field.UrlScheme (codes "http")
    ∷ row (codes "url-prefix") Path field.UrlPrefix []
    ∷ row (codes "server-name") Name field.ServerName (codes "waitress.invalid")
    ∷ row (codes "ident") FieldText field.Ident (codes "waitress")
    ∷ row (codes "backlog") (Number 1 65535) field.Backlog (codes "1024")
    ∷ row (codes "recv-bytes") (Number 1 1048576) field.RecvBytes (codes "8192")
    ∷ row (codes "inbuf-overflow") (Number 1 1073741824) field.InbufOverflow (codes "524288")
    ∷ row (codes "outbuf-overflow") (Number 1 1073741824) field.OutbufOverflow (codes "1048576")
    ∷ row (codes "outbuf-high-watermark") (Number 0 1073741824) field.OutbufHighWatermark
    (codes "16777216")
    ∷ row (codes "connection-limit") (Number 1 1000) field.ConnectionLimit (codes "100")
    ∷ row (codes "cleanup-interval") (Number 1 86400) field.CleanupInterval (codes "30")
    ∷ row (codes "channel-timeout") (Number 1 86400) field.ChannelTimeout (codes "120")
    ∷ row (codes "max-request-header-size") (Number 16 16777216) field.MaxRequestHeaderSize
    (codes "262144")
    ∷ row (codes "max-request-body-size") (Number 1 1099511627776) field.MaxRequestBodySize
    (codes "1073741824")
    ∷ row (codes "channel-request-lookahead") (Number 0 1000) field.ChannelRequestLookahead
    (codes "0")
    ∷ row (codes "serve-limit") (Number 1 1000000000) field.ServeLimit []
    ∷ row (codes "rehearse") (Number 1 20000) field.NotShown []
    ∷ row (codes "check") Flag field.NotShown []
    ∷ row (codes "help") Flag field.NotShown []
    ∷ []
