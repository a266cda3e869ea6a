-- What is believed of the headers of proxies.
use Rattle.std.specs.Prelude.{ℕ, Bool, List, ◌++◌, codes, Option, None, Some, option_map}
use Rattle.std.specs.Prelude.{option_and_then, Result, Ok, Err, if◌then◌else◌}
use Rattle.std.specs.Str.{str_eq_ignore_ascii_case}
use Rattle.head_grammar.specs.declared.types.Field.{Field}
use Rattle.outside.specs.declared.types.Kind.{Kind}
use Rattle.outside.specs.declared.types.Kind.TheVariants.{For, Host, Proto, Port, By}
use Rattle.outside.specs.declared.types.Peer.{Peer}
use Rattle.proxy_trust.specs.Endpoints.{endpoint, is_port}
use Rattle.outside.specs.Kinds.{kind_name}
use Rattle.proxy_trust.specs.Kept.{host_name, kept_fields, new_field}
use Rattle.proxy_trust.specs.Lists.{listed}
use Rattle.proxy_trust.specs.Rules.{used}
use Rattle.proxy_trust.specs.declared.reading.ClientList.{ClientList}
use Rattle.proxy_trust.specs.declared.reading.HostList.{HostList}
use Rattle.proxy_trust.specs.declared.reading.ProxyHeaders.{ProxyHeaders}
use Rattle.proxy_trust.specs.declared.reading.Scheme.{Scheme}
use Rattle.proxy_trust.specs.declared.reading.SentScheme.{SentScheme}
use Rattle.proxy_trust.specs.declared.reading.Scheme.TheVariants.{Http, Https}
use Rattle.proxy_trust.specs.declared.types.ProxyRules.{ProxyRules}
use Rattle.proxy_trust.specs.declared.types.Trusted.{Trusted}

infixl 10 ◌>>=◌
abbrev pub ◌>>=◌ : {A B : Type 0} → Result A Kind → (A → Result B Kind) → Result B Kind
Ok a >>= f = f a
Err kind >>= f = Err kind

-- what a value says, or that a header of this kind is malformed
abbrev pub formed : {A : Type 0} → Kind → Option A → Result (Option A) Kind
formed kind None = Err kind
formed kind (Some a) = Ok (Some a)

-- the same of a header that may be there or not
abbrev pub read : {A : Type 0} → Kind → (List ℕ → Option A) → Option (List ℕ) →
    Result (Option A) Kind
read kind form None = Ok None
read kind form (Some value) = formed kind (form value)

-- X-Forwarded-For: a list of clients
abbrev pub clients : ℕ → List ℕ → Option ClientList
clients count value = option_and_then
    (λ list. option_map (λ from. record { kept = list.kept; from = from }) (endpoint list.chosen))
    (listed count value)

-- X-Forwarded-Host: a list of hosts
abbrev pub hosts : ℕ → List ℕ → Option HostList
hosts count value = option_and_then
    (λ list. option_map
    (λ host. record { kept = list.kept; field = list.chosen; host = host })
    (endpoint list.chosen))
    (listed count value)

-- http or https, letters being compared without case
abbrev pub scheme : List ℕ → Option Scheme
scheme value =
    if str_eq_ignore_ascii_case value (codes "http") then Some Http
    else if str_eq_ignore_ascii_case value (codes "https") then Some Https
    else None

-- X-Forwarded-Proto: a scheme
abbrev pub proto : List ℕ → Option SentScheme
proto value = option_map (λ scheme. record { kept = value; scheme = scheme }) (scheme value)

-- X-Forwarded-Port: a port
abbrev pub port : List ℕ → Option (List ℕ)
port value = if is_port value then Some value else None

-- X-Forwarded-By: a list of anything
abbrev pub by : ℕ → List ℕ → Option (List ℕ)
by count value = option_map (λ list. list.kept) (listed count value)

-- a scheme's name and default port (RFC 9110, sections 4.2.1 and 4.2.2)
abbrev pub scheme_name : Scheme → List ℕ
scheme_name Http = codes "http"
scheme_name Https = codes "https"

abbrev pub default_port : Scheme → List ℕ
default_port Http = codes "80"
default_port Https = codes "443"

-- the port that was asked: the one that is told, else that of the host, else the scheme's
abbrev pub server_port : Option (List ℕ) → Option (List ℕ) → Option Scheme → Option (List ℕ)
server_port (Some port) host scheme = Some port
server_port None (Some port) scheme = Some port
server_port None None scheme = option_map default_port scheme

-- the new fields
abbrev pub new_fields : ProxyHeaders → List Field
new_fields headers =
    new_field (kind_name For) (option_map (λ clients. clients.kept) headers.clients)
    ++ new_field (kind_name Host) (option_map (λ hosts. hosts.kept) headers.hosts)
    ++ new_field (kind_name Proto) (option_map (λ proto. proto.kept) headers.proto)
    ++ new_field (kind_name Port) headers.port
    ++ new_field (kind_name By) headers.by
    ++ new_field host_name (option_map (λ hosts. hosts.field) headers.hosts)

-- what is made of a request whose proxy headers say this
abbrev pub taken : Bool → List Field → ProxyHeaders → Trusted
taken clear fields headers = record {
  fields = kept_fields clear (new_fields headers) fields;
  addr = option_map (λ clients. clients.from.address) headers.clients;
  port = option_and_then (λ clients. clients.from.port) headers.clients;
  server_name = option_map (λ hosts. hosts.host.address) headers.hosts;
  server_port = server_port headers.port (option_and_then (λ hosts. hosts.host.port) headers.hosts)
      (option_map (λ proto. proto.scheme) headers.proto);
  scheme = option_map (λ proto. scheme_name proto.scheme) headers.proto;
}

-- what the headers say that are believed, or the first malformed one in this order
unfoldable pub read_all : ProxyRules → Peer → List Field → Result ProxyHeaders Kind
read_all rules peer fields = do
  clients ← read For (clients rules.count) (used rules peer fields For)
  hosts ← read Host (hosts rules.count) (used rules peer fields Host)
  proto ← read Proto proto (used rules peer fields Proto)
  port ← read Port port (used rules peer fields Port)
  by ← read By (by rules.count) (used rules peer fields By)
  Ok (record { clients = clients; hosts = hosts; proto = proto; port = port; by = by })

-- the fields that stay and the values that are replaced, or a malformed header
unfoldable pub trusted : ProxyRules → Peer → List Field → Result Trusted Kind
trusted rules peer fields = do
  headers ← read_all rules peer fields
  Ok (taken rules.clear fields headers)
