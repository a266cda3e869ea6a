-- What an answer keeps: the numbers are in the ranges of their options.
use Rattle.std.specs.Prelude.{◌≡◌, ℕ, ◌≤◌, Bool, true, false, length, IfSome, ⊤}
use Rattle.std.specs.List.{list_any}
use Rattle.outside.specs.declared.types.Kind.{Kind}
use Rattle.outside.specs.declared.types.Kind.TheVariants.{Forwarded}
use Rattle.adjust.specs.declared.types.Adjustments.{Adjustments}
use Rattle.adjust.specs.declared.types.Command.{Command}
use Rattle.adjust.specs.declared.types.Command.TheVariants.{Serve, Check, Rehearse, Help}

pub record IsBetween (low high n : ℕ) : Type 0 where
  pub from : low ≤ n
  pub to : n ≤ high

abbrev pub is_forwarded : Kind → Bool
is_forwarded Forwarded = true
is_forwarded _ = false

-- no kind of header is trusted that no option can name
pub record IsInRange (a : Adjustments) : Type 0 where
  pub port : IsBetween 1 65535 a.port
  pub listen : length a.listen ≤ 16
  pub threads : IsBetween 0 64 a.threads
  pub trusted_proxy_count : IsBetween 1 100 a.trusted_proxy_count
  pub trusted_proxy_headers : list_any is_forwarded a.trusted_proxy_headers ≡ false
  pub backlog : IsBetween 1 65535 a.backlog
  pub recv_bytes : IsBetween 1 1048576 a.recv_bytes
  pub inbuf_overflow : IsBetween 1 1073741824 a.inbuf_overflow
  pub outbuf_overflow : IsBetween 1 1073741824 a.outbuf_overflow
  pub outbuf_high_watermark : IsBetween 0 1073741824 a.outbuf_high_watermark
  pub connection_limit : IsBetween 1 1000 a.connection_limit
  pub cleanup_interval : IsBetween 1 86400 a.cleanup_interval
  pub channel_timeout : IsBetween 1 86400 a.channel_timeout
  pub max_request_header_size : IsBetween 16 16777216 a.max_request_header_size
  pub max_request_body_size : IsBetween 1 1099511627776 a.max_request_body_size
  pub channel_request_lookahead : IsBetween 0 1000 a.channel_request_lookahead
  pub serve_limit : IfSome a.serve_limit (IsBetween 1 1000000000)

abbrev pub KeepsRanges : Command → Type 0
KeepsRanges (Serve adjustments app) = IsInRange adjustments
KeepsRanges (Check adjustments) = IsInRange adjustments
KeepsRanges (Rehearse connections) = IsBetween 1 20000 connections
KeepsRanges Help = ⊤
