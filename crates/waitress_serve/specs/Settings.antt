-- What a server goes by.
use Rattle.adjust.specs.declared.types.Adjustments.{Adjustments}
use Rattle.poll_loop.specs.declared.settings.Settings.{Settings}

-- what a server with these options goes by
abbrev pub settings_for : Adjustments → Settings
settings_for options = record {
  limits = record {
    max_head = options.max_request_header_size;
    max_body = options.max_request_body_size;
    inbuf_overflow = options.inbuf_overflow;
  };
  window = record {
    recv_bytes = options.recv_bytes;
    outbuf_overflow = options.outbuf_overflow;
    high_watermark = options.outbuf_high_watermark;
    lookahead = options.channel_request_lookahead;
    timeout = options.channel_timeout;
  };
  site = record {
    server_name = options.server_name;
    ident = options.ident;
    url_scheme = options.url_scheme;
    url_prefix = options.url_prefix;
    rules = record {
      proxy = options.trusted_proxy;
      count = options.trusted_proxy_count;
      kinds = options.trusted_proxy_headers;
      clear = options.clear_untrusted_proxy_headers;
    };
  };
  connection_limit = options.connection_limit;
  cleanup_interval = options.cleanup_interval;
  serve_limit = options.serve_limit;
}
