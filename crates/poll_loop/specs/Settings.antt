-- What a server goes by.
use Rattle.std.specs.Prelude.{ℕ, Bool, true, nat_lt, Option, None, Some}
use Rattle.channel.specs.Sides.{IsUsable}
use Rattle.channel.specs.declared.shared.Fixed.{Fixed}
use Rattle.outside.specs.declared.types.Peer.{Peer}
use Rattle.proxy_trust.specs.Rules.{IsSound}
use Rattle.request_stream.specs.Reading.{ArePositive}
use Rattle.poll_loop.specs.declared.settings.Settings.{Settings}

-- a request can be read by the limits, a byte can be read and written, and the rules on proxies are
-- sound
pub record AreUsable (settings : Settings) : Type 0 where
  pub positive : ArePositive settings.limits
  pub window : IsUsable settings.window
  pub sound : IsSound settings.site.rules

-- what a connection of this peer is opened with
abbrev pub fixed_by : {A : Type 0} → Settings → A → Peer → Fixed A
fixed_by settings app peer = record {
  app = app;
  site = settings.site;
  peer = peer;
  limits = settings.limits;
  window = settings.window;
}

-- fewer than are to be served
abbrev pub is_below : Option ℕ → ℕ → Bool
is_below None count = true
is_below (Some limit) count = nat_lt count limit
