-- Internal: the clock of a net.
use Rattle.std.specs.Prelude.{ℕ, ◌+◌, ◌-◌, ◌/◌, ◌^◌, ◌<◌, ◌≤◌}
use Rattle.net_real.specs.declared.net.clock.SteadyClock.{SteadyClock}

-- its moment, in seconds since 1970
abbrev pub moment_of : SteadyClock → ℕ
moment_of clock = clock.time / 1000000000

-- how much time went by
abbrev pub passed_in : SteadyClock → SteadyClock → ℕ
passed_in old new = new.read - old.read

-- it went by at most an eighth faster or slower than time, but that it ends at the greatest u64
pub record KeepsPace (old new : SteadyClock) : Type 0 where
  pub fast : new.time ≤ old.time + passed_in old new + passed_in old new / 8
  pub slow : old.time + passed_in old new < 2 ^ 64 →
      old.time + passed_in old new ≤ new.time + passed_in old new / 8
