-- What is counted of connections that were retired.
use Rattle.std.specs.Prelude.{ℕ, ◌-◌, ◌^◌, Bool, true, false, List, length, min}
use Rattle.std.specs.List.{count_by, sum, sum_by}
use Rattle.outside.specs.declared.mem_link.MemLink.{MemLink}
use Rattle.outside.specs.declared.retired.Retired.{Retired}
use Rattle.outside.specs.declared.types.End.{End}
use Rattle.outside.specs.declared.types.End.TheVariants as over
use Rattle.rehearsal.specs.Requests.{request_count}
use Rattle.rehearsal.specs.declared.sums.Sums.{Sums}

-- a number of 64 bits stands still at the greatest one
abbrev pub capped : ℕ → ℕ
capped n = min n (2 ^ 64 - 1)

-- how many requests the connection of an entry sends, whose number its peer's port tells
abbrev pub requests_of : Retired MemLink → ℕ
requests_of entry = request_count (entry.peer.port - 1024)

-- all that it is owed was sent
abbrev pub is_done : End → Bool
is_done over.Done = true
is_done over.LinkFault = false
is_done over.SpillFault = false
is_done over.AppFault = false
is_done over.NoMemory = false
is_done (over.TimedOut touched now) = false
is_done over.ShutDown = false

unfoldable pub sums_of : List (Retired MemLink) → Sums
sums_of entries = record {
  connections = length entries;
  requests = capped (sum_by requests_of entries);
  bytes_in = capped (sum_by (λ e. length e.link.state.arrivals) entries);
  bytes_out = capped (sum_by (λ e. length e.link.state.sent) entries);
  sent_sum = capped (sum_by (λ e. sum e.link.state.sent) entries);
  done = capped (count_by (λ e. is_done e.end) entries);
}
