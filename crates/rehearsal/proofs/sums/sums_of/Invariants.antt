-- Each number is that of the entries so far.
use Rattle.std.proofs.Common.{◌≡◌, length, take}
use Rattle.std.specs.List.{count_by, sum, sum_by}
use Rattle.rehearsal.specs.Sums.{capped, is_done, requests_of}
use Rattle.rehearsal.proofs.sums.sums_of.Given as goal

abbrev pub invariant-loop-entry : goal.invariant-loop-entry
invariant-loop-entry l = record {
  connections : l.sums.connections ≡ length l.entries;
  requests : l.sums.requests ≡ capped (sum_by requests_of (take l.entry-index l.entries));
  bytes_in : l.sums.bytes_in ≡ capped (sum_by (λ e. length e.link.state.arrivals)
      (take l.entry-index l.entries));
  bytes_out : l.sums.bytes_out ≡ capped (sum_by (λ e. length e.link.state.sent)
      (take l.entry-index l.entries));
  sent_sum : l.sums.sent_sum ≡ capped (sum_by (λ e. sum e.link.state.sent)
      (take l.entry-index l.entries));
  done : l.sums.done ≡ capped (count_by (λ e. is_done e.end) (take l.entry-index l.entries));
}
