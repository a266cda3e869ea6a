use Rattle.std.proofs.Common.{◌≡◌, map, take}
use Rattle.std.specs.List.{list_any}
use Rattle.poll_loop.specs.Connections.{works}
use Rattle.poll_loop.proofs.turning.gather.Given as goal

abbrev pub invariant-loop-seat : goal.invariant-loop-seat
invariant-loop-seat g l = record {
  wants : l.wants.items ≡ map (λ s. s.want) (take l.seat-index l.seats);
  some : l.has_some ≡ list_any (λ s. works s.mark) (take l.seat-index l.seats);
}
