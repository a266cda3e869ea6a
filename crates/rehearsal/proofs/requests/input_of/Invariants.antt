use Rattle.std.proofs.Common.{◌≡◌, map}
use Rattle.std.specs.List.{concat, range_with_len}
use Rattle.rehearsal.specs.Requests.{request_of}
use Rattle.rehearsal.proofs.requests.input_of.Given as goal

abbrev pub invariant-loop-number : goal.invariant-loop-number
invariant-loop-number l =
    l.input.items ≡ concat (map (request_of l.connection) (range_with_len 0 l.number))
