use Rattle.std.proofs.Common.{◌≡◌, ◌++◌, map}
use Rattle.std.specs.List.{range_with_len}
use Rattle.rehearsal.specs.Requests.{body_byte}
use Rattle.rehearsal.proofs.requests.push_body.Given as goal

abbrev pub invariant-loop-place : goal.invariant-loop-place
invariant-loop-place l =
    l.text.items ≡ l.fn.text.items ++ map (body_byte l.connection l.number)
    (range_with_len 0 l.place)
