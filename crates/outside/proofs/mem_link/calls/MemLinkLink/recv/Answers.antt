use Rattle.std.proofs.Common.{rules, arith, ◌≡◌, ◌≤◌, ◌+◌, ◌++◌, length, take, drop}
use Rattle.outside.specs.Link.{stamped}
use Rattle.outside.proofs.Arrivals.{came_on}
use Rattle.outside.proofs.mem_link.calls.MemLinkLink.recv.Goals as goal

pub invariant_of-self-2 : goal.invariant_of-self-2
invariant_of-self-2 c =
    let i = c.self.invariant in
    let old = c.self.inside.arrivals.items in
    let input = c.self.inside.plan.input in
    let count = c.limited-count.result in
    let more : c.stamp.new.arrivals.items
    ≡ old ++ stamped c.args.now (take count (drop (length old) input)) = search rules in
    let room : length old + count ≤ length input = search rules in
    let kept = came_on c.args.now count _ _ _ room i.came more in
    record {
      no_more = kept.no_more;
      room = omega arith;
      came = kept.came;
      ended = i.ended;
      caused = i.caused;
      recv_put_off = λ off left. i.recv_put_off off (omega arith);
      send_put_off = i.send_put_off;
    }
