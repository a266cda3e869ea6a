use Rattle.std.proofs.Common.{◌<◌, ◌∙◌, length, arith, refl}
use Rattle.poll_loop.specs.Connections.{IsOpenedBy}
use Rattle.poll_loop.proofs.Entries.{entry_goes_on}
use Rattle.poll_loop.proofs.Shutting.{next_fewer, next_open, next_timely, of_next, shut_next}
use Rattle.poll_loop.proofs.Shutting.{shut_none, taken_first}
use Rattle.poll_loop.proofs.Sifting.{counted_one}
use Rattle.poll_loop.proofs.retiring.shut_down.Goals as goal

pub loop-connections-init : goal.loop-connections-init
loop-connections-init g c = record {
  shuts = shut_none _ _ _ _ _;
  counted = c.requires.counted;
  fallen = refl;
  shelf = c.requires.shelf;
  accepted = refl;
  bind = refl;
  polls = refl;
  plan = refl;
  moment = refl;
}

pub shut_lane-requires-clause-by : goal.shut_lane-requires-clause-by
shut_lane-requires-clause-by g c _ _ =
    let n = c.remove-lane.ensures.len in
    let k = c.loop-connections.connections.seats.ok.0 in
    let some : 0 < length c.loop-connections.connections.seats.items = omega (arith, n, k) in
    let is = taken_first c.loop-connections.connections.seats.items c.remove-lane.new.self.items
    c.remove-lane.result some c.remove-lane.ensures.value c.remove-lane.ensures.items in
    of_next _ _ _ _ _ _ _ c.remove-lane.result _ c.loop-connections.invariant.shuts is
    (IsOpenedBy c.args.settings.now c.args.app.now) c.requires.by

pub shut_lane-requires-clause-live : goal.shut_lane-requires-clause-live
shut_lane-requires-clause-live g c _ _ tells =
    let n = c.remove-lane.ensures.len in
    let k = c.loop-connections.connections.seats.ok.0 in
    let some : 0 < length c.loop-connections.connections.seats.items = omega (arith, n, k) in
    let is = taken_first c.loop-connections.connections.seats.items c.remove-lane.new.self.items
    c.remove-lane.result some c.remove-lane.ensures.value c.remove-lane.ensures.items in
    next_open _ _ _ _ _ _ _ c.remove-lane.result _ c.loop-connections.invariant.shuts is
    (c.requires.room tells) tells

pub shut_lane-requires-clause-timely : goal.shut_lane-requires-clause-timely
shut_lane-requires-clause-timely g c _ _ tells link_tells =
    let n = c.remove-lane.ensures.len in
    let k = c.loop-connections.connections.seats.ok.0 in
    let some : 0 < length c.loop-connections.connections.seats.items = omega (arith, n, k) in
    let is = taken_first c.loop-connections.connections.seats.items c.remove-lane.new.self.items
    c.remove-lane.result some c.remove-lane.ensures.value c.remove-lane.ensures.items in
    next_timely _ _ _ _ _ _ _ c.remove-lane.result _ c.loop-connections.invariant.shuts is
    (c.requires.timely tells) tells link_tells

pub loop-connections-preserved : goal.loop-connections-preserved
loop-connections-preserved g c =
    let n = c.remove-lane.ensures.len in
    let k = c.loop-connections.connections.seats.ok.0 in
    let some : 0 < length c.loop-connections.connections.seats.items = omega (arith, n, k) in
    let is = taken_first c.loop-connections.connections.seats.items c.remove-lane.new.self.items
    c.remove-lane.result some c.remove-lane.ensures.value c.remove-lane.ensures.items in
    let held = c.loop-connections.invariant in
    record {
      shuts = shut_next _ _ _ _ _ _ _ c.remove-lane.result _ held.shuts is
          (g.N.Net.state c.shut_lane.new.net)
          (entry_goes_on _ _ _ _ (g.N.Net.state c.loop-connections.net)
          (g.N.Net.state c.shut_lane.new.net)) c.shut_lane.ensures.shuts;
      counted = counted_one c.args.settings.now.serve_limit c.loop-connections.connections.accepted
          c.loop-connections.connections.retired c.one_more-connections.result
          (length c.loop-connections.connections.seats.items) (length c.remove-lane.new.self.items)
          held.counted (next_fewer _ _ _ _ _ _ _ c.remove-lane.result _ held.shuts is)
          c.one_more-connections.ensures;
      fallen = held.fallen;
      shelf = let a = held.shelf in let f = next_fewer _ _ _ _ _ _ _ c.remove-lane.result _
          held.shuts is in omega (arith, a, f);
      accepted = held.accepted;
      bind = c.shut_lane.ensures.bind ∙ held.bind;
      polls = c.shut_lane.ensures.polls ∙ held.polls;
      plan = c.shut_lane.ensures.plan ∙ held.plan;
      moment = c.shut_lane.ensures.moment ∙ held.moment;
    }
