use Rattle.std.proofs.Common.{◌≤◌, ◌<◌, length, arith, refl, subst, ◌∙◌}
use Rattle.poll_loop.specs.Connections.{IsOpenedBy}
use Rattle.poll_loop.specs.Retiring.{EndsAt}
use Rattle.poll_loop.proofs.Entries.{entry_goes_on}
use Rattle.poll_loop.proofs.Sifting.{bears_there, counted_one, drop_at, keep_at, one_fewer}
use Rattle.poll_loop.proofs.Sifting.{one_open, over_there, sifted, sifted_accounts, sifts_at}
use Rattle.poll_loop.proofs.Sifting.{sifts_none, so_there, timely_there}
use Rattle.poll_loop.proofs.retiring.retire_over.Goals as goal

pub loop-i-init : goal.loop-i-init
loop-i-init g c = record {
  sifts = sifts_none _ _ _ _ _ _ _;
  counted = c.requires.counted;
  shelf = c.requires.shelf;
  broke = c.requires.broke;
  accepted = refl;
  bind = refl;
  polls = refl;
  nobody = λ n. n;
  plan = refl;
  moment = refl;
  spills = omega arith;
}

pub retire_lane-requires-clause-over : goal.retire_lane-requires-clause-over
retire_lane-requires-clause-over g c _ _ =
    let t = c.loop-i-test.true in
    let n = c.len.ensures in
    let below : c.loop-i.i < length c.loop-i.connections.seats.items = grind (arith, t, n) in
    let here = sifts_at _ _ _ _ _ _ _ _ _ _ _ _ c.loop-i.invariant.sifts below in
    (over_there _ _ _ _ _ _ _ _ _ _ _ _ here c.args.moment _ c.index.result.now c.remove-lane.result
    c.in-Some.end c.index.ensures
    (subst (λ o. EndsAt c.index.result.now.mark o) c.in-Some.is c.end_at.ensures)
    c.remove-lane.ensures.value c.requires.out).is

pub retire_lane-requires-clause-bears : goal.retire_lane-requires-clause-bears
retire_lane-requires-clause-bears g c _ _ tells =
    let t = c.loop-i-test.true in
    let n = c.len.ensures in
    let below : c.loop-i.i < length c.loop-i.connections.seats.items = grind (arith, t, n) in
    let here = sifts_at _ _ _ _ _ _ _ _ _ _ _ _ c.loop-i.invariant.sifts below in
    bears_there _ _ _ _ _ _ _ _ _ _ _ _ here c.args.moment _ c.index.result.now c.remove-lane.result
    c.in-Some.end c.index.ensures
    (subst (λ o. EndsAt c.index.result.now.mark o) c.in-Some.is c.end_at.ensures)
    c.remove-lane.ensures.value c.requires.out tells (c.requires.moment tells)

pub retire_lane-requires-clause-by : goal.retire_lane-requires-clause-by
retire_lane-requires-clause-by g c _ _ =
    let t = c.loop-i-test.true in
    let n = c.len.ensures in
    let below : c.loop-i.i < length c.loop-i.connections.seats.items = grind (arith, t, n) in
    let here = sifts_at _ _ _ _ _ _ _ _ _ _ _ _ c.loop-i.invariant.sifts below in
    so_there _ _ _ _ _ _ _ _ _ _ _ _ here (IsOpenedBy c.args.settings.now c.args.app.now)
    c.remove-lane.result c.remove-lane.ensures.value c.requires.by

pub retire_lane-requires-clause-live : goal.retire_lane-requires-clause-live
retire_lane-requires-clause-live g c _ _ tells =
    let t = c.loop-i-test.true in
    let n = c.len.ensures in
    let below : c.loop-i.i < length c.loop-i.connections.seats.items = grind (arith, t, n) in
    let here = sifts_at _ _ _ _ _ _ _ _ _ _ _ _ c.loop-i.invariant.sifts below in
    one_open _ _ _ _ _ _ _ _ _ _ _ _ here (c.requires.room tells) tells

pub retire_lane-requires-clause-timely : goal.retire_lane-requires-clause-timely
retire_lane-requires-clause-timely g c _ _ tells link_tells =
    let t = c.loop-i-test.true in
    let n = c.len.ensures in
    let below : c.loop-i.i < length c.loop-i.connections.seats.items = grind (arith, t, n) in
    let here = sifts_at _ _ _ _ _ _ _ _ _ _ _ _ c.loop-i.invariant.sifts below in
    timely_there _ _ _ _ _ _ _ _ _ _ _ _ here c.remove-lane.result c.remove-lane.ensures.value
    (c.requires.timely tells) tells link_tells

pub loop-i-preserved-in-Some : goal.loop-i-preserved-in-Some
loop-i-preserved-in-Some g c =
    let t = c.loop-i-test.true in
    let n = c.len.ensures in
    let below : c.loop-i.i < length c.loop-i.connections.seats.items = grind (arith, t, n) in
    let here = sifts_at _ _ _ _ _ _ _ _ _ _ _ _ c.loop-i.invariant.sifts below in
    let held = c.loop-i.invariant in
    record {
      sifts = drop_at _ _ _ _ _ _ _ _ _ _ _ _ here c.remove-lane.new.self.items
          (g.N.Net.state c.retire_lane.new.net)
          (g.P.Spills.faults c.retire_lane.new.spills) (length c.retire_lane.new.fallen.items)
          c.index.result.now c.remove-lane.result c.in-Some.end
          (entry_goes_on _ _ _ _ (g.N.Net.state c.loop-i.net) (g.N.Net.state c.retire_lane.new.net))
          c.index.ensures
          (subst (λ o. EndsAt c.index.result.now.mark o) c.in-Some.is c.end_at.ensures)
          c.remove-lane.ensures.value c.remove-lane.ensures.items
          c.retire_lane.ensures.accounts c.retire_lane.ensures.net;
      counted = counted_one c.args.settings.now.serve_limit c.loop-i.connections.accepted
          c.loop-i.connections.retired c.one_more-connections.result
          (length c.loop-i.connections.seats.items) (length c.remove-lane.new.self.items)
          held.counted (one_fewer _ _ _ _ _ _ _ _ _ _ _ _ here c.remove-lane.new.self.items
          c.remove-lane.ensures.items) c.one_more-connections.ensures;
      shelf = let a = held.shelf in let b = c.retire_lane.ensures.room in let d =
          c.retire_lane.ensures.capacity in
          let f = one_fewer _ _ _ _ _ _ _ _ _ _ _ _ here c.remove-lane.new.self.items
          c.remove-lane.ensures.items in omega (arith, a, b, d, f);
      broke = c.retire_lane.ensures.broke;
      accepted = held.accepted;
      bind = c.retire_lane.ensures.bind ∙ held.bind;
      polls = c.retire_lane.ensures.polls ∙ held.polls;
      nobody = λ n. c.retire_lane.ensures.nobody (held.nobody n);
      plan = c.retire_lane.ensures.plan ∙ held.plan;
      moment = c.retire_lane.ensures.moment ∙ held.moment;
      spills = let a = held.spills in let b = c.retire_lane.ensures.spills in omega (arith, a, b);
    }

pub loop-i-preserved : goal.loop-i-preserved
loop-i-preserved g c =
    let t = c.loop-i-test.true in
    let n = c.len.ensures in
    let below : c.loop-i.i < length c.loop-i.connections.seats.items = grind (arith, t, n) in
    let here = sifts_at _ _ _ _ _ _ _ _ _ _ _ _ c.loop-i.invariant.sifts below in
    let held = c.loop-i.invariant in
    record {
      sifts = keep_at _ _ _ _ _ _ _ _ _ _ _ _ here (entry_goes_on _ _ _ _
          (g.N.Net.state c.loop-i.net) (g.N.Net.state c.loop-i.net)) c.index.result.now
          c.index.ensures
          (subst (λ o. EndsAt c.index.result.now.mark o) c.in-None.is c.end_at.ensures);
      counted = held.counted;
      shelf = held.shelf;
      broke = held.broke;
      accepted = held.accepted;
      bind = held.bind;
      polls = held.polls;
      nobody = held.nobody;
      plan = held.plan;
      moment = held.moment;
      spills = held.spills;
    }

pub returns-clause-kept : goal.returns-clause-kept
returns-clause-kept g c =
    let t = c.loop-i-test.false in
    let n = c.len.ensures in
    let end : length c.loop-i.connections.seats.items ≤ c.loop-i.i = grind (arith, t, n) in
    sifted _ _ _ _ _ _ _ _ _ _ _ _ c.loop-i.invariant.sifts end

pub returns-clause-accounts : goal.returns-clause-accounts
returns-clause-accounts g c tells =
    let t = c.loop-i-test.false in
    let n = c.len.ensures in
    let end : length c.loop-i.connections.seats.items ≤ c.loop-i.i = grind (arith, t, n) in
    sifted_accounts _ _ _ _ _ _ _ _ _ _ _ _ c.loop-i.invariant.sifts end tells

pub retire_lane-requires-clause-room : goal.retire_lane-requires-clause-room
retire_lane-requires-clause-room g c _ _ =
    let t = c.loop-i-test.true in
    let n = c.len.ensures in
    let below : c.loop-i.i < length c.loop-i.connections.seats.items = grind (arith, t, n) in
    let a = c.loop-i.invariant.shelf in
    omega (arith, a, below)
