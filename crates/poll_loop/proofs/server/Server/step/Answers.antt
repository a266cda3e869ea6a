use Rattle.std.proofs.Common.{◌≡◌, length, map, ap, sym, ◌∙◌, arith, vec_len, nat_lt, ◌&&◌}
use Rattle.poll_loop.specs.Seat.{Eyes, eyes_of}
use Rattle.poll_loop.specs.Server.{serving}
use Rattle.poll_loop.specs.Settings.{is_below}
use Rattle.poll_loop.proofs.Polling.{due_by_marks, hosts_polled, is_asked, knows_polled, no_idle_by}
use Rattle.poll_loop.proofs.Polling.{now_polled, nudged, on_gathered, steps_failed, steps_none}
use Rattle.poll_loop.proofs.Polling.{steps_stopped, time_polled}
use Rattle.poll_loop.proofs.Working.{map_length}
use Rattle.poll_loop.proofs.server.Server.step.Goals as goal

pub returns-then-is_err-clause-steps : goal.returns-then-is_err-clause-steps
returns-then-is_err-clause-steps g c tells = steps_none _ _ _ _ _ _

pub returns-then-turn-clause-steps : goal.returns-then-turn-clause-steps
returns-then-turn-clause-steps g c tells = steps_stopped _ _ _ _ _ _ _ _ _
    (c.in-Ok.ensures.told tells) _ _ _ c.if-turn.true

pub returns-then-turn-clause-hosts : goal.returns-then-turn-clause-hosts
returns-then-turn-clause-hosts g c tells =
    let told = c.in-Ok.ensures.told tells in
    hosts_polled _ _ _ c.args.self.now.connections.seats.items (ap (λ n. n.live) told.state)
    (time_polled _ _ _ _ _ told) (c.requires.hosts tells)

pub carry-requires-clause-hosts : goal.carry-requires-clause-hosts
carry-requires-clause-hosts g c _ _ tells =
    let told = c.in-Ok.ensures.told tells in
    hosts_polled _ _ _ c.args.self.now.connections.seats.items (ap (λ n. n.live) told.state)
    (time_polled _ _ _ _ _ told) (c.requires.hosts tells)

pub returns-in-Err-clause-steps : goal.returns-in-Err-clause-steps
returns-in-Err-clause-steps g c tells = steps_failed _ _ _ _ _ _ _ _ _ _
    (c.in-Err.ensures.told tells)

pub returns-in-Err-clause-hosts : goal.returns-in-Err-clause-hosts
returns-in-Err-clause-hosts g c tells =
    let e = c.in-Err.ensures.told tells in
    let last = ap (λ n. Rattle.outside.specs.Net.last_moment n.last) e in
    hosts_polled _ _ _ c.args.self.now.connections.seats.items (ap (λ n. n.live) e)
    (record { first = λ m h. ap (λ n. n.first) e ∙ h; later = omega (arith, last) })
    (c.requires.hosts tells)

pub carry-requires-clause-now : goal.carry-requires-clause-now
carry-requires-clause-now g c _ _ tells = now_polled _ _ _ _ _ (c.in-Ok.ensures.told tells)

pub carry-requires-clause-knows : goal.carry-requires-clause-knows
carry-requires-clause-knows g c _ _ tells = knows_polled _ _ _ _ _ (c.in-Ok.ensures.told tells)

pub carry-requires-clause-asks : goal.carry-requires-clause-asks
carry-requires-clause-asks g c _ _ =
    let seats = c.args.self.now.connections.seats.items in
    let ok = c.args.self.now.connections.seats.ok in
    let n : vec_len c.args.self.now.connections.seats ≡ length seats = grind (arith, ok) in
    let count : c.len-asked.result ≡ length seats = c.len-asked.ensures ∙ n in
    let gathers = on_gathered c.gather.result _ seats c.gather.new.wants.items
    c.as_slice.ensures.value (sym c.if-is_err.ensures.value) c.gather.ensures in
    is_asked seats c.len-asked.result c.gather.new.wants.items c.poll.new.wants.items count gathers
    c.poll.ensures.wants

pub returns-else-turn-clause-no_idle : goal.returns-else-turn-clause-no_idle
returns-else-turn-clause-no_idle g c on tells link_tells =
    let e : Eyes g.row.N-Link.Denot g.row.N-Link-Plan.Denot = eyes_of g.N.Link.Link in
    let settings = c.args.self.now.settings.now in
    let seats = c.args.self.now.connections.seats.items in
    let ok = c.args.self.now.connections.seats.ok in
    let n : vec_len c.args.self.now.connections.seats ≡ length seats = grind (arith, ok) in
    let count : c.len-asked.result ≡ length seats = c.len-asked.ensures ∙ n in
    let gathers = on_gathered c.gather.result _ seats c.gather.new.wants.items
    c.as_slice.ensures.value (sym c.if-is_err.ensures.value) c.gather.ensures in
    let lanes : c.len-asked.result ≡ length (map (λ seat. seat.lane) seats) = count ∙
    sym (map_length (λ seat. seat.lane) seats) in
    no_idle_by e (serving c.args.self.now) (serving c.carry.new.self) c.poll.new.wants.items
    c.len-asked.result c.accepts-accepting.result c.in-Ok.turn (g.N.Net.nobody c.carry.new.net)
    (g.N.Net.state c.args.net.now) (g.N.Net.state c.poll.new.self) (g.N.Net.state c.carry.new.net)
    (c.in-Ok.ensures.told tells) (c.carry.ensures.carries on tells link_tells) c.if-turn.false
    (c.accepts-accepting.ensures.room ∙ ap (λ k. nat_lt k settings.connection_limit && is_below
    settings.serve_limit c.args.self.now.connections.accepted) lanes)
    (nudged seats c.len-asked.result c.gather.new.wants.items c.poll.new.wants.items count gathers
    c.poll.ensures.wants _ (due_by_marks e settings.window seats c.requires.stands.rest))
