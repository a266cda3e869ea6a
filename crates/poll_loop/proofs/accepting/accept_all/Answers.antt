use Rattle.std.proofs.Common.{◌≡◌, ◌<◌, ◌∙◌, inl, false, arith, refl, sym, subst, length, nat_lt}
use Rattle.std.proofs.Common.{vec_len}
use Rattle.std.specs.Prelude.{◌&&◌}
use Rattle.poll_loop.specs.Connections.{CameCause}
use Rattle.poll_loop.specs.Settings.{is_below}
use Rattle.poll_loop.proofs.Books.{entry_holds_later}
use Rattle.poll_loop.proofs.Coming.{full_came, full_seats, full_until, has_room, last_accounts}
use Rattle.poll_loop.proofs.Coming.{last_came, last_more, last_polls, last_takes, last_until}
use Rattle.poll_loop.proofs.Coming.{one_more, room_more, some_round, start_accepting, stays_on}
use Rattle.poll_loop.proofs.accepting.accept_all.Goals as goal

pub loop-init : goal.loop-init
loop-init g c =
    let settings = c.args.opening.now.settings.now in
    let less = has_room settings.connection_limit (length c.args.connections.now.seats.items)
    (is_below settings.serve_limit c.args.connections.now.accepted) c.requires.more in (
      start_accepting _ _ _ _ _ _ _ _ _,
      omega (arith, less),
      c.requires.admits.counted,
      refl,
      record {
        bind = refl;
        plan = refl;
        moment = refl;
        shelf = c.requires.admits.shelf;
        fallen = refl;
        spills = refl;
      },
    )

pub loop-preserved : goal.loop-preserved
loop-preserved g c =
    let s = c.accept_one.ensures in
    let i = c.loop.invariant in
    let settings = c.args.opening.now.settings.now in
    let ok = c.loop.connections.seats.ok in
    let e : vec_len c.loop.connections.seats ≡ length c.loop.connections.seats.items =
    grind (arith, ok) in (
      one_more _ _ _ _ _ _ (entry_holds_later _ _ _ _) c.loop.counter _ _ _ _ _ _ _ _ _ i.0 s.takes
          s.accounts s.same_polls s.came_more s.few c.in-One.ensures.came,
      room_more settings.connection_limit c.len.result _ _ _ (sym c.if-not-accepts.ensures.room)
          (c.len.ensures ∙ e) s.few,
      s.counted,
      c.in-One.ensures.cause ∙ i.3,
      stays_on i.4 s.stays,
    )

pub returns-in_default : goal.returns-in_default
returns-in_default g c =
    let s = c.accept_one.ensures in
    let i = c.loop.invariant in
    let settings = c.args.opening.now.settings.now in
    let ok = c.loop.connections.seats.ok in
    let e : vec_len c.loop.connections.seats ≡ length c.loop.connections.seats.items =
    grind (arith, ok) in
    record {
      takes = last_takes _ _ _ _ _ _ (entry_holds_later _ _ _ _) c.loop.counter _ _ _ _ _ _ _ _ _
          i.0 s.takes s.accounts s.same_polls s.came_more;
      within = room_more settings.connection_limit c.len.result _ _ _
          (sym c.if-not-accepts.ensures.room) (c.len.ensures ∙ e) s.few;
      accounts = last_accounts _ _ _ _ _ _ (entry_holds_later _ _ _ _) c.loop.counter _ _ _ _ _ _ _
          _ _ i.0 s.takes s.accounts s.same_polls s.came_more;
      same_polls = last_polls _ _ _ _ _ _ (entry_holds_later _ _ _ _) c.loop.counter _ _ _ _ _ _ _ _
          _ i.0 s.takes s.accounts s.same_polls s.came_more;
      came = last_came _ _ _ _ _ _ (entry_holds_later _ _ _ _) c.loop.counter _ _ _ _ _ _ _ _ _ i.0
          s.takes s.accounts s.same_polls s.came_more c.accept_one.result s.came;
      all = last_until _ _ _ _ _ _ (entry_holds_later _ _ _ _) c.loop.counter _ _ _ _ _ _ _ _ _ i.0
          s.takes s.accounts s.same_polls s.came_more c.accept_one.result _ c.in_default.not-One
          s.nobody;
      cause = subst (λ n. CameCause c.accept_one.result n
          (g.N.Net.poll_faults c.accept_one.new.net)) i.3 s.cause;
      counted = s.counted;
      came_more = last_more _ _ _ _ _ _ (entry_holds_later _ _ _ _) c.loop.counter _ _ _ _ _ _ _ _ _
          i.0 s.takes s.accounts s.same_polls s.came_more;
      stays = stays_on i.4 s.stays;
    }

pub returns-then-not-accepts-clause-came : goal.returns-then-not-accepts-clause-came
returns-then-not-accepts-clause-came g c =
    let i = c.loop.invariant in
    let settings = c.args.opening.now.settings.now in
    let ok = c.loop.connections.seats.ok in
    let e : vec_len c.loop.connections.seats ≡ length c.loop.connections.seats.items =
    grind (arith, ok) in
    let some : 0 < c.loop.counter = some_round c.loop.counter c.args.connections.now.seats.items
    c.loop.connections.seats.items c.args.connections.now.accepted c.loop.connections.accepted
    (λ xs m. nat_lt (length xs) settings.connection_limit && is_below settings.serve_limit m)
    i.0.seats i.0.count c.requires.more
    (subst (λ k. (nat_lt k settings.connection_limit && is_below settings.serve_limit
    c.loop.connections.accepted) ≡ false) (c.len.ensures ∙ e)
    (sym c.accepts.ensures.room ∙ c.if-not-accepts.true)) in
    full_came _ _ _ _ _ _ c.loop.counter _ _ _ _ _ _ i.0 some

pub returns-clause-came : goal.returns-clause-came
returns-clause-came g c =
    let settings = c.args.opening.now.settings.now in
    let less = has_room settings.connection_limit (length c.args.connections.now.seats.items)
    (is_below settings.serve_limit c.args.connections.now.accepted) c.requires.more in
    let t = c.loop-test.false in
    let some : 0 < c.loop.counter = grind (arith, less, t) in
    full_came _ _ _ _ _ _ c.loop.counter _ _ _ _ _ _ c.loop.invariant.0 some

pub returns-then-not-accepts-clause-all : goal.returns-then-not-accepts-clause-all
returns-then-not-accepts-clause-all g c =
    let settings = c.args.opening.now.settings.now in
    let ok = c.loop.connections.seats.ok in
    let e : vec_len c.loop.connections.seats ≡ length c.loop.connections.seats.items =
    grind (arith, ok) in
    full_seats _ _ _ _ _ _ c.loop.counter _ _ _ _ _ _ c.loop.invariant.0 _
    (subst (λ k. (nat_lt k settings.connection_limit && is_below settings.serve_limit
    c.loop.connections.accepted) ≡ false) (c.len.ensures ∙ e)
    (sym c.accepts.ensures.room ∙ c.if-not-accepts.true))

pub returns-clause-all : goal.returns-clause-all
returns-clause-all g c =
    let t = c.loop-test.false in
    full_until _ _ _ _ _ _ c.loop.counter _ _ _ _ _ _ c.loop.invariant.0 _
    (inl (grind (arith, t)))
