use Rattle.std.proofs.Common.{rules, ◌≡◌, ◌∙◌, ◌++◌, ◌+◌, ◌<◌, [], true, false, sym, ap, refl, None}
use Rattle.std.proofs.Common.{append-nil}
use Rattle.outside.specs.declared.types.End.TheVariants as over
use Rattle.request_stream.specs.Units.{units}
use Rattle.channel.specs.Acting.{is_done, over_of}
use Rattle.channel.specs.Histories.{left_start, right_start}
use Rattle.channel.specs.Sides.{linked}
use Rattle.channel.specs.State.{state_of}
use Rattle.channel.proofs.Calling.{check_late, check_on_time, late_idle}
use Rattle.channel.proofs.LeftTurns.{late_of, left_kills, left_then, over_none, timed_of}
use Rattle.channel.proofs.Seen.{same_then, view_dies}
use Rattle.channel.proofs.near.Near.check_idle.Goals as goal

pub returns-then-not-is_timed_out-clause-turns : goal.returns-then-not-is_timed_out-clause-turns
returns-then-not-is_timed_out-clause-turns g c = record {
  side = c.conclude.ensures.turns _ _ c.send_some-moved.ensures.turns.side;
  same = same_then _ _ _ _ c.send_some-moved.ensures.turns.same c.conclude.ensures.same;
}

pub returns-then-not-is_timed_out-clause-calls : goal.returns-then-not-is_timed_out-clause-calls
returns-then-not-is_timed_out-clause-calls g c = λ l r left.
    let no : c.is_timed_out.result ≡ false = search rules in
    let on_time = c.is_timed_out.ensures.on_time no in
    check_on_time _ _ _ _ _ _ (c.send_some-moved.ensures.says l r left) _
    (c.conclude.ensures.concludes l r left) _ c.conclude.ensures.over
    (rw c.send_some-moved.ensures.turns.same.window at on_time)

pub returns-clause-turns : goal.returns-clause-turns
returns-clause-turns g c =
    let near = c.send_some-moved.new.self in
    let mid = c.send_some-moved.new.state in
    let yes' : c.is_timed_out.result ≡ true = search rules in
    let still : over_of (state_of mid) near.ended ≡ None = c.is_timed_out.ensures.open yes' in
    let none : mid.dead ≡ None = over_none mid.dead (is_done (state_of mid) near.ended) None
    (sym still) refl in
    let was_late = c.is_timed_out.ensures.late yes' in
    let late : near.touched + near.window.timeout < c.args.now = late_of _ _ _ was_late in
    let window : near.window.timeout ≡ mid.fixed.value.window.timeout
    = ap (λ w. w.timeout) (c.send_some-moved.ensures.turns.same.window ∙ c.requires.window)
    ∙ ap (λ f. f.value.window.timeout) (sym c.send_some-moved.ensures.turns.side.fixed) in
    let told : c.note.result.value ≡ c.send_some-moved.result.1.value ++ c.kill-ends.result.value =
    search rules in
    record {
      side = left_then _ _ _ _ _ _ _ _ c.kill-ends.result _ told
          c.send_some-moved.ensures.turns.side
          (left_kills _ _ _ _ _ _ none refl refl (over.TimedOut near.touched c.args.now) [] []
          (λ e. cc) refl c.kill-ends.ensures.now c.kill-ends.ensures.told refl
          (sym (append-nil near.stream.fed))
          (ap (units near.stream.limits) (append-nil near.stream.fed) ∙ sym (append-nil _))
          (λ e. refl) (λ t. sym (append-nil _)) (λ t. refl) (λ w. w) (λ w. w) (λ e. cc)
          (timed_of near.touched c.args.now near.window.timeout mid.fixed.value.window.timeout
          window late)
          (λ at n e t free. late_idle _ _ c.args.self.now.window _ _ _
          (c.send_some-moved.ensures.says left_start right_start 0) still
          (rw c.send_some-moved.ensures.turns.same.window at was_late) t free));
      same = record {
        window = c.send_some-moved.ensures.turns.same.window;
        peer = c.send_some-moved.ensures.turns.same.peer;
        key = c.send_some-moved.ensures.turns.same.key;
        plan = c.send_some-moved.ensures.turns.same.plan;
      };
    }

pub returns-clause-calls : goal.returns-clause-calls
returns-clause-calls g c = λ l r left.
    let near = c.send_some-moved.new.self in
    let mid = c.send_some-moved.new.state in
    let yes' : c.is_timed_out.result ≡ true = search rules in
    let was_late = c.is_timed_out.ensures.late yes' in
    let told : c.note.result.value ≡ c.send_some-moved.result.1.value ++ c.kill-ends.result.value =
    search rules in
    check_late _ _ _ _ _ _ (c.send_some-moved.ensures.says l r left) _
    (view_dies (linked g.L.Link.tells g.L.Link.state g.L.Link.faults g.L.Link.key g.L.Link.plan)
    near (state_of mid) (state_of c.kill-ends.new.state) l r left c.send_some-moved.result.1
    c.kill-ends.result c.note.result c.args.now told c.kill-ends.ensures.now
    c.kill-ends.ensures.told)
    (c.is_timed_out.ensures.open yes') (rw c.send_some-moved.ensures.turns.same.window at was_late)
