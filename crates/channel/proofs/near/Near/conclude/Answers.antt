use Rattle.std.proofs.Common.{rules, ◌≡◌, ◌∙◌, ◌++◌, sym, ap}
use Rattle.channel.specs.Acting.{is_done}
use Rattle.channel.specs.Happening.{over_or}
use Rattle.channel.specs.Views.{over_by}
use Rattle.channel.specs.Histories.{left_turn}
use Rattle.channel.specs.Sides.{linked}
use Rattle.channel.specs.State.{state_of}
use Rattle.channel.proofs.LeftTurns.{breaking_dead, left_then}
use Rattle.channel.proofs.Seen.{concludes_then}
use Rattle.channel.proofs.near.Near.conclude.Goals as goal

pub returns-clause-turns : goal.returns-clause-turns
returns-clause-turns g c = λ before was first.
    let told : c.note.result.value ≡ c.args.entry.value ++ c.bury-buried.result.value =
    search rules in
    left_then _ _ _ _ _ _ _ _ _ _ told first c.bury-buried.ensures.turns.side

pub returns-clause-concludes : goal.returns-clause-concludes
returns-clause-concludes g c = λ l r left.
    let told : c.note.result.value ≡ c.args.entry.value ++ c.bury-buried.result.value =
    search rules in
    concludes_then (linked g.L.Link.tells g.L.Link.state g.L.Link.faults g.L.Link.key g.L.Link.plan)
    c.args.self.now c.bury-buried.new.self (state_of c.args.state.now)
    (state_of c.bury-buried.new.state) l r left
    c.args.entry c.bury-buried.result c.note.result told
    (c.bury-buried.ensures.concludes (left_turn l c.args.entry) r left)

pub returns-clause-over : goal.returns-clause-over
returns-clause-over g c = sym (ap (λ d. over_or (over_by d
    (is_done (state_of c.bury-buried.new.state) c.bury-buried.new.self.ended)) c.args.moved)
    (c.bury-buried.ensures.dead ∙ breaking_dead _ _ c.in-Some.end c.in-Some.ensures (search rules)))
