use Rattle.std.proofs.Common.{◌≡◌, ℕ, ap, subst, ◌∙◌}
use Rattle.channel.specs.Views.{Seen, View}
use Rattle.channel.specs.declared.types.Window.{Window}
use Rattle.poll_loop.specs.Seat.{Eyes, Goes, Strides, eyes_of, viewed}
use Rattle.poll_loop.proofs.Compose.{go_on, goes_by_steps}
use Rattle.poll_loop.proofs.Leaving.{attends_by, marked_by}
use Rattle.poll_loop.proofs.seat.converse.Goals as goal

pub speak-requires-clause-dies : goal.speak-requires-clause-dies
speak-requires-clause-dies g c κs within = c.stride.ensures.strides.dies c.args.now

-- what was heard, the steps, and what was sent
goes_through : {L P A : Type 0} (e : Eyes L P) (now : ℕ) (w : Window) (a b c d : Seen L A) →
    Goes e now a b → c.link ≡ b.link → c.peer ≡ b.peer → c.fixed ≡ b.fixed →
    Strides w b.shown c.shown → Goes e now c d → Goes e now a d
goes_through e now w a b c d first link peer fixed strides last =
    go_on e now a b d first (go_on e now b c d (goes_by_steps e now b c link peer fixed
    strides.moves strides.unput) last)

pub returns-in-Some-speak-clause-goes : goal.returns-in-Some-speak-clause-goes
returns-in-Some-speak-clause-goes g c =
    let s = c.stride.ensures in
    goes_through (eyes_of g.L.Link) c.args.now c.hear.new.lane.fixed.window
    c.args.lane.now c.hear.new.lane c.stride.new.lane c.speak.new.lane c.hear.ensures.goes s.link
    s.peer s.fixed s.strides c.speak.ensures.goes

pub returns-in-None-speak-clause-goes : goal.returns-in-None-speak-clause-goes
returns-in-None-speak-clause-goes g c =
    let s = c.stride.ensures in
    goes_through (eyes_of g.L.Link) c.args.now c.hear.new.lane.fixed.window
    c.args.lane.now c.hear.new.lane c.stride.new.lane c.speak.new.lane c.hear.ensures.goes s.link
    s.peer s.fixed s.strides c.speak.ensures.goes

pub returns-in-None-speak-clause-attends : goal.returns-in-None-speak-clause-attends
returns-in-None-speak-clause-attends g c =
    let e : Eyes g.row.L.Denot g.row.L-Plan.Denot = eyes_of g.L.Link in
    let now = c.args.now in
    let w : Window = c.args.lane.now.fixed.window in
    let s = c.stride.ensures in
    let v0 : View = viewed e c.args.lane.now in
    let v1 : View = viewed e c.hear.new.lane in
    let v2 : View = viewed e c.stride.new.lane in
    let v3 : View = viewed e c.speak.new.lane in
    let steps = goes_by_steps e now c.hear.new.lane c.stride.new.lane s.link s.peer s.fixed
    s.strides.moves s.strides.unput in
    let heard : c.hear.new.lane.fixed.window ≡ w = ap (λ f. f.window) c.hear.ensures.goes.same.fixed
    in
    let spoken : c.speak.new.lane.fixed.window ≡ w = ap (λ f. f.window)
    (c.speak.ensures.goes.same.fixed ∙ s.fixed ∙ c.hear.ensures.goes.same.fixed) in
    marked_by now w c.speak.new.lane.fixed.window c.mark_of.result v3 _ spoken
    (attends_by g.L.Link.tells now w c.args.ready v0 v1 v2 v3 c.requires.asks c.requires.called
    c.hear.ensures.goes.follows c.in-None.ensures.hears
    steps.follows (ap e.faults s.link) (subst (λ x. Strides x v1.shown v2.shown) heard s.strides)
    c.speak.ensures.goes.follows c.in-None-speak.ensures.speaks)
    c.mark_of.ensures.holds
