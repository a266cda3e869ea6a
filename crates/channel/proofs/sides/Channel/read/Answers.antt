use Rattle.std.proofs.Common.{rules, ◌≡◌, ◌∷◌, ◌++◌, []}
use Rattle.channel.specs.Happening.{ReadCalls}
use Rattle.channel.specs.Sides.{linked}
use Rattle.channel.specs.State.{state_of}
use Rattle.channel.specs.Writing.{steps_left}
use Rattle.channel.proofs.Seen.{called}
use Rattle.channel.proofs.sides.Channel.read.Goals as goal

pub returns-clause-calls : goal.returns-clause-calls
returns-clause-calls g c =
    let old = c.args.self.now in
    let lefts : c.note.result.value.left ≡ old.acts.value.left ++ c.read-acted.result.1 ∷ [] =
    search rules in
    let rights : c.note.result.value.right ≡ old.acts.value.right = search rules in
    called (λ w a b. ReadCalls g.L.Link.tells c.args.now w c.read-acted.result.0 a b)
    (linked g.L.Link.tells g.L.Link.state g.L.Link.faults g.L.Link.key g.L.Link.plan)
    old.near c.read-acted.new.self (state_of old.state)
    (state_of c.read-acted.new.state) c.read-acted.result.1 old.acts.value.left
    c.note.result.value.left old.acts.value.right c.note.result.value.right
    (steps_left g.A.Run.AppRun.left old.writing) old.near.window old.state.fixed.value.window
    c.read-acted.ensures.calls lefts rights old.window_is
