use Rattle.std.proofs.Common.{rules}
use Rattle.channel.specs.State.{state_of}
use Rattle.channel.proofs.RightTurns.{breaks_any}
use Rattle.channel.proofs.far.break_off.Goals as goal

pub returns-clause-breaks : goal.returns-clause-breaks
returns-clause-breaks g c = breaks_any _ _ (state_of c.args.state.now)
    (state_of c.break_off.new.self) _ _ _ c.requires.alive c.requires.broken (search rules)
    (search rules)
