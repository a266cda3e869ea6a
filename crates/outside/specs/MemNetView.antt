-- The last poll of a net in memory, as contracts see it.
use Rattle.std.specs.Prelude.{Option, None, Some}
use Rattle.outside.specs.MemNet.{Found}
use Rattle.outside.specs.Net.{Poll}
use Rattle.outside.specs.declared.mem_net.noted.LastPoll.{LastPoll}
use Rattle.outside.specs.declared.plans.LinkPlan.{LinkPlan}

-- what every net tells of a poll
abbrev pub poll_in : LastPoll → Poll LinkPlan
poll_in p = record {
  wants = p.wants;
  accepting = p.accepting;
  turn = p.turn;
  given = p.given;
  live = p.live;
}

-- what a net in memory tells beside it
abbrev pub found_in : LastPoll → Found
found_in p = record { number = p.number; waiting = p.waiting }

abbrev pub last_of : Option LastPoll → Option (Poll LinkPlan)
last_of None = None
last_of (Some p) = Some (poll_in p)

abbrev pub found_of : Option LastPoll → Option Found
found_of None = None
found_of (Some p) = Some (found_in p)
