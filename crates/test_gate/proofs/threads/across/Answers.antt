use denote.Param.Send.{sendable}
use Rattle.std.proofs.Crossing.{crosses}
use Rattle.turn_gate.proofs.Crossing.{left_send}
use Rattle.test_gate.proofs.threads.across.Goals as goal

pub join-left-requires-send-F : goal.join-left-requires-send-F
join-left-requires-send-F g c κs within = search (left_send, crosses, sendable) depth 20

pub join-left-requires-send-A : goal.join-left-requires-send-A
join-left-requires-send-A g c κs within = search (left_send, crosses, sendable) depth 20
