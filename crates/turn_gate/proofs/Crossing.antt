-- The ends of a gate may go to other threads where the state may.
use denote.RattleType.{RattleType}
use denote.Param.Send.{IsSend, sendable}
use Rattle.std.proofs.Crossing.{crosses}
use Rattle.atomic_table.proofs.shared.Shared.TheSendSync.{the_send as shared_send}
use Rattle.atomic_table.proofs.shared.Shared.TheSendSync.{the_sync as shared_sync}
use Rattle.atomic_table.proofs.shared.Seat.TheSendSync.{the_send as seat_send}
use Rattle.atomic_table.proofs.send_lease.SendLease.TheSendSync.{the_send as lease_send}
use Rattle.atomic_table.proofs.send_lease.SendLease.TheSendSync.{the_sync as lease_sync}
use Rattle.turn_gate.specs.declared.pact.Pact.{Ghosts}
use Rattle.turn_gate.specs.contracts.board.Shelf as Shelf
use Rattle.turn_gate.specs.contracts.left_end.Left as Left

pub shelf_send : (S L R : RattleType) → IsSend S → IsSend (Shelf.the_row S L R)
shelf_send S L R s = search (crosses, sendable) depth 20

module _ (P S L R F : RattleType) (g : Ghosts P.Denot S.Denot L.Denot R.Denot F.Denot)
    (s : IsSend S) where
  pub left_send : IsSend (Left.the_row P S L R F g)
  left_send = search (
    crosses,
    shared_send,
    shared_sync,
    seat_send,
    lease_send,
    lease_sync,
    shelf_send,
    sendable,
  ) depth 40
