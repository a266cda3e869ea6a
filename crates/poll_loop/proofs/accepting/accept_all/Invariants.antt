use Rattle.std.proofs.Common.{◌≡◌, ◌≤◌, length}
use Rattle.channel.specs.Views.{telling}
use Rattle.poll_loop.specs.Accounts.{books}
use Rattle.poll_loop.specs.Connections.{HasBroken, IsCounted, Stays, going_on, seated, service_by}
use Rattle.poll_loop.specs.Entries.{EntryHolds}
use Rattle.poll_loop.specs.Seat.{eyes_of}
use Rattle.poll_loop.proofs.Coming.{SoFar}
use Rattle.poll_loop.proofs.accepting.accept_all.Given as goal

abbrev pub invariant-loop : goal.invariant-loop
invariant-loop g l =
    SoFar g.N.Net.tells (EntryHolds (service_by (telling g.N.Link.Link.tells g.P.Spill.Spill.tells
    g.A.App.tells) g.A.App.script l.fn.opening.settings.now l.fn.opening.app.now)
    (going_on (HasBroken g.A.Run.AppRun.faults)) g.N.Link.Link.state g.N.Link.Link.faults)
    (eyes_of g.N.Link.Link) l.fn.opening.settings.now l.fn.opening.app.now l.fn.opening.moment
    l.counter
    l.fn.connections.seats.items l.connections.seats.items
    (books (g.N.Net.state l.fn.net) (g.P.Spills.faults l.fn.spills)
    (length l.fn.connections.fallen.items)
    (seated (eyes_of g.N.Link.Link) l.fn.connections.seats.items))
    (books (g.N.Net.state l.net) (g.P.Spills.faults l.spills) (length l.connections.fallen.items)
    (seated (eyes_of g.N.Link.Link) l.connections.seats.items))
    l.fn.connections.accepted l.connections.accepted
    × (length l.connections.seats.items ≤ l.fn.opening.settings.now.connection_limit)
    × IsCounted l.fn.opening.settings.now l.connections
    × (g.N.Net.poll_faults l.net ≡ g.N.Net.poll_faults l.fn.net)
    × Stays g.N.Net g.P.Spills l.fn.connections l.connections l.fn.net l.net l.fn.spills l.spills
