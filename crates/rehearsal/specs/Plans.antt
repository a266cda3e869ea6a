-- Who comes to a rehearsal, and how their links give and take.
use Rattle.std.specs.Prelude.{ℕ, ◌+◌, ◌*◌, ◌%◌, false, [], ◌∷◌, length, map, codes, replicate}
use Rattle.std.specs.Prelude.{None}
use Rattle.std.specs.List.{range_with_len}
use Rattle.outside.specs.declared.plans.Comer.{Comer}
use Rattle.outside.specs.declared.plans.LinkPlan.{LinkPlan}
use Rattle.outside.specs.declared.plans.NetPlan.{NetPlan}
use Rattle.outside.specs.declared.types.Peer.{Peer}
use Rattle.rehearsal.specs.Requests.{input_of, request_count}

-- how many bytes a recv gives at most
abbrev pub most_given : ℕ → ℕ
most_given connection = 1 + connection % 64

-- how many bytes a send takes at most
abbrev pub most_taken : ℕ
most_taken = 50

-- No answer is more than 80 bytes longer than its request, and a send takes a byte at least, so
-- there are not more sends than this.
abbrev pub send_count : ℕ → ℕ
send_count connection = length (input_of connection) + 80 * request_count connection

abbrev pub link_plan : ℕ → LinkPlan
link_plan connection = record {
  input = input_of connection;
  ends = false;
  gives = replicate (length (input_of connection)) (most_given connection);
  takes = replicate (send_count connection) most_taken;
  recv_fails = [];
  send_fails = [];
}

abbrev pub peer_of : ℕ → Peer
peer_of connection = record { addr = codes "10.0.0.1"; port = 1024 + connection; local_port = 8080 }

-- it comes at the first turn
abbrev pub comer_of : ℕ → Comer
comer_of connection = record { turn = 0; peer = peer_of connection; plan = link_plan connection }

-- so many connections come, all at one moment, and nothing fails
abbrev pub net_plan : ℕ → NetPlan
net_plan connections = record {
  comers = map comer_of (range_with_len 0 connections);
  moments = 784111777 ∷ [];
  stop_at = None;
  bind_fails = false;
  poll_fails = [];
  accept_fails = [];
}
