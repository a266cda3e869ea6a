-- What one connection tells, and what its calls do to it.
use Rattle.std.specs.Prelude.{◌≡◌, ◌≤◌, ℕ, Bool, true, false, nat_lt, List, [], ◌++◌, length, take}
use Rattle.std.specs.Prelude.{map}
use Rattle.outside.specs.Causes.{Rose, raised}
use Rattle.outside.specs.declared.types.Recv.{Recv}
use Rattle.outside.specs.declared.types.Recv.TheVariants as got
use Rattle.outside.specs.declared.types.Sent.{Sent}
use Rattle.outside.specs.declared.types.Sent.TheVariants as took

-- what a connection tells
pub record LinkState : Type 0 where
  -- the bytes that came, each with its moment in front
  pub arrivals : List (ℕ × ℕ)
  -- the bytes that were taken
  pub sent : List ℕ
  -- nothing more will come
  pub ended : Bool
  -- the moment of its opening, or of the last bytes that came or were taken
  pub touched : ℕ
  -- the last send took less than it was offered
  pub choked : Bool
  -- how many calls of recv and send there were
  pub asked : ℕ
  -- how many of them to recv, and how many to send, were answered by NotYet
  pub recv_put_off : ℕ
  pub send_put_off : ℕ

-- these bytes, at one moment
abbrev pub stamped : ℕ → List ℕ → List (ℕ × ℕ)
stamped now bytes = map (λ byte. (now, byte)) bytes

-- what recv does to what is told
abbrev pub Receives : ℕ → List ℕ → Recv → LinkState → LinkState → Type 0
Receives now into (got.Got n) old new =
    new ≡ record old {
      arrivals = old.arrivals ++ stamped now (take n into);
      touched = now;
      asked = raised old.asked;
    }
Receives now into got.NotYet old new =
    new ≡ record old { asked = raised old.asked; recv_put_off = raised old.recv_put_off }
Receives now into got.End old new = new ≡ record old { ended = true; asked = raised old.asked }
Receives now into got.Failed old new = new ≡ record old { asked = raised old.asked }

-- a count of bytes that was given is in this range
abbrev pub GotWithin : Recv → ℕ → Type 0
GotWithin (got.Got n) len = (1 ≤ n) × (n ≤ len)
GotWithin got.NotYet len = Unit {0}
GotWithin got.End len = Unit {0}
GotWithin got.Failed len = Unit {0}

-- only a failing recv raises the count of faults
abbrev pub RecvCause : ℕ → ℕ → Recv → Type 0
RecvCause before now got.Failed = Rose before now
RecvCause before now (got.Got n) = now ≡ before
RecvCause before now got.NotYet = now ≡ before
RecvCause before now got.End = now ≡ before

-- what send does to what is told
abbrev pub Sends : ℕ → List ℕ → Sent → LinkState → LinkState → Type 0
Sends now from (took.Took n) old new =
    new ≡ record old {
      sent = old.sent ++ take n from;
      touched = now;
      choked = nat_lt n (length from);
      asked = raised old.asked;
    }
Sends now from took.NotYet old new =
    new ≡ record old {
      choked = true;
      asked = raised old.asked;
      send_put_off = raised old.send_put_off;
    }
Sends now from took.Failed old new = new ≡ record old { choked = false; asked = raised old.asked }

-- a count of bytes that was taken is in this range
abbrev pub TookWithin : Sent → ℕ → Type 0
TookWithin (took.Took n) len = (1 ≤ n) × (n ≤ len)
TookWithin took.NotYet len = Unit {0}
TookWithin took.Failed len = Unit {0}

-- only a failing send raises the count of faults
abbrev pub SendCause : ℕ → ℕ → Sent → Type 0
SendCause before now took.Failed = Rose before now
SendCause before now (took.Took n) = now ≡ before
SendCause before now took.NotYet = now ≡ before

-- a link as it is opened
abbrev pub opened : ℕ → LinkState
opened now = record {
  arrivals = [];
  sent = [];
  ended = false;
  touched = now;
  choked = false;
  asked = 0;
  recv_put_off = 0;
  send_put_off = 0;
}
