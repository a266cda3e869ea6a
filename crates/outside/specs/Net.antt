-- What a net tells, and what its calls do to it.
use Rattle.std.specs.Prelude.{◌≡◌, ◌≤◌, ◌+◌, ℕ, Bool, IsTrue, List, [], ◌∷◌, ◌++◌, Option, None}
use Rattle.std.specs.Prelude.{Some, unwrap_or, Result, Ok, Err, false}
use Rattle.outside.specs.Causes.{Rose, raised}
use Rattle.outside.specs.declared.types.Failed.{Failed}
use Rattle.outside.specs.declared.types.NetFault.{NetFault}
use Rattle.outside.specs.declared.types.NetFault.TheVariants as fault
use Rattle.outside.specs.declared.types.Peer.{Peer}
use Rattle.outside.specs.declared.types.Listen.{Listen}
use Rattle.outside.specs.declared.types.Want.{Want}
use Rattle.outside.specs.declared.types.Turn.{Turn}
use Rattle.outside.specs.declared.retired.Retired.{Retired}

-- the last poll that answered a turn
pub record Poll (P : Type 0) : Type 0 where
  -- as they came back
  pub wants : List Want
  pub accepting : Bool
  pub turn : Turn
  -- as that poll found them
  pub given : List (Peer × P)
  pub live : ℕ

-- what a net tells whose links are of the type L, made from plans of the type P
pub record NetState (L P : Type 0) : Type 0 where
  -- the links that were retired
  pub closed : List (Retired L)
  -- how many links are open
  pub live : ℕ
  -- the last turn told to stop
  pub stopped : Bool
  -- it tells to stop only where nothing is open and nobody will come
  pub quiet : Bool
  -- the addresses of the last bind that was answered by Ok
  pub bound : Option (List Listen)
  -- whom accept gave, and what their links were made from
  pub given : List (Peer × P)
  -- how many polls there were, the moment of the first turn, and the last turn
  pub polls : ℕ
  pub first : Option ℕ
  pub last : Option (Poll P)
  -- how many calls of accept there were, and how many were answered by None
  pub asked : ℕ
  pub put_off : ℕ

-- a net before any call, which is quiet or not
abbrev pub unasked : {L P : Type 0} → Bool → NetState L P
unasked quiet = record {
  closed = [];
  live = 0;
  stopped = false;
  quiet = quiet;
  bound = None;
  given = [];
  polls = 0;
  first = None;
  last = None;
  asked = 0;
  put_off = 0;
}

-- a want may be met only where it asks
pub record MayOnlyAsAsked (want : Want) : Type 0 where
  pub read : IsTrue want.may_read → IsTrue want.read
  pub write : IsTrue want.may_write → IsTrue want.write

-- what a want asks
abbrev pub asked_of : Want → ℕ × Bool × Bool
asked_of w = (w.key, w.read, w.write)

-- the moment of the last turn
abbrev pub last_moment : {P : Type 0} → Option (Poll P) → ℕ
last_moment None = 0
last_moment (Some poll) = poll.turn.now

-- a poll that answers a turn
pub record TellsTurn {L P : Type 0} (wants : List Want) (accepting : Bool) (turn : Turn)
    (old new : NetState L P) : Type 0 where
  pub state : new ≡ record old {
    polls = raised old.polls;
    stopped = turn.stop;
    first = Some (unwrap_or old.first turn.now);
    last = Some (record {
      wants = wants;
      accepting = accepting;
      turn = turn;
      given = old.given;
      live = old.live;
    });
  }
  pub later : last_moment old.last ≤ turn.now
  pub after_first : unwrap_or old.first turn.now ≤ turn.now
  -- nothing is open where a quiet net tells to stop, and it tells so from then on
  pub quiet : IsTrue old.quiet → IsTrue turn.stop → old.live ≡ 0
  pub stays : IsTrue old.quiet → IsTrue old.stopped → IsTrue turn.stop

-- what poll does to what is told
abbrev pub Polls : {L P : Type 0} → List Want → Bool → Result Turn Failed →
    NetState L P → NetState L P → Type 0
Polls wants accepting (Ok turn) old new = TellsTurn wants accepting turn old new
Polls wants accepting (Err _) old new = new ≡ record old { polls = raised old.polls }

-- an accept that gives a link, which was made from this plan
pub record GivesLink {L P : Type 0} (plan : P) (peer : Peer) (old new : NetState L P) : Type 0 where
  pub state : new ≡ record old {
    live = old.live + 1;
    given = old.given ++ (peer, plan) ∷ [];
    asked = raised old.asked;
  }
  -- nobody comes to a quiet net that told to stop
  pub quiet : IsTrue old.quiet → IsTrue old.stopped → ⊥

-- what accept does to what is told, where plan is what a link was made from
abbrev pub Accepts : {L P : Type 0} → (L → P) → Result (Option (L × Peer)) NetFault →
    NetState L P → NetState L P → Type 0
Accepts plan (Ok (Some (link, peer))) old new = GivesLink (plan link) peer old new
Accepts plan (Ok None) old new =
    new ≡ record old { asked = raised old.asked; put_off = raised old.put_off }
Accepts plan (Err _) old new = new ≡ record old { asked = raised old.asked }

-- the number of a new link was not taken before, and is taken now
abbrev pub TakesKey : {L : Type 0} → (L → ℕ) → Result (Option (L × Peer)) NetFault →
    (ℕ → Type 0) → (ℕ → Type 0) → Type 0
TakesKey key (Ok (Some (link, peer))) old new = (¬ (old (key link))) × new (key link)
TakesKey key (Ok None) old new = Unit {0}
TakesKey key (Err _) old new = Unit {0}

-- nobody is waiting behind an accept that gave nobody
abbrev pub FindsNobody : {T : Type 0} → Result (Option T) NetFault → Type 0 → Type 0
FindsNobody (Ok (Some _)) nobody = Unit {0}
FindsNobody (Ok None) nobody = nobody
FindsNobody (Err _) nobody = Unit {0}

-- the moment of the last turn behind a poll
abbrev pub moment_after : Result Turn Failed → ℕ → ℕ
moment_after (Ok turn) moment = turn.now
moment_after (Err _) moment = moment

-- accept answers Failed only where the count rose, and the count rises with nothing else
abbrev pub AcceptCause : {T : Type 0} → ℕ → ℕ → Result T NetFault → Type 0
AcceptCause before now (Err fault.Failed) = Rose before now
AcceptCause before now (Err fault.NoMemory) = now ≡ before
AcceptCause before now (Ok _) = now ≡ before
