-- Internal: what a command leaves, by how it ended.
use Rattle.std.specs.Prelude.{◌≡◌, ◌<◌, ◌≤◌, ℕ, Bool, ◌⊎◌, ◌||◌, true, false, IsTrue, List, []}
use Rattle.std.specs.Prelude.{◌++◌, Option, Some, Result, Ok, Err}
use Rattle.adjust.specs.declared.types.UsageFault.{UsageFault}
use Rattle.adjust.specs.declared.types.UsageFault.TheVariants.{NoMemory}
use Rattle.outside.specs.Causes.{Rose, added}
use Rattle.outside.specs.Net.{NetState}
use Rattle.outside.specs.declared.retired.Retired.{Retired}
use Rattle.outside.specs.declared.types.Listen.{Listen}
use Rattle.outside.specs.declared.types.Peer.{Peer}
use Rattle.poll_loop.specs.Accounts.{Served, Stops, books}
use Rattle.poll_loop.specs.Connections.{going_on, shutting_down}
use Rattle.poll_loop.specs.Entries.{EntryHolds, Service, app_faults}
use Rattle.poll_loop.specs.Seat.{Eyes}
use Rattle.poll_loop.specs.declared.settings.Going.{Going}
use Rattle.poll_loop.specs.declared.settings.ServeFault.{ServeFault}
use Rattle.poll_loop.specs.declared.settings.ServeFault.TheVariants as fault
use Rattle.waitress_serve.specs.Completeness.{IsAnswered, IsBrief, IsStill}
use Rattle.waitress_serve.specs.Headline.{Added, RetiresGiven, SettlesSpills, ShutLast, grounds}
use Rattle.waitress_serve.specs.Made.{CannotMake, Files, can_serve}
use Rattle.waitress_serve.specs.Reading.{Reading, is_faulty, is_unbuilt, prints, serves}
use Rattle.waitress_serve.specs.Status.{MeetsLimit, ToldStop, WritesPart}
use Rattle.waitress_serve.specs.declared.conclusion.Conclusion.{Conclusion}
use Rattle.waitress_serve.specs.declared.conclusion.Conclusion.TheVariants as conclusion
use Rattle.waitress_serve.specs.declared.made.Unmade.{Unmade}

-- ---- why it ended so

-- Over these files, and where the tree tells of them: what is asked for is done.
pub record Works (told : Bool) (files : Files) (asked : Reading) : Type 0 where
  pub works : IsTrue (can_serve told files asked || prints asked)
  pub can : IsTrue (serves asked) → IsTrue (can_serve told files asked)
  pub sound : (is_faulty asked || is_unbuilt asked) ≡ false
  pub faultless : is_faulty asked ≡ false
  pub built : is_unbuilt asked ≡ false

pub record IsServing (told : Bool) (files : Files) (asked : Reading) : Type 0 where
  pub serves_is : serves asked ≡ true
  pub can : IsTrue (can_serve told files asked)
  pub faultless : is_faulty asked ≡ false
  pub built : is_unbuilt asked ≡ false

pub record IsUnbuilt (asked : Reading) : Type 0 where
  pub unbuilt : IsTrue (is_unbuilt asked)
  pub faultless : is_faulty asked ≡ false

pub record IsUnmade (told : Bool) (before now : ℕ) (files : Files) (asked : Reading) (why : Unmade)
    : Type 0 where
  pub cannot : CannotMake told before now files asked why
  pub serves_is : serves asked ≡ true
  pub faultless : is_faulty asked ≡ false
  pub built : is_unbuilt asked ≡ false

-- before and now are the counts of the tree's faults
abbrev pub Concludes : Bool → ℕ → ℕ → Files → Reading → Conclusion → Type 0
Concludes told before now files asked conclusion.Done = Works told files asked
Concludes told before now files asked (conclusion.Usage fault) = asked ≡ Err fault
Concludes told before now files asked conclusion.NotBuilt = IsUnbuilt asked
Concludes told before now files asked (conclusion.Unmade why) =
    IsUnmade told before now files asked why
Concludes told before now files asked conclusion.BindFailed = IsServing told files asked
Concludes told before now files asked conclusion.Unprinted = Works told files asked
Concludes told before now files asked conclusion.PollFailed = IsServing told files asked
Concludes told before now files asked conclusion.NoMemory = Unit {0}

-- serving never ends as words that are a fault, that ask for what isn't built, or whose application
-- can't be made
abbrev pub IsOfServing : Conclusion → Type 0
IsOfServing (conclusion.Usage fault) = ⊥
IsOfServing conclusion.NotBuilt = ⊥
IsOfServing (conclusion.Unmade why) = ⊥
IsOfServing _ = Unit {0}

-- words that could not be read end as their fault, or for want of memory
abbrev pub IsUnread : UsageFault → Conclusion → Type 0
IsUnread wrong (conclusion.Usage fault) = (fault ≡ wrong) × (wrong ≡ NoMemory → ⊥)
IsUnread wrong conclusion.NoMemory = Unit {0}
IsUnread wrong _ = ⊥

-- printing ends in one of three ways
abbrev pub IsOfPrinting : Conclusion → Type 0
IsOfPrinting conclusion.Done = Unit {0}
IsOfPrinting conclusion.Unprinted = Unit {0}
IsOfPrinting conclusion.NoMemory = Unit {0}
IsOfPrinting _ = ⊥

-- ---- what it leaves of the net

-- only a bind that failed raises the count of them
abbrev pub BindCount : Conclusion → ℕ → ℕ → Type 0
BindCount conclusion.BindFailed before now = Rose before now
BindCount conclusion.Done before now = now ≡ before
BindCount (conclusion.Usage fault) before now = now ≡ before
BindCount conclusion.NotBuilt before now = now ≡ before
BindCount (conclusion.Unmade why) before now = now ≡ before
BindCount conclusion.Unprinted before now = now ≡ before
BindCount conclusion.PollFailed before now = now ≡ before
BindCount conclusion.NoMemory before now = now ≡ before

-- only a poll or accept that failed raises the count of them
abbrev pub PollCount : Conclusion → ℕ → ℕ → Type 0
PollCount conclusion.PollFailed before now = Rose before now
PollCount conclusion.Done before now = now ≡ before
PollCount (conclusion.Usage fault) before now = now ≡ before
PollCount conclusion.NotBuilt before now = now ≡ before
PollCount (conclusion.Unmade why) before now = now ≡ before
PollCount conclusion.BindFailed before now = now ≡ before
PollCount conclusion.Unprinted before now = now ≡ before
PollCount conclusion.NoMemory before now = now ≡ before

-- nobody was served
pub record ServesNobody {L P : Type 0} (old new : NetState L P) : Type 0 where
  pub polls : new.polls ≡ old.polls
  pub closed : new.closed ≡ old.closed

abbrev pub NetLeaves : {L P : Type 0} → Conclusion → NetState L P → NetState L P → Type 0
NetLeaves conclusion.Done old new = Unit {0}
NetLeaves (conclusion.Usage fault) old new = new ≡ old
NetLeaves conclusion.NotBuilt old new = new ≡ old
NetLeaves (conclusion.Unmade why) old new = new ≡ old
NetLeaves conclusion.BindFailed old new = new ≡ old
NetLeaves conclusion.Unprinted old new = ServesNobody old new
NetLeaves conclusion.PollFailed old new = Unit {0}
NetLeaves conclusion.NoMemory old new = Unit {0}

-- where serving is done, the last poll told to stop, or the serve limit was met
abbrev pub DoneStops : {L P : Type 0} → Option ℕ → Conclusion → NetState L P → NetState L P → Type 0
DoneStops limit conclusion.Done old new = Stops old new ⊎ MeetsLimit limit old new
DoneStops limit (conclusion.Usage fault) old new = Unit {0}
DoneStops limit conclusion.NotBuilt old new = Unit {0}
DoneStops limit (conclusion.Unmade why) old new = Unit {0}
DoneStops limit conclusion.BindFailed old new = Unit {0}
DoneStops limit conclusion.Unprinted old new = Unit {0}
DoneStops limit conclusion.PollFailed old new = Unit {0}
DoneStops limit conclusion.NoMemory old new = Unit {0}

-- where a poll or an accept failed, none has told to stop
abbrev pub FailsUnstopped : {L P : Type 0} → Conclusion → NetState L P → NetState L P → Type 0
FailsUnstopped conclusion.PollFailed old new = IsTrue new.stopped → IsTrue old.stopped
FailsUnstopped conclusion.Done old new = Unit {0}
FailsUnstopped (conclusion.Usage fault) old new = Unit {0}
FailsUnstopped conclusion.NotBuilt old new = Unit {0}
FailsUnstopped (conclusion.Unmade why) old new = Unit {0}
FailsUnstopped conclusion.BindFailed old new = Unit {0}
FailsUnstopped conclusion.Unprinted old new = Unit {0}
FailsUnstopped conclusion.NoMemory old new = Unit {0}

-- where serving is done, each that was retired is so
abbrev pub DoneAdds : {E : Type 0} → (E → Type 0) → Conclusion → List E → List E → Type 0
DoneAdds Holds conclusion.Done old new = Added Holds old new
DoneAdds Holds (conclusion.Usage fault) old new = Unit {0}
DoneAdds Holds conclusion.NotBuilt old new = Unit {0}
DoneAdds Holds (conclusion.Unmade why) old new = Unit {0}
DoneAdds Holds conclusion.BindFailed old new = Unit {0}
DoneAdds Holds conclusion.Unprinted old new = Unit {0}
DoneAdds Holds conclusion.PollFailed old new = Unit {0}
DoneAdds Holds conclusion.NoMemory old new = Unit {0}

-- the whole server went down
abbrev pub IsDownBy : {L P : Type 0} → Conclusion → NetState L P → NetState L P → Type 0
IsDownBy conclusion.Done old new = ToldStop old new
IsDownBy (conclusion.Usage fault) old new = ⊥
IsDownBy conclusion.NotBuilt old new = ⊥
IsDownBy (conclusion.Unmade why) old new = ⊥
IsDownBy conclusion.BindFailed old new = ⊥
IsDownBy conclusion.Unprinted old new = ⊥
IsDownBy conclusion.PollFailed old new = Unit {0}
IsDownBy conclusion.NoMemory old new = Unit {0}

-- ---- what it leaves of the sink

abbrev pub OutCount : Conclusion → ℕ → ℕ → Type 0
OutCount conclusion.Unprinted before now = Rose before now
OutCount conclusion.Done before now = now ≡ before
OutCount (conclusion.Usage fault) before now = now ≡ before
OutCount conclusion.NotBuilt before now = now ≡ before
OutCount (conclusion.Unmade why) before now = now ≡ before
OutCount conclusion.BindFailed before now = now ≡ before
OutCount conclusion.PollFailed before now = now ≡ before
OutCount conclusion.NoMemory before now = now ≡ before

abbrev pub OutLeaves : List ℕ → Conclusion → List ℕ → List ℕ → Type 0
OutLeaves text conclusion.Done old new = new ≡ old ++ text
OutLeaves text (conclusion.Usage fault) old new = new ≡ old
OutLeaves text conclusion.NotBuilt old new = new ≡ old
OutLeaves text (conclusion.Unmade why) old new = new ≡ old
OutLeaves text conclusion.BindFailed old new = new ≡ old
OutLeaves text conclusion.Unprinted old new = WritesPart text old new
OutLeaves text conclusion.PollFailed old new = new ≡ old ++ text
OutLeaves text conclusion.NoMemory old new = (new ≡ old) ⊎ (new ≡ old ++ text)

-- ---- all that it leaves of a net that tells

-- Where nothing happened to a quiet net, serving answered all: no run broke, all tells, no spill
-- failed, and no longer went by than the timeout.
abbrev pub AnswersAll : {L P : Type 0} → Service → ℕ → Eyes L P → Conclusion → ℕ → ℕ →
    NetState L P → NetState L P → Type 0
AnswersAll service fallen e conclusion before now old new =
    fallen ≡ 0 → IsTrue service.tells.link → IsTrue service.tells.all → IsTrue old.quiet →
    IsStill before now →
    IsBrief service.timeout new →
    DoneAdds (IsAnswered e.state e.faults service.owed) conclusion old.closed new.closed

-- so many were retired for a fault of the application
pub record Fell {L : Type 0} (fallen : ℕ) (old new : List (Retired L)) : Type 0 where
  pub entries : List (Retired L)
  pub whole : new ≡ old ++ entries
  pub count : fallen ≡ app_faults entries

-- before and now are the counts of the spills
pub record Ran {L P : Type 0} (service : Service) (broke : Type 0) (fallen : ℕ) (e : Eyes L P)
    (listen : List Listen)
    (conclusion : Conclusion) (before now : ℕ) (old new : NetState L P) : Type 0 where
  pub headline : Added (EntryHolds service (grounds (IsDownBy conclusion old new) broke) e.state
      e.faults new)
      old.closed new.closed
  pub shut_last : (new.closed ≡ old.closed) ⊎ ShutLast old new
  pub given : RetiresGiven e.plan old new
  pub live : new.live ≡ old.live
  pub quiet : new.quiet ≡ old.quiet
  pub bound : old.polls < new.polls → new.bound ≡ Some listen
  pub settled : SettlesSpills before now old.closed new.closed
  pub fell : Fell fallen old.closed new.closed
  pub net : NetLeaves conclusion old new
  pub unstopped : FailsUnstopped conclusion old new
  pub complete : AnswersAll service fallen e conclusion before now old new

-- The same, where so many runs fell, each of which the tree counts: these are its faults before and
-- now.
pub record RanOver {L P : Type 0} (service : Service) (broke : Type 0) (faults faults' : ℕ)
    (e : Eyes L P) (listen : List Listen)
    (conclusion : Conclusion) (before now : ℕ) (old new : NetState L P) : Type 0 where
  pub fallen : ℕ
  pub ran : Ran service broke fallen e listen conclusion before now old new
  pub counted : added faults fallen ≤ faults'

-- ---- what it leaves of the tree

-- The tree's count of faults rises only where runs read files, or where the file of a table could
-- not be read.
abbrev pub TableCount : Conclusion → ℕ → ℕ → Type 0
TableCount (conclusion.Unmade why) before now = before ≤ now
TableCount conclusion.Done before now = now ≡ before
TableCount (conclusion.Usage fault) before now = now ≡ before
TableCount conclusion.NotBuilt before now = now ≡ before
TableCount conclusion.BindFailed before now = now ≡ before
TableCount conclusion.Unprinted before now = now ≡ before
TableCount conclusion.PollFailed before now = now ≡ before
TableCount conclusion.NoMemory before now = now ≡ before

-- ---- how serving ended

abbrev pub conclusion_of : Result Going ServeFault → Conclusion
conclusion_of (Ok going) = conclusion.Done
conclusion_of (Err fault.Net) = conclusion.PollFailed
conclusion_of (Err fault.NoMemory) = conclusion.NoMemory

-- Serving ended that began while nobody was open, and so many runs fell.
pub record ServedAll {L P : Type 0} (result : Result Going ServeFault) (service : Service)
    (broken : Type 0) (fallen : ℕ) (e : Eyes L P)
    (before now : ℕ) (old new : NetState L P) : Type 0 where
  pub who : List (Peer × P)
  pub served : Served result (EntryHolds service (going_on broken) e.state e.faults)
      (EntryHolds service (shutting_down broken) e.state e.faults)
      e.plan (books old before 0 []) (books new now fallen who)
