-- What is reported of a status.
use Rattle.std.specs.Prelude.{◌≡◌, ◌≢◌, ℕ, Bool, IsTrue, List, [], ◌++◌, codes, Err}
use Rattle.adjust.specs.Texts.{fault_text_of}
use Rattle.adjust.specs.declared.types.UsageFault.{UsageFault}
use Rattle.outside.specs.Causes.{Rose}
use Rattle.waitress_serve.specs.Made.{CannotMake, Files, reason}
use Rattle.waitress_serve.specs.Reading.{Reading, is_unbuilt, serves}
use Rattle.waitress_serve.specs.Status.{WritesPart}
use Rattle.waitress_serve.specs.declared.made.Unmade.{Unmade}
use Rattle.waitress_serve.specs.declared.texts.Fault.{Fault}
use Rattle.waitress_serve.specs.declared.texts.Fault.TheVariants as fault

abbrev pub line_of : List ℕ → List ℕ
line_of text = codes "waitress-serve: " ++ (text ++ codes "\n")

-- why the application could not be made
abbrev pub unmade_line : List ℕ → List ℕ
unmade_line why = line_of (codes "the application could not be made: " ++ why)

-- What is asked for, over these files, may end with this status and text. Whether the tree tells of
-- its files, and the counts of its faults before and now, show why an application could not be
-- made.
pub data Reports (told : Bool) (before now : ℕ) (files : Files) (asked : Reading) : ℕ → List ℕ →
    Type 0 where
  silence : Reports told before now files asked 0 []
  usage : (wrong : UsageFault) → asked ≡ Err wrong → Reports told before now files asked 1
      (line_of (fault_text_of wrong))
  unbuilt : IsTrue (is_unbuilt asked) → Reports told before now files asked 2
      (unmade_line (codes "not built"))
  lacking : (why : Unmade) → CannotMake told before now files asked why →
      Reports told before now files asked 2 (unmade_line (reason why))
  binding : IsTrue (serves asked) → Reports told before now files asked 3
      (line_of (codes "bind failed"))
  polling : IsTrue (serves asked) → Reports told before now files asked 4
      (line_of (codes "poll failed"))
  memory : Reports told before now files asked 5 (line_of (codes "out of memory"))

-- such a text was written
pub record Writes (Is : List ℕ → Type 0) (old new : List ℕ) : Type 0 where
  pub text : List ℕ
  pub is : Is text
  pub whole : new ≡ old ++ text

-- the first bytes of the text of some status were written
pub record WritesSome (Is : ℕ → List ℕ → Type 0) (old new : List ℕ) : Type 0 where
  pub status : ℕ
  pub text : List ℕ
  pub is : Is status text
  pub part : WritesPart text old new

-- ---- internal: what the report of a fault leaves of the sink

abbrev pub status_of : Fault → ℕ
status_of fault.NotBuilt = 2
status_of fault.BindFailed = 3
status_of fault.PollFailed = 4
status_of fault.NoMemory = 5

abbrev pub text_of : Fault → List ℕ
text_of fault.NotBuilt = unmade_line (codes "not built")
text_of fault.BindFailed = line_of (codes "bind failed")
text_of fault.PollFailed = line_of (codes "poll failed")
text_of fault.NoMemory = line_of (codes "out of memory")

-- the text was written, and its status is answered
pub record Written (status result before now : ℕ) : Type 0 where
  pub status_is : result ≡ status
  pub faultless : now ≡ before

-- it could not be written
pub record Unwritten (result before now : ℕ) : Type 0 where
  pub six : result ≡ 6
  pub rose : Rose before now

-- what was written is the text of the answered status, or a part of it
pub record Leaves (text : List ℕ) (status result : ℕ) (old new : List ℕ) : Type 0 where
  pub status_is : result ≢ 6 → result ≡ status
  pub whole : result ≢ 6 → new ≡ old ++ text
  pub part : WritesPart text old new
