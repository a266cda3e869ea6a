-- By what it is served, when serving ends, and what is printed.
use Rattle.std.specs.Prelude.{◌≡◌, ◌+◌, ℕ, IsTrue, List, [], ◌∷◌, ◌++◌, length, take, codes, Option}
use Rattle.std.specs.Prelude.{None, Some, Ok}
use Rattle.adjust.specs.Texts.{check_text_of, help_text_of, listen_text}
use Rattle.adjust.specs.declared.types.Adjustments.{Adjustments}
use Rattle.adjust.specs.declared.types.Command.TheVariants as command
use Rattle.outside.specs.Causes.{Rose}
use Rattle.outside.specs.Net.{NetState}
use Rattle.outside.specs.declared.types.Listen.{Listen}
use Rattle.waitress_serve.specs.Reading.{Reading}

-- a call of poll told to stop
pub record ToldStop {L P : Type 0} (old new : NetState L P) : Type 0 where
  pub polled : Rose old.polls new.polls
  pub stopped : IsTrue new.stopped

-- so many connections as are to be served came since, and were retired
pub record MeetsLimit {L P : Type 0} (limit : Option ℕ) (old new : NetState L P) : Type 0 where
  pub count : ℕ
  pub limited : limit ≡ Some count
  pub came : length new.given ≡ length old.given + count
  pub went : length new.closed ≡ length old.closed + count

-- ---- by what it is served

-- the addresses that a server with these options listens at
abbrev pub addresses_or : Listen → List Listen → List Listen
addresses_or one [] = one ∷ []
addresses_or one (listen ∷ rest) = listen ∷ rest

abbrev pub addresses_of : Adjustments → List Listen
addresses_of options = addresses_or (record { host = options.host; port = options.port })
    options.listen

abbrev pub listen_by : Reading → List Listen
listen_by (Ok (command.Serve options app)) = addresses_of options
listen_by _ = []

-- after how many connections serving ends
abbrev pub limit_by : Reading → Option ℕ
limit_by (Ok (command.Serve options app)) = options.serve_limit
limit_by _ = None

-- after how many seconds an idle connection ends
abbrev pub timeout_by : Reading → ℕ
timeout_by (Ok (command.Serve options app)) = options.channel_timeout
timeout_by _ = 0

-- ---- what is printed

-- the line that tells one address
abbrev pub serving_line : Listen → List ℕ
serving_line listen = codes "Serving on http://" ++ (listen_text listen ++ codes "\n")

-- a line for each address
unfoldable pub serving_lines : List Listen → List ℕ
serving_lines [] = []
serving_lines (listen ∷ rest) = serving_line listen ++ serving_lines rest

-- what is printed: before serving, or instead of it
abbrev pub printed : Reading → List ℕ
printed (Ok (command.Serve options app)) = serving_lines (addresses_of options)
printed (Ok (command.Check options)) = check_text_of options
printed (Ok command.Help) = help_text_of
printed _ = []

-- the first bytes of a text were written
pub record WritesPart (text old new : List ℕ) : Type 0 where
  pub count : ℕ
  pub written : new ≡ old ++ take count text
