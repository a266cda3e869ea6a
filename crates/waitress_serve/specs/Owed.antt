-- What is owed to a connection, by the words and the files.
use Rattle.std.specs.Prelude.{ℕ, Bool, false, List, [], Option, None, Some, Ok}
use Rattle.adjust.specs.Command.{command}
use Rattle.adjust.specs.declared.types.Adjustments.{Adjustments}
use Rattle.adjust.specs.declared.types.Command.TheVariants as command
use Rattle.channel.specs.Output.{Input, Script, has_closed, responses}
use Rattle.channel.specs.Views.{Owed, Telling}
use Rattle.outside.specs.declared.types.Peer.{Peer}
use Rattle.poll_loop.specs.Entries.{Service}
use Rattle.waitress_serve.specs.Made.{Files, script_of, tells_by}
use Rattle.waitress_serve.specs.Reading.{Reading}
use Rattle.waitress_serve.specs.Settings.{settings_for}
use Rattle.waitress_serve.specs.Status.{timeout_by}

-- what a server with these options owes a peer for what it sent, by the script of its application
abbrev pub owed_with : Adjustments → Script → Peer → Input → Owed
owed_with options script peer x = record {
  output = responses (settings_for options).limits (settings_for options).site script peer x;
  closes = has_closed (settings_for options).limits (settings_for options).site script peer x;
}

abbrev pub nothing : Owed
nothing = record { output = []; closes = false }

-- where there is no application, nothing is owed
abbrev pub owed_where : Adjustments → Option Script → Peer → Input → Owed
owed_where options None peer x = nothing
owed_where options (Some script) peer x = owed_with options script peer x

-- by what is asked for; who isn't served is owed nothing
abbrev pub owed_by : Files → Reading → Peer → Input → Owed
owed_by files (Ok (command.Serve options app)) peer x = owed_where options (script_of files app)
    peer x
owed_by files _ peer x = nothing

-- what a server that was started with these words, over these files, owes a peer for what it sent
abbrev pub owed : List (List ℕ) → Files → Peer → Input → Owed
owed words files = owed_by files (command words)

abbrev pub told_by : Reading → Bool → Bool → Bool
told_by (Ok (command.Serve options app)) spills files = tells_by app spills files
told_by _ spills files = spills

-- whether the application of these words tells, by whether spills and files do
abbrev pub is_told : List (List ℕ) → Bool → Bool → Bool
is_told words = told_by (command words)

-- ---- by what connections are judged

abbrev pub service_with : Telling → Adjustments → Script → Service
service_with tells options script = record {
  tells = tells;
  timeout = options.channel_timeout;
  owed = owed_with options script;
}

abbrev pub service_for : Telling → Files → Reading → Service
service_for tells files asked = record {
  tells = tells;
  timeout = timeout_by asked;
  owed =
      owed_by files asked;
}

abbrev pub service : Telling → List (List ℕ) → Files → Service
service tells words files = record {
  tells = tells;
  timeout = timeout_by (command words);
  owed = owed words files;
}
