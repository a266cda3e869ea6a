-- What the words of the program are read as.
use Rattle.std.specs.Prelude.{Bool, true, false, Result, Ok, Err}
use Rattle.adjust.specs.declared.types.Command.{Command}
use Rattle.adjust.specs.declared.types.Command.TheVariants as command
use Rattle.adjust.specs.declared.types.UsageFault.{UsageFault}

-- a command, or what is wrong with the words
abbrev pub Reading : Type 0
Reading = Result Command UsageFault

-- the words are a usage fault
abbrev pub is_faulty : Reading → Bool
is_faulty (Err fault) = true
is_faulty (Ok command) = false

-- connections are to be served
abbrev pub serves : Reading → Bool
serves (Ok (command.Serve options app)) = true
serves _ = false

-- a text is printed, and nothing else is done
abbrev pub prints : Reading → Bool
prints (Ok (command.Check options)) = true
prints (Ok command.Help) = true
prints _ = false

-- what is asked for isn't built yet
abbrev pub is_unbuilt : Reading → Bool
is_unbuilt (Ok (command.Rehearse connections)) = true
is_unbuilt _ = false
