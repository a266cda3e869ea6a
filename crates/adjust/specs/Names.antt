-- What an answer keeps: the name of a file is text, in UTF-8, as the words are.
use Rattle.std.specs.Prelude.{IsUtf8, ⊤}
use Rattle.adjust.specs.declared.types.AppName.{AppName}
use Rattle.adjust.specs.declared.types.AppName.TheVariants.{Echo, Table, Dir}
use Rattle.adjust.specs.declared.types.Command.{Command}
use Rattle.adjust.specs.declared.types.Command.TheVariants.{Serve, Check, Rehearse, Help}

abbrev pub IsNamed : AppName → Type 0
IsNamed Echo = ⊤
IsNamed (Table file) = IsUtf8 file
IsNamed (Dir root) = IsUtf8 root

abbrev pub KeepsNames : Command → Type 0
KeepsNames (Serve adjustments app) = IsNamed app
KeepsNames (Check adjustments) = ⊤
KeepsNames (Rehearse connections) = ⊤
KeepsNames Help = ⊤
