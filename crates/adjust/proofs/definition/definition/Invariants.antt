-- The options so far are in the command.
use Rattle.std.proofs.Common.{◌≡◌, map, take}
use Rattle.clap.specs.Words.{app_of}
use Rattle.adjust.specs.CommandLine.{command_with, option_rule}
use Rattle.adjust.specs.Options.{row_of}
use Rattle.adjust.proofs.definition.definition.Given as goal

abbrev pub invariant-loop-row : goal.invariant-loop-row
invariant-loop-row l =
    app_of l.command ≡ command_with (map option_rule (map row_of (take l.row-index l.row-items)))
