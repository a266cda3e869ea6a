use Rattle.std.proofs.Common.{subst, sym}
use Rattle.std.specs.Prelude.{IfOk}
use Rattle.adjust.specs.CommandLine.{words_of}
use Rattle.adjust.specs.Ranges.{KeepsRanges}
use Rattle.adjust.proofs.Commands.{command_no_memory, command_ranges}
use Rattle.adjust.proofs.command.read.Goals as goal

pub returns-in-Ok-clause-memory : goal.returns-in-Ok-clause-memory
returns-in-Ok-clause-memory c = command_no_memory (words_of c.args.words.now)

pub returns-in-Ok-clause-ranges : goal.returns-in-Ok-clause-ranges
returns-in-Ok-clause-ranges c =
    subst (λ r. IfOk r KeepsRanges) (sym c.in-Ok.ensures.command)
    (command_ranges (words_of c.args.words.now))

pub returns-in-Err-clause-memory : goal.returns-in-Err-clause-memory
returns-in-Err-clause-memory c = command_no_memory (words_of c.args.words.now)
