-- With what the program ends where the net of the machine can't be had.
use Rattle.std.specs.Prelude.{ℕ}
use Rattle.outside.specs.declared.types.NetFault.{NetFault}
use Rattle.outside.specs.declared.types.NetFault.TheVariants as fault

-- want of memory, or anything else
abbrev pub status_for : NetFault → ℕ
status_for fault.NoMemory = 5
status_for fault.Failed = 7
