-- The bytes so far are recased, and those from here on stand as they were.
use Rattle.std.proofs.Common.{◌≡◌, ◌++◌, true, take, drop}
use Rattle.task_core.proofs.Recasing.{cased}
use Rattle.task_core.proofs.lines.recase.Given as goal

abbrev pub invariant-loop-byte : goal.invariant-loop-byte
invariant-loop-byte l = record {
  done : take l.byte-index l.name ++ cased l.first (drop l.byte-index l.fn.name) ≡ cased true
      l.fn.name;
  rest : drop l.byte-index l.name ≡ drop l.byte-index l.fn.name;
}
