-- The pairs so far were added.
use Rattle.std.proofs.Common.{◌≡◌, take}
use Rattle.wsgi.proofs.variables.Environ.of.Given as goal

abbrev pub invariant-loop-name-2 : goal.invariant-loop-name-2
invariant-loop-name-2 l = record {
  added : l.environ ≡ take l.name-index l.pairs;
}
