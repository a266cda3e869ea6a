-- The parts so far, each trimmed.
use Rattle.std.proofs.Common.{◌≡◌, map}
use Rattle.head_grammar.specs.Classes.{trimmed}
use Rattle.proxy_trust.proofs.Parts.{seen_parts}
use Rattle.proxy_trust.proofs.lists.read_parts.Given as goal

abbrev pub invariant-loop-part : goal.invariant-loop-part
invariant-loop-part l = seen_parts l.parts.items ≡ map trimmed (seen_parts l.yielded)
