-- Field lines that were added one behind the other.
use Rattle.std.proofs.lemmas.Grind.{flat_map-append}

pub ruleset lines = (flat_map-append)
