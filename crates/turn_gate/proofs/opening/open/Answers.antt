use Rattle.std.proofs.Common.{rules, refl, inl}
use Rattle.turn_gate.specs.Gate.{vacant}
use Rattle.turn_gate.proofs.opening.open.Goals as goal

pub vacant-requires : goal.vacant-requires
vacant-requires g c = inl (vacant _ refl (search rules) refl)
