-- Internal: the value of a field that stays.
use Rattle.std.specs.Prelude.{ℕ, List}
use Rattle.proxy_trust.specs.declared.kept_field.KeptValue.{KeptValue}
use Rattle.proxy_trust.specs.declared.kept_field.KeptValue.TheVariants.{Sent, Told}

abbrev pub value_of : KeptValue → List ℕ
value_of (Sent value) = value.now
value_of (Told value) = value
