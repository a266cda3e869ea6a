-- What a channel owes, by what it was opened with.
use Rattle.std.specs.Prelude.{◌≡◌, ◌≤◌, ℕ, Bool, true, false, length, Option, Some, None}
use Rattle.outside.specs.declared.types.End.{End}
use Rattle.outside.specs.declared.types.End.TheVariants as over
use Rattle.request_stream.specs.Units.{units}
use Rattle.request_stream.specs.declared.types.Limits.{Limits}
use Rattle.channel.specs.Output.{Input, Script, has_closed, responses}
use Rattle.channel.specs.Views.{Owed}
use Rattle.channel.specs.declared.shared.Fixed.{Fixed}

-- the answers to an input, by what the channel was opened with, and whether the last one closes
abbrev pub owed_by : {A : Type 0} → (A → Script) → Fixed A → Input → Owed
owed_by script fixed x = record {
  output = responses fixed.limits fixed.site (script fixed.app) fixed.peer x;
  closes = has_closed fixed.limits fixed.site (script fixed.app) fixed.peer x;
}

-- it may have died while units were taken in, which are then lost
abbrev pub loses_units : Option End → Bool
loses_units None = false
loses_units (Some over.Done) = false
loses_units (Some over.LinkFault) = false
loses_units (Some over.SpillFault) = true
loses_units (Some over.AppFault) = false
loses_units (Some over.NoMemory) = true
loses_units (Some (over.TimedOut touched now)) = false
loses_units (Some over.ShutDown) = false

-- Of the units that an input asks for so many were put: all, unless some may have been lost.
pub record PutsAsked (limits : Limits) (x : Input) (put : ℕ) (dead : Option End) : Type 0 where
  pub most : put ≤ length (units limits x)
  pub all : loses_units dead ≡ false → put ≡ length (units limits x)
