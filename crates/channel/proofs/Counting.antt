-- As many units were put as the input asks for.
use Rattle.std.proofs.Common.{◌≡◌, false, IsTrue, length, map, take, Option, Some}
use Rattle.std.proofs.Common.{None}
use Rattle.std.proofs.Common.{refl, sym, ap, subst, ◌∙◌, arith}
use Rattle.std.proofs.lemmas.List.{length-map, length-take}
use Rattle.outside.specs.declared.types.End.{End}
use Rattle.request_stream.specs.Asks.{asks}
use Rattle.request_stream.specs.Units.{units}
use Rattle.channel.proofs.Asked.{asked_length}
use Rattle.channel.specs.Agreement.{Agrees, Known, death_of}
use Rattle.channel.specs.Histories.{LeftPast, RightPast}
use Rattle.channel.specs.Output.{Input}
use Rattle.channel.specs.Owed.{PutsAsked, loses_units}
use Rattle.channel.specs.Sides.{KeepsSide, Side}
use Rattle.channel.specs.State.{State}
use Rattle.channel.specs.declared.types.Cause.{Cause}

unlost_by : (killed : Option End) (broke : Option Cause) →
    loses_units (death_of killed broke) ≡ false → loses_units killed ≡ false
unlost_by (Some end) broke h = h
unlost_by None broke h = refl

module _ {A R S : Type 0} (known : Known A R S) (state : State A R S) (left : LeftPast S)
    (right : RightPast S) (side : Side) (agrees : Agrees known state left right)
    (keeps : KeepsSide known.spill_tells state.fixed.value.limits state.fixed.value.window.timeout
    side left) where
  puts : PutsAsked state.fixed.value.limits side.story.fed (length left.put) state.dead
  puts =
      let count = length-map left.put asks in
      let first = asked_length (map asks left.put)
      (take (length left.put) (units state.fixed.value.limits side.story.fed)) keeps.front in
      let cut = length-take (length left.put) (units state.fixed.value.limits side.story.fed) in
      record {
        most = omega (arith, count, first, cut);
        all = λ unlost.
            sym count ∙ asked_length (map asks left.put)
            (units state.fixed.value.limits side.story.fed)
            (keeps.asked (unlost_by left.killed right.broke
            (ap loses_units (sym agrees.death.dead_is) ∙ unlost)));
      }

  pub puts_asked : IsTrue side.tells → PutsAsked state.fixed.value.limits side.link.arrivals
      (length left.put) state.dead
  puts_asked tells =
      subst (λ (x : Input). PutsAsked state.fixed.value.limits x (length left.put) state.dead)
      (keeps.fed tells) puts
