-- In memory all tells.
use Rattle.std.proofs.Common.{◌≡◌, ℕ, true, List, [], ◌∷◌, refl, subst, sym}
use Rattle.std.specs.Prelude.{Ok, Err}
use Rattle.adjust.specs.Command.{command}
use Rattle.adjust.specs.declared.types.AppName.{AppName}
use Rattle.adjust.specs.declared.types.AppName.TheVariants as app
use Rattle.adjust.specs.declared.types.Command.TheVariants as command
use Rattle.channel.specs.Views.{telling}
use Rattle.outside.specs.Net.{NetState}
use Rattle.outside.specs.declared.mem_link.MemLink.{MemLink}
use Rattle.outside.specs.declared.plans.LinkPlan.{LinkPlan}
use Rattle.outside.specs.declared.retired.Retired.{Retired}
use Rattle.in_memory.specs.Theorem.{EndsFor, IsSentFront}
use Rattle.poll_loop.specs.Entries.{EntryHolds, Grounds}
use Rattle.poll_loop.specs.Lists.{EachIs}
use Rattle.waitress_serve.specs.Headline.{Added}
use Rattle.waitress_serve.specs.Made.{Files, tells_by}
use Rattle.waitress_serve.specs.Owed.{is_told, owed, service, told_by}
use Rattle.waitress_serve.specs.Reading.{Reading}

app_tells : (named : AppName) → tells_by named true true ≡ true
app_tells app.Echo = refl
app_tells (app.Table file) = refl
app_tells (app.Dir root) = refl

asked_tells : (asked : Reading) → told_by asked true true ≡ true
asked_tells (Ok (command.Serve options named)) = app_tells named
asked_tells (Ok (command.Check options)) = refl
asked_tells (Ok command.Help) = refl
asked_tells (Ok (command.Rehearse connections)) = refl
asked_tells (Err fault) = refl

pub tells : (words : List (List ℕ)) → is_told words true true ≡ true
tells words = asked_tells (command words)

-- what is held to by what tells
pub all_end : (words : List (List ℕ)) (files : Files) (g : Grounds)
    (net : NetState MemLink LinkPlan) (old new : List (Retired MemLink)) →
    Added (EntryHolds (service (telling true true (is_told words true true)) words files) g
    (λ link. link.state) (λ link. link.faults) net) old new →
    Added (EndsFor words files g net) old new
all_end words files g net old new = subst (λ b. Added (EntryHolds
    (service (telling true true b) words files) g
    (λ link. link.state) (λ link. link.faults) net) old new → Added (EndsFor words files g net) old
    new) (sym (tells words)) (λ a. a)

each_front : (words : List (List ℕ)) (files : Files) (g : Grounds)
    (net : NetState MemLink LinkPlan) (entries : List (Retired MemLink)) →
    EachIs (EndsFor words files g net) entries → EachIs (IsSentFront (owed words files)) entries
each_front words files g net [] each = tt
each_front words files g net (entry ∷ entries) each =
    (each.0.prefix refl, each_front words files g net entries each.1)

pub all_fronts : (words : List (List ℕ)) (files : Files) (g : Grounds)
    (net : NetState MemLink LinkPlan) (old new : List (Retired MemLink)) →
    Added (EndsFor words files g net) old new →
    Added (IsSentFront (owed words files)) old new
all_fronts words files g net old new a = record {
  entries = a.entries;
  whole = a.whole;
  each = each_front words files g net a.entries a.each;
}
