-- How the top call answers where nothing happened.
use Rattle.std.proofs.Common.{◌≡◌, ◌⊎◌, inl, inr, ℕ, Bool, true, false, IsTrue, List, refl, ap}
use Rattle.std.proofs.Common.{subst, arith}
use Rattle.std.specs.Prelude.{◌<◌, not, ◌&&◌, is_some, Option, None, Result, Ok, Err}
use Rattle.adjust.specs.declared.types.AppName.TheVariants as app
use Rattle.adjust.specs.declared.types.Command.TheVariants as command
use Rattle.adjust.specs.declared.types.UsageFault.{UsageFault}
use Rattle.apps.specs.declared.fault.TableFault.{TableFault}
use Rattle.apps.specs.declared.row.Row.{Row}
use Rattle.channel.specs.Output.{Input}
use Rattle.channel.specs.Views.{Owed}
use Rattle.outside.specs.Causes.{Rose}
use Rattle.outside.specs.Link.{LinkState}
use Rattle.outside.specs.declared.retired.Retired.{Retired}
use Rattle.outside.specs.declared.types.Peer.{Peer}
use Rattle.waitress_serve.specs.Completeness.{Completes, IsAnswered, IsStill}
use Rattle.waitress_serve.specs.Headline.{Added}
use Rattle.waitress_serve.specs.Made.{CannotMake, Files, LacksTable, can_serve, rows_in, table_at}
use Rattle.waitress_serve.specs.Owed.{told_by}
use Rattle.waitress_serve.specs.Reading.{Reading, is_unbuilt, serves}
use Rattle.waitress_serve.specs.Reports.{Unwritten, Written}
use Rattle.waitress_serve.specs.declared.made.Unmade.{Unmade}
use Rattle.waitress_serve.specs.declared.made.Unmade.TheVariants as unmade

-- a usage fault serves nobody
pub served_is_sound : (asked : Reading) (fault : UsageFault) → asked ≡ Err fault →
    IsTrue (serves asked) → ⊥
served_is_sound asked fault is serving = let none : IsTrue (serves (Err fault)) =
    subst (λ a. IsTrue (serves a)) is serving in cc

-- who can be served is served
pub can_is_serving : (told : Bool) (files : Files) (asked : Reading) →
    IsTrue (can_serve told files asked) → IsTrue (serves asked)
can_is_serving told files (Ok (command.Serve options app)) can = refl
can_is_serving told files (Ok (command.Check options)) can = can
can_is_serving told files (Ok (command.Rehearse connections)) can = can
can_is_serving told files (Ok command.Help) can = can
can_is_serving told files (Err fault) can = can

-- what is served is built
pub served_is_built : (asked : Reading) → IsTrue (serves asked) → IsTrue (is_unbuilt asked) → ⊥
served_is_built (Ok (command.Serve options app)) serving unbuilt = cc
served_is_built (Ok (command.Check options)) serving unbuilt = cc
served_is_built (Ok (command.Rehearse connections)) serving unbuilt = cc
served_is_built (Ok command.Help) serving unbuilt = cc
served_is_built (Err fault) serving unbuilt = cc

-- a file that gives no rows gives no application
no_rows : (found : Option (Result (List Row) TableFault)) → rows_in found ≡ None →
    IsTrue (not (true && not (is_some (rows_in found)))) → ⊥
no_rows found none can = let never : IsTrue (not (true && not false)) =
    subst (λ r. IsTrue (not (true && not (is_some r)))) none can in cc

-- where an application can be made, and no fault of the tree rose, none fails to be made
no_table : (before now : ℕ) (found : Option (Result (List Row) TableFault)) (why : Unmade) →
    IsStill before now → LacksTable true before now found why →
    IsTrue (not (true && not (is_some (rows_in found)))) → ⊥
no_table before now found unmade.NoFile still lacks can =
    no_rows found (ap (λ f. rows_in f) (lacks.1 refl)) can
no_table before now found unmade.Unreadable still lacks can = still lacks
no_table before now found (unmade.Faulty fault) still lacks can =
    no_rows found (ap (λ f. rows_in f) (lacks.1 refl)) can

pub cannot_serve : (spills told entries : Bool) (before now : ℕ) (files : Files) (asked : Reading)
    (why : Unmade) → IsTrue (told_by asked spills (told && entries)) → IsStill before now →
    CannotMake told before now files asked why → IsTrue (can_serve told files asked) → ⊥
cannot_serve spills true entries before now files (Ok (command.Serve options (app.Table file))) why
    tells still cannot can =
    no_table before now (table_at files file) why still cannot can
cannot_serve spills false entries before now files (Ok (command.Serve options (app.Table file))) why
    tells still cannot can = cc
cannot_serve spills told entries before now files (Ok (command.Serve options app.Echo)) why tells
    still cannot can = cannot
cannot_serve spills told entries before now files (Ok (command.Serve options (app.Dir root))) why
    tells still cannot can = cannot
cannot_serve spills told entries before now files (Ok (command.Check options)) why tells still
    cannot can = cannot
cannot_serve spills told entries before now files (Ok (command.Rehearse connections)) why tells
    still cannot can = cannot
cannot_serve spills told entries before now files (Ok command.Help) why tells still cannot can =
    cannot
cannot_serve spills told entries before now files (Err fault) why tells still cannot can = cannot

-- a count that did not rise
pub unraised : (before now : ℕ) → now ≡ before → before < now → ⊥
unraised before now same rose = omega (arith, same, rose)

-- how a report ends of an application that could not be made
pub unmade_ends : (result before now : ℕ) →
    Written 2 result before now ⊎ (Written 5 result before now ⊎ Unwritten result before now) →
    (result ≡ 2) ⊎ ((result ≡ 5) ⊎ ((result ≡ 6) × Rose before now))
unmade_ends result before now reported =
    elim reported [
      | inl w ↦ inl w.status_is
      | inr other ↦ elim other [
        | inl w ↦ inr (inl w.status_is)
        | inr u ↦ inr (inr (u.six, u.rose))
      ]
    ]

-- how a report of want of memory ends
pub memory_ends : (result before now : ℕ) →
    Written 5 result before now ⊎ Unwritten result before now →
    (result ≡ 2) ⊎ ((result ≡ 5) ⊎ ((result ≡ 6) × Rose before now))
memory_ends result before now reported =
    elim reported [
      | inl w ↦ inr (inl w.status_is)
      | inr u ↦ inr (inr (u.six, u.rose))
    ]

module _ {L : Type 0} (state : L → LinkState) (faults : L → ℕ) (owed : Peer → Input → Owed)
    (old new : List (Retired L)) where
  pub completes_done : Added (IsAnswered state faults owed) old new →
      Completes state faults owed 0 old new
  completes_done answered = record { status_is = inl refl; answered = λ _. answered }

  -- want of memory is reported
  pub completes_no_memory : (status before now : ℕ) → Written 5 status before now ⊎ Unwritten status
      before now → IsStill before now → Completes state faults owed status old new
  completes_no_memory status before now reported still =
      elim reported [
        | inl w ↦ let five = w.status_is in record {
          status_is = inr five;
          answered = λ none.
              absurd (omega (arith, none, five));
        }
        | inr w ↦ absurd (still w.rose)
      ]
