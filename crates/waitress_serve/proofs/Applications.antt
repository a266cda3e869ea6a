-- What serving an application leaves, by the words and the files.
use Rattle.std.proofs.Common.{◌≡◌, ◌≤◌, ℕ, Bool, true, false, IsTrue, List, length, refl, ap}
use Rattle.std.proofs.Common.{sym, subst, ◌∙◌, arith}
use Rattle.std.specs.Prelude.{All, ◌<◌, ◌&&◌, ◌||◌, not, Option, Some, is_some, Result, Ok}
use Rattle.std.specs.Prelude.{Err, option_map}
use Rattle.adjust.specs.declared.types.Adjustments.{Adjustments}
use Rattle.adjust.specs.declared.types.AppName.{AppName}
use Rattle.adjust.specs.declared.types.AppName.TheVariants as app
use Rattle.adjust.specs.declared.types.Command.TheVariants as command
use Rattle.apps.specs.Echo.{echo_script}
use Rattle.apps.specs.TableScript.{table_script}
use Rattle.apps.specs.declared.row.Row.{Row}
use Rattle.channel.specs.Views.{telling}
use Rattle.dir_app.specs.DirScript.{dir_script}
use Rattle.outside.specs.Causes.{added}
use Rattle.outside.specs.Net.{NetState}
use Rattle.outside.specs.declared.types.Listen.{Listen}
use Rattle.poll_loop.specs.Connections.{HasBroken}
use Rattle.poll_loop.specs.Entries.{Service}
use Rattle.poll_loop.specs.Seat.{Eyes}
use Rattle.waitress_serve.specs.Conclusions.{Concludes, IsOfPrinting, IsOfServing, NetLeaves, Ran}
use Rattle.waitress_serve.specs.Conclusions.{RanOver, TableCount, Works}
use Rattle.waitress_serve.specs.Made.{Files, LacksTable, can_make, rows_in, table_at}
use Rattle.waitress_serve.specs.Owed.{owed_by, owed_where, owed_with, service_for, service_with}
use Rattle.waitress_serve.specs.Reading.{Reading, prints}
use Rattle.waitress_serve.specs.TableFile.{ReadsTable}
use Rattle.waitress_serve.specs.declared.conclusion.Conclusion.{Conclusion}
use Rattle.waitress_serve.specs.declared.conclusion.Conclusion.TheVariants as conclusion
use Rattle.waitress_serve.specs.declared.made.Unmade.{Unmade}
use Rattle.waitress_serve.proofs.Concluded.{none_broke, none_left, ran_none, ran_told}

-- nobody was served
pub nobody_ran : {L P : Type 0} (service : Service) (broke : Type 0) (faults faults' : ℕ)
    (e : Eyes L P) (listen : List Listen) (c : Conclusion) (before now : ℕ) (old new : NetState L P)
    (bound : Option (List Listen)) → faults ≤ faults' → new ≡ record old { bound = bound } →
    now ≡ before → NetLeaves c old new →
    RanOver service broke faults faults' e listen c before now old new
nobody_ran service broke faults faults' e listen c before now old new bound later is same leaves =
    record {
      fallen = 0;
      ran = ran_none service broke 0 e listen c before now old new bound refl is same leaves;
      counted = omega (arith, later);
    }

-- the table tells where the file does
table_known : (links spills all : Bool) → IsTrue (links && (spills && all)) →
    IsTrue (links && (spills && true)) × IsTrue all
table_known links spills true told = (told, refl)
table_known links spills false told = absurd (nothing_told links spills told)
  where
    nothing_told : (a b : Bool) → IsTrue (a && (b && false)) → ⊥
    nothing_told true true told = cc
    nothing_told true false told = cc
    nothing_told false b told = cc

module _ {L P R : Type 0} (links spills : Bool) (files : Files) (options : Adjustments)
    (faults faults' : ℕ) (e : Eyes L P) (listen : List Listen) (c : Conclusion)
    (before now : ℕ) (old new : NetState L P) where
  -- without a run that can fail
  none_fell : (runs : List R) → faults ≤ faults' → All (λ run. 0 < 0) runs →
      added faults (length runs) ≤ faults'
  none_fell runs later all = let none = none_left runs all in omega (arith, none, later)

  pub echo_ran : (runs : List R) → faults ≤ faults' → Ran
      (service_with (telling links spills spills) options echo_script) (HasBroken {R = R} (λ _. 0))
      (length runs) e listen c before now old new →
      All (λ run. 0 < 0) runs →
      RanOver (service_for (telling links spills spills) files
      (Ok (command.Serve options app.Echo))) (IsTrue false) faults faults' e listen c before now
      old new
  echo_ran runs later r all = record {
    fallen = length runs;
    ran = ran_told links (links && (spills && spills)) (links && (spills && spills))
        options.channel_timeout (owed_with options echo_script)
        (owed_by files (Ok (command.Serve options app.Echo)))
        (λ told. (told, refl)) (HasBroken {R = R} (λ _. 0)) (IsTrue false)
        (λ b. absurd (none_broke b)) (length runs) e listen c before now old new r;
    counted = none_fell runs later all;
  }

  pub table_ran : (file : List ℕ) (rows : List Row) (all : Bool) →
      (IsTrue all → table_at files file ≡ Some (Ok rows)) → (runs : List R) → faults ≤ faults' →
      Ran (service_with (telling links spills true) options (table_script rows))
      (HasBroken {R = R} (λ _. 0)) (length runs) e listen c before now old new →
      All (λ run. 0 < 0) runs →
      RanOver (service_for (telling links spills all) files
      (Ok (command.Serve options (app.Table file)))) (IsTrue false) faults faults' e listen c
      before now old new
  table_ran file rows all found runs later r none = record {
    fallen = length runs;
    ran = ran_told links (links && (spills && true)) (links && (spills && all))
        options.channel_timeout (owed_with options (table_script rows))
        (owed_by files (Ok (command.Serve options (app.Table file))))
        (λ told. let known = table_known links spills all told in (
          known.0,
          sym (ap (λ t peer x. owed_where options (option_map table_script (rows_in t)) peer
              x) (found known.1)),
        ))
        (HasBroken {R = R} (λ _. 0)) (IsTrue false) (λ b. absurd (none_broke b)) (length runs) e
        listen c before now old new r;
    counted = none_fell runs later none;
  }

module _ {L P : Type 0} (links spills : Bool) (files : Files) (options : Adjustments)
    (faults faults' : ℕ) (e : Eyes L P) (listen : List Listen) (c : Conclusion)
    (before now : ℕ) (old new : NetState L P) where
  -- the files of a directory are those of its tree, below its root
  pub directory_ran : (name root : List ℕ) (held : Files) (all : Bool) → held ≡ files →
      root ≡ name → (broke : Type 0) (fallen : ℕ) →
      Ran (service_with (telling links spills all) options (dir_script held root)) broke fallen e
      listen c before now old new → added faults fallen ≤ faults' →
      RanOver (service_for (telling links spills all) files
      (Ok (command.Serve options (app.Dir name)))) (IsTrue true) faults faults' e listen c
      before now old new
  directory_ran name root held all same is broke fallen r counted = record {
    fallen = fallen;
    ran = ran_told links (links && (spills && all)) (links && (spills && all))
        options.channel_timeout (owed_with options (dir_script held root))
        (owed_by files (Ok (command.Serve options (app.Dir name))))
        (λ told. (
          told,
          ap (λ h. owed_with options (dir_script h root)) same ∙
              ap (λ r. owed_with options (dir_script files r)) is,
        ))
        broke (IsTrue true) (λ b. refl) fallen e listen c before now old new r;
    counted = counted;
  }

-- ---- how it ended

or_left : (b c : Bool) → IsTrue b → IsTrue (b || c)
or_left true c is = refl
or_left false c is = absurd (let no : IsTrue false = is in cc)

-- what holds cannot fail
pub can_not : (b : Bool) → IsTrue b → b ≡ false → ⊥
can_not true holds fails = cc
can_not false holds fails = cc

-- a table can be made of the rows of its file
pub rows_made : (told : Bool) (files : Files) (file : List ℕ) (rows : List Row) →
    (IsTrue told → table_at files file ≡ Some (Ok rows)) →
    IsTrue (can_make told files (app.Table file))
rows_made false files file rows found = refl
rows_made true files file rows found =
    let is : is_some (rows_in (table_at files file)) ≡ true =
    ap (λ t. is_some (rows_in t)) (found refl) in
    ap (λ b. not (not b)) is

pub serving_concludes : (told : Bool) (before now : ℕ) (files : Files) (options : Adjustments)
    (named : AppName) → IsTrue (can_make told files named) → (c : Conclusion) → IsOfServing c →
    Concludes told before now files (Ok (command.Serve options named)) c
serving_concludes told before now files options named can conclusion.Done is =
    record {
      works = or_left (can_make told files named) false can;
      can = λ _. can;
      sound = refl;
      faultless = refl;
      built = refl;
    }
serving_concludes told before now files options named can (conclusion.Usage fault) is = absurd is
serving_concludes told before now files options named can conclusion.NotBuilt is = absurd is
serving_concludes told before now files options named can (conclusion.Unmade why) is = absurd is
serving_concludes told before now files options named can conclusion.BindFailed is =
    record { serves_is = refl; can = can; faultless = refl; built = refl }
serving_concludes told before now files options named can conclusion.Unprinted is =
    record {
      works = or_left (can_make told files named) false can;
      can = λ _. can;
      sound = refl;
      faultless = refl;
      built = refl;
    }
serving_concludes told before now files options named can conclusion.PollFailed is =
    record { serves_is = refl; can = can; faultless = refl; built = refl }
serving_concludes told before now files options named can conclusion.NoMemory is = tt

-- nothing of the tree failed
pub same_count : (c : Conclusion) (before now : ℕ) → now ≡ before → TableCount c before now
same_count conclusion.Done before now same = same
same_count (conclusion.Usage fault) before now same = same
same_count conclusion.NotBuilt before now same = same
same_count (conclusion.Unmade why) before now same = omega (arith, same)
same_count conclusion.BindFailed before now same = same
same_count conclusion.Unprinted before now same = same
same_count conclusion.PollFailed before now same = same
same_count conclusion.NoMemory before now same = same

-- what is printed works
printing_works : (told : Bool) (files : Files) (asked : Reading) → IsTrue (prints asked) →
    Works told files asked
printing_works told files (Ok (command.Check options)) is =
    record { works = refl; can = λ some. some; sound = refl; faultless = refl; built = refl }
printing_works told files (Ok command.Help) is =
    record { works = refl; can = λ some. some; sound = refl; faultless = refl; built = refl }
printing_works told files (Ok (command.Serve options named)) is =
    absurd (let no : IsTrue false = is in cc)
printing_works told files (Ok (command.Rehearse connections)) is =
    absurd (let no : IsTrue false = is in cc)
printing_works told files (Err fault) is = absurd (let no : IsTrue false = is in cc)

pub printing_concludes : (told : Bool) (before now : ℕ) (files : Files) (asked : Reading) →
    IsTrue (prints asked) → (c : Conclusion) → IsOfPrinting c →
    Concludes told before now files asked c
printing_concludes told before now files asked some conclusion.Done is =
    printing_works told files asked some
printing_concludes told before now files asked some (conclusion.Usage fault) is = absurd is
printing_concludes told before now files asked some conclusion.NotBuilt is = absurd is
printing_concludes told before now files asked some (conclusion.Unmade why) is = absurd is
printing_concludes told before now files asked some conclusion.BindFailed is = absurd is
printing_concludes told before now files asked some conclusion.Unprinted is =
    printing_works told files asked some
printing_concludes told before now files asked some conclusion.PollFailed is = absurd is
printing_concludes told before now files asked some conclusion.NoMemory is = tt

-- ---- what was read of the file of a table

pub rows_of : (told : Bool) (before now : ℕ) (files : Files) (name : List ℕ)
    (made : Result (List Row) Unmade) (rows : List Row) →
    ReadsTable told before now files name made → made ≡ Ok rows →
    (now ≡ before) × (IsTrue told → table_at files name ≡ Some (Ok rows))
rows_of told before now files name made rows is same =
    subst (λ m. ReadsTable told before now files name m) same is

pub lack_of : (told : Bool) (before now : ℕ) (files : Files) (name : List ℕ)
    (made : Result (List Row) Unmade) (why : Unmade) →
    ReadsTable told before now files name made → made ≡ Err why →
    (before ≤ now) × LacksTable told before now (table_at files name) why
lack_of told before now files name made why is same =
    subst (λ m. ReadsTable told before now files name m) same is

pub and_first : (a b : Bool) → IsTrue (a && b) → IsTrue a
and_first true b both = refl
and_first false b both = both
