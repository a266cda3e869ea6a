use Rattle.std.proofs.Common.{IsTrue, refl, subst, sym}
use Rattle.in_memory.proofs.Telling.{all_end, all_fronts, tells}
use Rattle.in_memory.proofs.run_in_memory.Goals as goal

pub returns-clause-fronts : goal.returns-clause-fronts
returns-clause-fronts g c = all_fronts _ _ _ _ _ _ (all_end _ _ _ _ _ _
    (c.run.ensures.headline refl))

pub returns-clause-ends : goal.returns-clause-ends
returns-clause-ends g c = all_end _ _ _ _ _ _ (c.run.ensures.headline refl)

pub returns-clause-spills : goal.returns-clause-spills
returns-clause-spills g c = c.run.ensures.settled refl

pub returns-clause-runs : goal.returns-clause-runs
returns-clause-runs g c = c.run.ensures.fell refl

pub returns-clause-given : goal.returns-clause-given
returns-clause-given g c = c.run.ensures.given refl

pub returns-clause-limited : goal.returns-clause-limited
returns-clause-limited g c = c.run.ensures.limited refl

pub returns-clause-shut_last : goal.returns-clause-shut_last
returns-clause-shut_last g c = c.run.ensures.shut_last refl

pub returns-clause-err_text : goal.returns-clause-err_text
returns-clause-err_text g c = c.run.ensures.err_text refl

pub returns-clause-out_text : goal.returns-clause-out_text
returns-clause-out_text g c = c.run.ensures.out_text refl

pub returns-clause-files : goal.returns-clause-files
returns-clause-files g c = c.run.ensures.files refl

pub returns-clause-complete : goal.returns-clause-complete
returns-clause-complete g c = λ sound. c.run.ensures.complete refl refl refl
    (subst IsTrue (sym (tells _)) refl) sound.can sound.quiet sound.brief sound.bind sound.poll
    sound.spills sound.tree sound.out sound.err

pub returns-clause-status : goal.returns-clause-status
returns-clause-status g c = record {
  zero = c.run.ensures.zero;
  stopped = c.run.ensures.stopped refl;
  printing = c.run.ensures.printing;
  one = c.run.ensures.one;
  faulty = c.run.ensures.faulty;
  two = c.run.ensures.two;
  unbuilt = c.run.ensures.unbuilt;
  unmade = c.run.ensures.unmade;
  three = c.run.ensures.three;
  four = c.run.ensures.four;
  six = c.run.ensures.six;
  bind_failed = c.run.ensures.bind_failed;
  poll_failed = c.run.ensures.poll_failed;
  out_failed = c.run.ensures.out_failed;
  err_failed = c.run.ensures.err_failed;
  no_other = c.run.ensures.no_other;
}
