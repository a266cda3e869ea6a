-- The parts that a task writes, one after the other.
use Rattle.std.proofs.Common.{◌≡◌, arith, length, ℕ, Bool, true, false, IsTrue, List, [], ◌∷◌, ◌++◌}
use Rattle.std.proofs.Common.{Option, Some, None, refl, ap, sym, subst, ◌∙◌, append_assoc}
use Rattle.std.proofs.Common.{append-nil}
use Rattle.std.specs.Prelude.{is_some, not, unwrap_or}
use Rattle.task_core.specs.Answer.{Answer}
use Rattle.task_core.specs.Chains.{Answers, Takes, TakesAll, TakesScript, Unless, ended_by, joined}
use Rattle.task_core.specs.Steps.{Ends, Follows, is_under_way, onto, remaining, text_of}
use Rattle.task_core.specs.declared.task.Task.{Task}
use Rattle.task_core.specs.declared.task.Wrote.{Wrote}
use Rattle.wsgi.specs.declared.step.Step.{Step}

-- a part that says nothing of the end leaves it to those behind it
ended_behind : (wrote : Wrote) (parts : List Wrote) → wrote.ended ≡ None →
    ended_by (wrote ∷ parts) ≡ ended_by parts
ended_behind wrote [] open_still = open_still
ended_behind wrote (part ∷ parts) open_still = refl

onto_both : (a b : List ℕ) (answer : Answer) → onto a (onto b answer) ≡ onto (a ++ b) answer
onto_both a b answer =
    ap (λ text. record { text = text; closes = answer.closes }) (sym (append_assoc a b answer.text))

-- the last part is the rest of the answer
last_part : (text : List ℕ) (closes : Bool) (left : Answer) →
    left ≡ record { text = text; closes = closes } →
    left ≡ record { text = text ++ []; closes = closes }
last_part text closes left is = is ∙ ap (λ t. record { text = t; closes = closes })
    (sym (append-nil text))

-- a text in front of an answer that ends
ends_onto : (ended : Option Bool) (text rest : List ℕ) (whole left : Answer) →
    whole ≡ onto text left →
    Ends ended rest left → Ends ended (text ++ rest) whole
ends_onto None text rest whole left is ends = ends
ends_onto (Some closes) text rest whole left is ends = is ∙ ap (onto text) ends

follows_onto : (ended : Option Bool) (text behind : List ℕ) (whole old new : List Step → Answer) →
    ((rest : List Step) → whole rest ≡ onto text (old rest)) → Follows ended behind old new →
    Follows ended (text ++ behind) whole new
follows_onto None text behind whole old new is follows =
    λ rest. is rest ∙ (ap (onto text) (follows rest) ∙ onto_both text behind (new rest))
follows_onto (Some closes) text behind whole old new is follows = λ rest. is rest ∙
    ap (onto text) (follows rest)

-- what stands in a whole script, by what a step's part says of the end
module _ (old new : Task) (step : Step) (rest : List Step) (wrote : Wrote) (parts : List Wrote)
    (behind : TakesScript new rest parts → Ends (ended_by parts) (joined parts)
    (remaining new rest)) where
  step_ends : (ended : Option Bool) → wrote.ended ≡ ended →
      Follows ended (text_of wrote) (λ r. remaining old (step ∷ r)) (remaining new) →
      Unless ended parts (TakesScript new rest parts) →
      Ends (ended_by (wrote ∷ parts)) (joined (wrote ∷ parts)) (remaining old (step ∷ rest))
  step_ends None is follows more =
      ends_onto (ended_by (wrote ∷ parts)) (text_of wrote) (joined parts)
      (remaining old (step ∷ rest)) (remaining new rest)
      (follows rest)
      (subst (λ e. Ends e (joined parts) (remaining new rest)) (sym (ended_behind wrote parts is))
      (behind more))
  step_ends (Some closes) is follows none =
      subst (λ (ps : List Wrote). Ends (ended_by (wrote ∷ ps)) (joined (wrote ∷ ps))
      (remaining old (step ∷ rest))) (sym none)
      (subst (λ e. Ends e (text_of wrote ++ []) (remaining old (step ∷ rest))) (sym is)
      (last_part (text_of wrote) closes (remaining old (step ∷ rest)) (follows rest)))

end_ends : (ended : Option Bool) (text : List ℕ) (left : Answer) → Ends ended text left →
    Ends ended (text ++ []) left
end_ends None text left ends = ends
end_ends (Some closes) text left ends = last_part text closes left ends

-- a whole script
script_ends : (task : Task) (script : List Step) (parts : List Wrote) →
    TakesScript task script parts →
    Ends (ended_by parts) (joined parts) (remaining task script)
script_ends task [] [] taken = absurd taken
script_ends task [] (wrote ∷ parts) taken =
    subst (λ (ps : List Wrote). Ends (ended_by (wrote ∷ ps)) (joined (wrote ∷ ps))
    (remaining task [])) (sym taken.2)
    (end_ends wrote.ended (text_of wrote) (remaining task []) taken.1.answer)
script_ends task (step ∷ rest) [] taken = absurd taken
script_ends task (step ∷ rest) (wrote ∷ parts) taken =
    step_ends task taken.0 step rest wrote parts (script_ends taken.0 rest parts)
    wrote.ended refl taken.1.answer taken.2

-- what follows some steps, and whether there may be more of them
pub record Leaves (task : Task) (steps : List Step) (parts : List Wrote) (left : Task) : Type 0
  where
    pub follows : Follows (ended_by parts) (joined parts) (λ rest. remaining task (steps ++ rest))
        (remaining left)
    pub under_way : is_under_way left ≡ not (is_some (ended_by parts))

none_taken : (task left : Task) → IsTrue (is_under_way task) → left ≡ task → Leaves task [] [] left
none_taken task left begun same = record {
  follows = λ rest. ap (λ (t : Task). remaining t rest) (sym same);
  under_way = ap is_under_way same ∙ begun;
}

-- a part that ended the answer is the last one
module _ (old next left : Task) (step : Step) (wrote : Wrote) (over : is_under_way next ≡ false)
  where
    stays_last : (closes : Bool) → wrote.ended ≡ Some closes →
        ((rest : List Step) → remaining old (step ∷ rest) ≡ record
        { text = text_of wrote; closes = closes }) →
        (steps : List Step) (parts : List Wrote) → TakesAll next steps parts left →
        Leaves old (step ∷ steps) (wrote ∷ parts) left
    stays_last closes is last [] [] same = record {
      follows = subst (λ e. Follows e (text_of wrote ++ []) (λ rest. remaining old (step ∷ rest))
          (remaining left)) (sym is)
          (λ rest. last_part (text_of wrote) closes (remaining old (step ∷ rest)) (last rest));
      under_way = ap is_under_way same ∙ (over ∙ sym (ap (λ e. not (is_some e)) is));
    }
    stays_last closes is last [] (part ∷ parts) taken = absurd taken
    stays_last closes is last (next_step ∷ steps) [] taken = absurd taken
    stays_last closes is last (next_step ∷ steps) (part ∷ parts) taken =
        let no : true ≡ false = sym taken.1.allowed ∙ over in absurd (cc)

module _ (old next left : Task) (step : Step) (steps : List Step) (wrote : Wrote)
    (parts : List Wrote)
    (taken : Takes old (Some step) wrote next) (more : TakesAll next steps parts left)
    (behind : IsTrue (is_under_way next) → Leaves next steps parts left) where
  one_more : (ended : Option Bool) → wrote.ended ≡ ended →
      Follows ended (text_of wrote) (λ r. remaining old (step ∷ r)) (remaining next) →
      Leaves old (step ∷ steps) (wrote ∷ parts) left
  one_more None is follows =
      let goes : IsTrue (is_under_way next) = taken.under_way ∙ ap (λ e. not (is_some e)) is in
      let all = behind goes in
      let same : ended_by (wrote ∷ parts) ≡ ended_by parts = ended_behind wrote parts is in
      record {
        follows = subst (λ e. Follows e (text_of wrote ++ joined parts)
            (λ rest. remaining old (step ∷ (steps ++ rest))) (remaining left)) (sym same)
            (follows_onto (ended_by parts) (text_of wrote) (joined parts)
            (λ rest. remaining old (step ∷ (steps ++ rest)))
            (λ rest. remaining next (steps ++ rest)) (remaining left)
            (λ rest. follows (steps ++ rest)) all.follows);
        under_way = all.under_way ∙ sym (ap (λ e. not (is_some e)) same);
      }
  one_more (Some closes) is follows =
      stays_last old next left step wrote (taken.under_way ∙ ap (λ e. not (is_some e)) is) closes is
      follows steps parts more

steps_leave : (task : Task) (steps : List Step) (parts : List Wrote) (left : Task) →
    IsTrue (is_under_way task) →
    TakesAll task steps parts left → Leaves task steps parts left
steps_leave task [] [] left begun taken = none_taken task left begun taken
steps_leave task [] (wrote ∷ parts) left begun taken = absurd taken
steps_leave task (step ∷ steps) [] left begun taken = absurd taken
steps_leave task (step ∷ steps) (wrote ∷ parts) left begun taken =
    one_more task taken.0 left step steps wrote parts taken.1 taken.2
    (λ goes. steps_leave taken.0 steps parts left goes taken.2) wrote.ended refl taken.1.answer

-- what was written is the front of the answer
front_of : (ended : Option Bool) (text : List ℕ) (old new : List Step → Answer) →
    Follows ended text old new →
    (rest : List Step) → (more : List ℕ) × ((old rest).text ≡ text ++ more)
front_of None text old new follows rest = (
  (new rest).text,
  ap (λ (a : Answer). a.text) (follows rest),
)
front_of (Some closes) text old new follows rest =
    ([], ap (λ (a : Answer). a.text) (follows rest) ∙ sym (append-nil text))

pub answers : (task : Task) (answer_to : List Step → Answer) → IsTrue (is_under_way task) →
    ((script : List Step) → remaining task script ≡ answer_to script) → Answers task answer_to
answers task answer_to begun same = record {
  front = λ steps parts left taken rest.
      let front = front_of (ended_by parts) (joined parts) (λ r. remaining task (steps ++ r))
      (remaining left)
      (steps_leave task steps parts left begun taken).follows rest in
      (front.0, ap (λ (a : Answer). a.text) (sym (same (steps ++ rest))) ∙ front.1);
  goes_on = λ steps parts left taken. (steps_leave task steps parts left begun taken).under_way;
  whole = λ script parts taken.
      subst (Ends (ended_by parts) (joined parts)) (same script)
      (script_ends task script parts taken);
}

-- what a task writes for a whole script
pub record Writes (task : Task) (script : List Step) (text : List ℕ) (closes : Bool) : Type 0 where
  pub parts : List Wrote
  pub taken : TakesScript task script parts
  pub text_is : text ≡ joined parts
  pub closes_is : ended_by parts ≡ Some closes

-- the rest of it behind a part
pub behind_part : (old new : Task) (step : Step) (rest : List Step) (wrote : Wrote) (text : List ℕ)
    (closes : Bool) →
    Takes old (Some step) wrote new → wrote.ended ≡ None → Writes new rest text closes →
    Writes old (step ∷ rest) (text_of wrote ++ text) closes
behind_part old new step rest wrote text closes taken is more = record {
  parts = wrote ∷ more.parts;
  taken = (
    new,
    taken,
    subst (λ e. Unless e more.parts (TakesScript new rest more.parts)) (sym is)
        more.taken,
  );
  text_is = ap (λ t. text_of wrote ++ t) more.text_is;
  closes_is = ended_behind wrote more.parts is ∙ more.closes_is;
}

-- a part that ended it
pub last_step : (old new : Task) (step : Step) (rest : List Step) (wrote : Wrote) (closes : Bool) →
    Takes old (Some step) wrote new → wrote.ended ≡ Some closes →
    Writes old (step ∷ rest) (text_of wrote) closes
last_step old new step rest wrote closes taken is = record {
  parts = wrote ∷ [];
  taken = (new, taken, subst (λ e. Unless e [] (TakesScript new rest [])) (sym is) refl);
  text_is = sym (append-nil (text_of wrote));
  closes_is = is;
}

-- the part that the end of the script ended it with
pub at_script_end : (old new : Task) (wrote : Wrote) (closes : Bool) →
    Takes old None wrote new → wrote.ended ≡ Some closes → Writes old [] (text_of wrote) closes
at_script_end old new wrote closes taken is = record {
  parts = wrote ∷ [];
  taken = (new, taken, refl);
  text_is = sym (append-nil (text_of wrote));
  closes_is = is;
}

-- the end of a script ends an answer
pub ends_there : (ended : Option Bool) (text : List ℕ) (left : Answer) → Ends ended text left →
    ended ≡ Some (unwrap_or ended false)
ends_there None text left ends = absurd ends
ends_there (Some closes) text left ends = refl

pub no_steps : (steps : List Step) → length steps ≡ 0 → steps ≡ []
no_steps [] none = refl
no_steps (step ∷ steps) none = absurd (omega (arith, none))
