-- An answer, seen from behind some of its steps.
use Rattle.std.proofs.Common.{◌≡◌, ℕ, suc, Bool, true, false, List, [], ◌∷◌, ◌++◌, length, take}
use Rattle.std.proofs.Common.{cond, refl, ap, sym, ◌∙◌, append_assoc, append-nil}
use Rattle.std.specs.Prelude.{nat_lt, ◌&&◌, ◌||◌, not}
use Rattle.std.proofs.lemmas.List.Folds.{list_any-append}
use Rattle.task_core.specs.Answer.{Answer, answer, answer_to}
use Rattle.task_core.specs.Remaining.{before_break, breaks, is_break}
use Rattle.task_core.specs.Scripts.{failure_behind, has_bytes, has_head, has_start, is_failure}
use Rattle.task_core.specs.Scripts.{is_filled, is_start}
use Rattle.task_core.specs.Starts.{is_valid}
use Rattle.task_core.specs.declared.task.Request.{Request}
use Rattle.wsgi.specs.declared.step.Step.{Step}
use Rattle.wsgi.specs.declared.step.Step.TheVariants.{Start, Piece, Whole, Fail}
use Rattle.task_core.proofs.Testing.{and_false, none_less, one_less, or_true}

-- whether a step is a failure depends on two facts about those before it
same_failure : (a b : List Step) (step : Step) → has_start a ≡ has_start b →
    has_head a ≡ has_head b →
    is_failure a step ≡ is_failure b step
same_failure a b (Start status fields replace) s h =
    ap (λ t. t && not replace || has_head a || not (is_valid status fields)) s
    ∙ ap (λ t. has_start b && not replace || t || not (is_valid status fields)) h
same_failure a b (Piece bytes) s h = ap (λ t. has_bytes bytes && not t) s
same_failure a b (Whole bytes) s h = ap (λ t. has_bytes bytes && not t) s
same_failure a b Fail s h = refl

same_start : (a b rest : List Step) → has_start a ≡ has_start b →
    has_start (a ++ rest) ≡ has_start (b ++ rest)
same_start a b rest s =
    list_any-append is_start a rest ∙ (ap (λ t. t || has_start rest) s ∙
    sym (list_any-append is_start b rest))

same_head : (a b rest : List Step) → has_head a ≡ has_head b →
    has_head (a ++ rest) ≡ has_head (b ++ rest)
same_head a b rest s =
    list_any-append is_filled a rest ∙ (ap (λ t. t || has_head rest) s ∙
    sym (list_any-append is_filled b rest))

same_place : (a b rest : List Step) → has_start a ≡ has_start b → has_head a ≡ has_head b →
    failure_behind a rest ≡ failure_behind b rest
unfolding failure_behind
same_place a b [] s h = refl
same_place a b (step ∷ rest) s h =
    ap (λ t. cond t 0 (suc (failure_behind (a ++ step ∷ []) rest))) (same_failure a b step s h)
    ∙ ap (λ n. cond (is_failure b step) 0 (suc n))
    (same_place (a ++ step ∷ []) (b ++ step ∷ []) rest (same_start a b (step ∷ []) s)
    (same_head a b (step ∷ []) h))

-- the answer to some steps and those behind them, where those before stand
abbrev pub answer_at : Request → List Step → List Step → ℕ → Answer
answer_at request before rest n =
    answer_to request (before ++ take n rest) (nat_lt n (length rest) || not
    (has_start (before ++ rest)))

abbrev pub answer_behind : Request → List Step → List Step → Answer
answer_behind request before rest = answer_at request before rest (failure_behind before rest)

pub answer_is : (request : Request) (script : List Step) →
    answer request script ≡ answer_behind request [] script
unfolding answer
answer_is request script = refl

place_sound : (before : List Step) (step : Step) (rest : List Step) →
    is_failure before step ≡ false →
    failure_behind before (step ∷ rest) ≡ suc (failure_behind (before ++ step ∷ []) rest)
unfolding failure_behind
place_sound before step rest h = ap (λ t. cond t 0 (suc (failure_behind (before ++ step ∷ [])
    rest))) h

place_failed : (before : List Step) (step : Step) (rest : List Step) →
    is_failure before step ≡ true →
    failure_behind before (step ∷ rest) ≡ 0
unfolding failure_behind
place_failed before step rest h = ap (λ t. cond t 0 (suc
    (failure_behind (before ++ step ∷ []) rest))) h

-- a step that is no failure
pub sound_step : (request : Request) (before : List Step) (step : Step) (rest : List Step) →
    is_failure before step ≡ false →
    answer_behind request before (step ∷ rest) ≡ answer_behind request (before ++ step ∷ []) rest
sound_step request before step rest h =
    let n = failure_behind (before ++ step ∷ []) rest in
    ap (answer_at request before (step ∷ rest)) (place_sound before step rest h)
    ∙ (ap (λ t. answer_to request (before ++ step ∷ take n rest)
    (t || not (has_start (before ++ step ∷ rest))))
    (one_less n (length rest))
    ∙ (ap (λ steps. answer_to request steps (nat_lt n (length rest) || not
    (has_start (before ++ step ∷ rest))))
    (sym (append_assoc before (step ∷ []) (take n rest)))
    ∙ ap (λ steps. answer_to request ((before ++ step ∷ []) ++ take n rest)
    (nat_lt n (length rest) || not (has_start steps)))
    (sym (append_assoc before (step ∷ []) rest))))

-- a step that is one
pub failed_step : (request : Request) (before : List Step) (step : Step) (rest : List Step) →
    is_failure before step ≡ true →
    answer_behind request before (step ∷ rest) ≡ answer_to request before true
failed_step request before step rest h =
    ap (answer_at request before (step ∷ rest)) (place_failed before step rest h)
    ∙ (ap (λ t. answer_to request (before ++ []) (t || not (has_start (before ++ step ∷ rest))))
    (none_less (length rest))
    ∙ ap (λ steps. answer_to request steps true) (append-nil before))

-- the script's end
pub at_end : (request : Request) (before : List Step) →
    answer_behind request before [] ≡ answer_to request before (not (has_start before))
unfolding failure_behind
at_end request before = ap (λ steps. answer_to request steps (not (has_start steps)))
    (append-nil before)

-- other steps before, of which the answer doesn't tell
pub other_steps : (request : Request) (a b rest : List Step) → has_start a ≡ has_start b →
    has_head a ≡ has_head b →
    ((steps : List Step) (failed : Bool) → answer_to request (a ++ steps) failed ≡ answer_to request
    (b ++ steps) failed) →
    answer_behind request a rest ≡ answer_behind request b rest
other_steps request a b rest s h same =
    same (take (failure_behind a rest) rest)
    (nat_lt (failure_behind a rest) (length rest) || not (has_start (a ++ rest)))
    ∙ (ap (λ n. answer_to request (b ++ take n rest) (nat_lt n (length rest) || not
    (has_start (a ++ rest))))
    (same_place a b rest s h)
    ∙ ap (λ t. answer_to request (b ++ take (failure_behind b rest) rest)
    (nat_lt (failure_behind b rest) (length rest) || not t)) (same_start a b rest s))

-- Behind the head a failure is a break.
behind_head : (before : List Step) (step : Step) → has_start before ≡ true →
    has_head before ≡ true →
    is_failure before step ≡ is_break step
behind_head before (Start status fields replace) s h =
    ap (λ t. t && not replace || has_head before || not (is_valid status fields)) s
    ∙ (ap (λ t. not replace || t || not (is_valid status fields)) h
    ∙ ap (λ t. t || not (is_valid status fields)) (or_true (not replace)))
behind_head before (Piece bytes) s h = ap (λ t. has_bytes bytes && not t) s ∙
    and_false (has_bytes bytes)
behind_head before (Whole bytes) s h = ap (λ t. has_bytes bytes && not t) s ∙
    and_false (has_bytes bytes)
behind_head before Fail s h = refl

taken_by : (b : Bool) (n : ℕ) (step : Step) (rest steps : List Step) → take n rest ≡ steps →
    take (cond b 0 (suc n)) (step ∷ rest) ≡ cond b [] (step ∷ steps)
taken_by true n step rest steps h = refl
taken_by false n step rest steps h = ap (λ xs. step ∷ xs) h

less_by : (b : Bool) (n k : ℕ) (t : Bool) → nat_lt n k ≡ t →
    nat_lt (cond b 0 (suc n)) (suc k) ≡ (b || t)
less_by true n k t h = none_less k
less_by false n k t h = one_less n k ∙ h

-- what stands behind the head up to its failure
pub taken_behind : (before rest : List Step) → has_start before ≡ true → has_head before ≡ true →
    take (failure_behind before rest) rest ≡ before_break rest
unfolding failure_behind
taken_behind before [] s h = refl
taken_behind before (step ∷ rest) s h =
    ap (λ t. take (cond t 0 (suc (failure_behind (before ++ step ∷ []) rest))) (step ∷ rest))
    (behind_head before step s h)
    ∙ taken_by (is_break step) (failure_behind (before ++ step ∷ []) rest) step rest
    (before_break rest)
    (taken_behind (before ++ step ∷ []) rest
    (list_any-append is_start before (step ∷ []) ∙ ap (λ t. t || has_start (step ∷ [])) s)
    (list_any-append is_filled before (step ∷ []) ∙ ap (λ t. t || has_head (step ∷ [])) h))

pub broken_behind : (before rest : List Step) → has_start before ≡ true → has_head before ≡ true →
    nat_lt (failure_behind before rest) (length rest) ≡ breaks rest
unfolding failure_behind
broken_behind before [] s h = refl
broken_behind before (step ∷ rest) s h =
    ap (λ t. nat_lt (cond t 0 (suc (failure_behind (before ++ step ∷ []) rest)))
    (suc (length rest))) (behind_head before step s h)
    ∙ less_by (is_break step) (failure_behind (before ++ step ∷ []) rest) (length rest)
    (breaks rest)
    (broken_behind (before ++ step ∷ []) rest
    (list_any-append is_start before (step ∷ []) ∙ ap (λ t. t || has_start (step ∷ [])) s)
    (list_any-append is_filled before (step ∷ []) ∙ ap (λ t. t || has_head (step ∷ [])) h))
