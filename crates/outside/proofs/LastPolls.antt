-- The polls of a net in memory: the first and the last that are told, and when it tells to stop.
use Rattle.std.proofs.Common.{◌≡◌, ◌≤◌, ℕ, List, length, true, None, Some, refl, ap, sym, ◌∙◌}
use Rattle.std.proofs.Common.{subst, arith, is_none}
use Rattle.std.specs.Prelude.{Option, unwrap_or}
use Rattle.std.specs.Option.{ForSome, IsSomeAnd}
use Rattle.outside.specs.Memory.{is_listed}
use Rattle.outside.specs.MemNet.{PolledByPlan, stops_at}
use Rattle.outside.specs.MemNetView.{last_of, found_of, poll_in, found_in}
use Rattle.outside.specs.Net.{Poll}
use Rattle.outside.specs.declared.mem_net.noted.LastPoll.{LastPoll}
use Rattle.outside.specs.declared.plans.Comer.{Comer}
use Rattle.outside.specs.declared.plans.LinkPlan.{LinkPlan}
use Rattle.outside.specs.declared.plans.NetPlan.{NetPlan}

the_last : (told : Option LastPoll) (p : LastPoll) (x : Poll LinkPlan) → told ≡ Some p →
    last_of told ≡ Some x → poll_in p ≡ x
the_last told p x e is = ap (λ o. unwrap_or o (poll_in p)) (sym (ap last_of e) ∙ is)

-- a fact about the poll that is told is a fact about the last poll
pub of_last : (told : Option LastPoll) (p : LastPoll) (P : Poll LinkPlan → Type 0) →
    told ≡ Some p → P (poll_in p) → ForSome (last_of told) P
of_last told p P e holds x is = subst P (the_last told p x e is) holds

-- the poll that is told went by the plan
pub by_plan : (told : Option LastPoll) (p : LastPoll) (plan : NetPlan) → told ≡ Some p →
    PolledByPlan plan (found_in p) (poll_in p) →
    ForSome (last_of told) (λ poll.
    IsSomeAnd (found_of told) (λ found. PolledByPlan plan found poll))
by_plan told p plan e holds x is =
    subst (λ found. IsSomeAnd found (λ y. PolledByPlan plan y x)) (sym (ap found_of e))
    (subst (λ poll. PolledByPlan plan (found_in p) poll) (the_last told p x e is) holds)

-- the first moment that is told is one of the moments
pub first_moment : (moments : List ℕ) (old : Option ℕ) (now : ℕ) (told : Option ℕ) →
    told ≡ Some (unwrap_or old now) →
    ForSome old (λ moment. is_listed moments moment ≡ true) → is_listed moments now ≡ true →
    ForSome told (λ moment. is_listed moments moment ≡ true)
first_moment moments None now told e before listed x is =
    subst (λ moment. is_listed moments moment ≡ true)
    (ap (λ o. unwrap_or o now) (sym e ∙ is)) listed
first_moment moments (Some m) now told e before listed x is =
    subst (λ moment. is_listed moments moment ≡ true)
    (ap (λ o. unwrap_or o now) (sym e ∙ is)) (before m refl)

-- the first moment is at most the moment of each turn
pub begun_by : (first : Option ℕ) (now : ℕ) → unwrap_or first 0 ≤ now → unwrap_or first now ≤ now
begun_by None now before = omega arith
begun_by (Some m) now before = before

-- the first moment that is told is at most the moment of the next turn
pub still_begun : (old told : Option ℕ) (now next : ℕ) → told ≡ Some (unwrap_or old now) →
    unwrap_or old 0 ≤ now → now ≤ next → unwrap_or told 0 ≤ next
still_begun old told now next e before rises =
    rw e (let first = begun_by old now before in omega (arith, first, rises))

-- a net that would tell to stop by itself, and has nothing open and nobody left, tells to stop
pub stops_on : (stop_at : Option ℕ) (number live : ℕ) (waiting : List Comer) →
    is_none stop_at ≡ true → live ≡ 0 → length waiting ≡ 0 →
    stops_at stop_at number live waiting ≡ true
stops_on None number live waiting none closed nobody = rw (closed, nobody) refl
stops_on (Some turn) number live waiting none closed nobody = absurd (grind (arith, none))
