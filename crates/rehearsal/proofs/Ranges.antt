-- Lists as far as a loop has come.
use Rattle.std.proofs.Common.{◌≡◌, ◌+◌, ◌<◌, ◌≤◌, ◌^◌, ℕ, List, [], ◌∷◌, ◌++◌, length, map, ap, sym}
use Rattle.std.proofs.Common.{◌∙◌, append_assoc, append-nil, arith}
use Rattle.std.proofs.lemmas.List.Folds.{concat-append}
use Rattle.std.proofs.lemmas.List.FromFn.{length-map-range_with_len, map-range_with_len_more}
use Rattle.std.specs.List.{concat, range_with_len}
use Rattle.outside.specs.declared.plans.NetPlan.{NetPlan}
use Rattle.rehearsal.specs.Plans.{comer_of, net_plan}

mapped_more : {X : Type 0} (f : ℕ → X) (n : ℕ) →
    map f (range_with_len 0 (n + 1)) ≡ map f (range_with_len 0 n) ++ f n ∷ []
mapped_more f n = map-range_with_len_more f 0 n n (omega arith)

pub put_more : {X : Type 0} (f : ℕ → X) (n : ℕ) (x : X) (before front new : List X) → x ≡ f n →
    new ≡ front ++ x ∷ [] → front ≡ before ++ map f (range_with_len 0 n) →
    new ≡ before ++ map f (range_with_len 0 (n + 1))
put_more f n x before front new is made so =
    made ∙ (ap (λ ys. ys ++ x ∷ []) so
    ∙ (append_assoc before (map f (range_with_len 0 n)) (x ∷ [])
    ∙ (ap (λ y. before ++ (map f (range_with_len 0 n) ++ y ∷ [])) is
    ∙ ap (λ ys. before ++ ys) (sym (mapped_more f n)))))

pub joined_more : (f : ℕ → List ℕ) (n : ℕ) (front new : List ℕ) → new ≡ front ++ f n →
    front ≡ concat (map f (range_with_len 0 n)) → new ≡ concat (map f (range_with_len 0 (n + 1)))
joined_more f n front new made so =
    made ∙ (ap (λ ys. ys ++ f n) so
    ∙ (ap (λ ys. concat (map f (range_with_len 0 n)) ++ ys) (sym (append-nil (f n)))
    ∙ (sym (concat-append (map f (range_with_len 0 n)) (f n ∷ [])) ∙
    ap concat (sym (mapped_more f n)))))

-- three texts that were added one behind the other
pub onto : (old first second new a b c : List ℕ) → first ≡ old ++ a → second ≡ first ++ b →
    new ≡ second ++ c → new ≡ old ++ (a ++ (b ++ c))
onto old first second new a b c one two three =
    three ∙ (ap (λ xs. xs ++ c) (two ∙ ap (λ xs. xs ++ b) one)
    ∙ (append_assoc (old ++ a) b c ∙ append_assoc old a (b ++ c)))

pub few_comers : (connections : ℕ) (plan : NetPlan) → plan ≡ net_plan connections →
    connections ≤ 20000 → length plan.comers < 2 ^ 32
few_comers connections plan is few =
    let count : length plan.comers ≡ connections =
    ap (λ p. length p.comers) is ∙ length-map-range_with_len comer_of 0 connections in
    omega (arith, count, few)
