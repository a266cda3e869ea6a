-- What one more entry adds.
use Rattle.std.proofs.Common.{if◌then◌else◌, arith, ◌≡◌, ℕ, ◌+◌, Bool, true, false, List, [], ◌∷◌}
use Rattle.std.proofs.Common.{◌++◌, Option, sym, ap, ◌∙◌, append_assoc}
use mathlib.Core.List.{append-nil}
use Rattle.std.specs.List.{range_with_len}
use Rattle.std.proofs.lemmas.List.{map-id}
use Rattle.std.proofs.lemmas.List.FromFn.{map-range_with_len_more}
use Rattle.turn_gate.specs.Ends.{End}
use Rattle.test_gate.specs.declared.pact.Row.{Row}
use Rattle.test_gate.specs.declared.pact.Added.{Added}
use Rattle.test_gate.specs.declared.pact.Taken.{Taken}
use Rattle.test_gate.specs.Numbers.{one_or_none, added, taken, IsInOrder, Adds, Takes}

pub added_more : (xs : List Added) (e : Added) → added (xs ++ e ∷ []) ≡ added xs ++ one_or_none
    e.number.value
added_more [] e = append-nil (one_or_none e.number.value)
added_more (x ∷ xs) e = ap (λ (z : List ℕ). one_or_none x.number.value ++ z) (added_more xs e) ∙
    sym (append_assoc (one_or_none x.number.value) (added xs) (one_or_none e.number.value))

pub taken_more : (xs : List Taken) (e : Taken) → taken (xs ++ e ∷ []) ≡ taken xs ++
    e.numbers.value.items
taken_more [] e = append-nil e.numbers.value.items
taken_more (x ∷ xs) e = ap (λ (z : List ℕ). x.numbers.value.items ++ z) (taken_more xs e) ∙
    sym (append_assoc x.numbers.value.items (taken xs) e.numbers.value.items)

-- a number more in the list, and in the entries
pub puts : (s t : Row) (xs : List Added) (ys : List Taken) (e : Added) → IsInOrder s xs ys →
    t.items.items ≡ s.items.items ++ one_or_none e.number.value → IsInOrder t (xs ++ e ∷ []) ys
puts s t xs ys e was now = record {
  whole = ap (λ (z : List ℕ). taken ys ++ z) now ∙ (sym (append_assoc (taken ys) s.items.items
      (one_or_none e.number.value)) ∙ (ap (λ (z : List ℕ). z ++ one_or_none e.number.value)
      was.whole ∙ sym (added_more xs e)));
}

pub empties : (s t : Row) (xs : List Added) (ys : List Taken) (e : Taken) → IsInOrder s xs ys →
    e.numbers.value.items ≡ s.items.items → t.items.items ≡ [] → IsInOrder t xs (ys ++ e ∷ [])
empties s t xs ys e was all none = record {
  whole = ap (λ (z : List ℕ). taken (ys ++ e ∷ []) ++ z) none ∙
      (append-nil (taken (ys ++ e ∷ [])) ∙ (taken_more ys e ∙
      (ap (λ (z : List ℕ). taken ys ++ z) all ∙ was.whole)));
}

pub all_taken : (s : Row) (xs : List Added) (ys : List Taken) (e : Taken) → IsInOrder s xs ys →
    e.numbers.value.items ≡ s.items.items → taken (ys ++ e ∷ []) ≡ added xs
all_taken s xs ys e was all = taken_more ys e ∙ (ap (λ (z : List ℕ). taken ys ++ z) all ∙ was.whole)

pub adds_one : (old new : End Added Taken ℕ) (number : ℕ) (room : Bool) → Adds old new number room →
    added new.own ≡ (if room then added old.own ++ number ∷ [] else added old.own)
adds_one old new number true a = ap added a.turn.own ∙ (added_more old.own a.entry ∙
    ap (λ (x : Option ℕ). added old.own ++ one_or_none x) a.number_is)
adds_one old new number false a = ap added a.turn.own ∙ (added_more old.own a.entry ∙
    (ap (λ (x : Option ℕ). added old.own ++ one_or_none x) a.number_is ∙
    append-nil (added old.own)))

pub takes_more : (old new : End Taken Added ℕ) (numbers : List ℕ) → Takes old new numbers →
    (all : List ℕ) (first : List ℕ) → taken old.own ≡ first ++ all →
    taken new.own ≡ first ++ (all ++ numbers)
takes_more old new numbers t all first before = ap taken t.own ∙
    (taken_more old.own t.entry ∙ (ap (λ (xs : List ℕ). taken old.own ++ xs) t.numbers_are ∙
    (ap (λ (xs : List ℕ). xs ++ numbers) before ∙ append_assoc first all numbers)))

range_on : (n : ℕ) → range_with_len 0 (n + 1) ≡ range_with_len 0 n ++ n ∷ []
range_on n = sym (map-id (range_with_len 0 (n + 1))) ∙ (map-range_with_len_more (λ x. x) 0 n n
    (omega arith) ∙ ap (λ (xs : List ℕ). xs ++ n ∷ []) (map-id (range_with_len 0 n)))

pub range_more : (xs : List ℕ) (n : ℕ) → (xs ++ range_with_len 0 n) ++ n ∷ [] ≡ xs ++ range_with_len
    0 (n + 1)
range_more xs n = append_assoc xs (range_with_len 0 n) (n ∷ []) ∙
    ap (λ (ys : List ℕ). xs ++ ys) (sym (range_on n))
