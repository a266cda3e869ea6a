-- Whether a row of a table fits, and whether a name stands in a list.
use Rattle.std.proofs.Common.{◌≡◌, ◌+◌, ℕ, suc, Bool, true, false, List, [], ◌∷◌, length, map, cond}
use Rattle.std.proofs.Common.{refl, ap, ◌∙◌, arith}
use Rattle.std.proofs.lemmas.Bool.Decides.{nat_tests}
use Rattle.std.specs.Prelude.{None, Some, is_some, not, nat_lt, ◌||◌, position}
use Rattle.std.specs.List.{list_any, position_or_len}
use Rattle.byte_tables.specs.Cases.{has_name_folded}
use Rattle.task_core.specs.HopByHop.{hop_rows}
use Rattle.task_core.specs.Starts.{hop_by_hop, is_hop_by_hop}

some_is : (b : Bool) (n : ℕ) → is_some (cond b (Some n) None) ≡ b
some_is true n = refl
some_is false n = refl

one_less : (m n : ℕ) → nat_lt (1 + m) (suc n) ≡ nat_lt m n
one_less m n = grind (arith, nat_tests)

none_less : (n : ℕ) → nat_lt 0 (suc n) ≡ true
none_less n = grind (arith, nat_tests)

within_by : (b : Bool) (m n : ℕ) (rest : Bool) → nat_lt m n ≡ rest →
    nat_lt (cond (not b) (1 + m) 0) (suc n) ≡ (b || rest)
within_by true m n rest h = none_less n
within_by false m n rest h = one_less m n ∙ h

within : {X : Type 0} (p : X → Bool) (xs : List X) → nat_lt (position_or_len p xs)
    (length xs) ≡ list_any p xs
within p [] = refl
within p (x ∷ xs) = within_by (p x) (position_or_len p xs) (length xs) (list_any p xs) (within p xs)

any_map : {X Y : Type 0} (p : Y → Bool) (f : X → Y) (xs : List X) →
    list_any p (map f xs) ≡ list_any (λ x. p (f x)) xs
any_map p f [] = refl
any_map p f (x ∷ xs) = ap (λ b. p (f x) || b) (any_map p f xs)

pub row_found : {X : Type 0} (p : X → Bool) (xs : List X) → is_some (position p xs) ≡ list_any p xs
row_found p xs = some_is (nat_lt (position_or_len p xs) (length xs)) (position_or_len p xs) ∙
    within p xs

pub hop_found : (name : List ℕ) (rows : List (List ℕ × ℕ)) → rows ≡ hop_rows →
    is_some (position (has_name_folded name) rows) ≡ is_hop_by_hop name
hop_found name rows e =
    row_found (has_name_folded name) rows
    ∙ (ap (λ table. list_any (has_name_folded name) table) e
    ∙ any_map (has_name_folded name) (λ hop. (hop, 0)) hop_by_hop)
