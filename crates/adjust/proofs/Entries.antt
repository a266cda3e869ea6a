-- Which entry is bad behind some good ones.
use Rattle.std.proofs.Common.{◌≡◌, ◌<◌, ◌+◌, ◌-◌, ◌∙◌, ℕ, suc, zero, true, false, List, [], ◌∷◌}
use Rattle.std.proofs.Common.{length, take, None, Some, refl, ap, ap₂, sym, cond, arith, rules}
use Rattle.std.specs.Prelude.{Option, nat_lt, ◌==◌, ◌||◌}
use Rattle.std.specs.List.{before_last, prefix_len}
use Rattle.std.proofs.lemmas.Bool.Decides.{nat_tests}
use Rattle.adjust.specs.Lists.{bad_entry, entry, is_colon, is_entry}
use Rattle.adjust.specs.Values.{host}

abbrev bad_by : ℕ → ℕ → ℕ → Option ℕ
bad_by good more size = cond (nat_lt more size || (good + size) == 0) (Some (good + more + 1)) None

-- behind so many good entries, with room for more
abbrev pub bad_behind : ℕ → ℕ → List (List ℕ) → Option ℕ
bad_behind room good entries = bad_by good (prefix_len is_entry (take room entries))
    (length entries)

none_in_front : (n : ℕ) → 0 + n ≡ n
none_in_front n = omega arith

pub bad_start : (entries : List (List ℕ)) → bad_entry entries ≡ bad_behind 16 0 entries
unfolding bad_entry
bad_start entries =
    let more = prefix_len is_entry (take 16 entries) in
    ap₂ (λ t n. cond t (Some n) None)
    (ap (λ n. nat_lt more (length entries) || n == 0) (sym (none_in_front (length entries))))
    (ap (λ n. n + 1) (sym (none_in_front more)))

same_test : (good more size : ℕ) → (nat_lt (1 + more) (suc size) || (good + suc size) == 0) ≡
    (nat_lt more size || ((good + 1) + size) == 0)
same_test good more size = grind (arith, nat_tests)

same_number : (good more : ℕ) → good + (1 + more) + 1 ≡ (good + 1) + more + 1
same_number good more = omega arith

same_bad : (good more size : ℕ) → bad_by good (1 + more) (suc size) ≡ bad_by (good + 1) more size
same_bad good more size = ap₂ (λ t n. cond t (Some n) None) (same_test good more size)
    (same_number good more)

good_step : (room good : ℕ) (e : List ℕ) (es : List (List ℕ)) → is_entry e ≡ true →
    bad_behind (suc room) good (e ∷ es) ≡ bad_behind room (good + 1) es
good_step room good e es is =
    ap (λ t. bad_by good (cond t (1 + prefix_len is_entry (take room es)) 0) (suc (length es))) is
    ∙ same_bad good (prefix_len is_entry (take room es)) (length es)

pub bad_good : (good : ℕ) (e : List ℕ) (es : List (List ℕ)) → good < 16 → is_entry e ≡ true →
    bad_behind (16 - good) good (e ∷ es) ≡ bad_behind (16 - (good + 1)) (good + 1) es
bad_good good e es room is =
    ap (λ n. bad_behind n good (e ∷ es)) (let h : 16 - good ≡ suc (16 - (good + 1)) =
    omega arith in h)
    ∙ good_step (16 - (good + 1)) good e es is

no_more : (good size : ℕ) → bad_by good 0 (suc size) ≡ Some (good + 1)
no_more good size = ap₂ (λ t n. cond t (Some n) None) (let h :
    (nat_lt 0 (suc size) || (good + suc size) == 0) ≡ true = grind (arith, nat_tests) in h)
    (let h : good + 0 + 1 ≡ good + 1 = omega arith in h)

bad_at : (room good : ℕ) (e : List ℕ) (es : List (List ℕ)) → is_entry e ≡ false →
    bad_behind room good (e ∷ es) ≡ Some (good + 1)
bad_at zero good e es is = no_more good (length es)
bad_at (suc room) good e es is =
    ap (λ t. bad_by good (cond t (1 + prefix_len is_entry (take room es)) 0) (suc (length es))) is ∙
    no_more good (length es)

pub bad_here : (good : ℕ) (e : List ℕ) (es : List (List ℕ)) → is_entry e ≡ false →
    bad_behind (16 - good) good (e ∷ es) ≡ Some (good + 1)
bad_here good e es is = bad_at (16 - good) good e es is

pub bad_full : (good : ℕ) (e : List ℕ) (es : List (List ℕ)) → good ≡ 16 →
    bad_behind (16 - good) good (e ∷ es) ≡ Some (good + 1)
bad_full good e es full = ap (λ n. bad_behind n good (e ∷ es))
    (let h : 16 - good ≡ 0 = omega arith in h) ∙ no_more good (length es)

end_by : (room good : ℕ) → bad_behind room good [] ≡ bad_by good 0 0
end_by zero good = refl
end_by (suc room) good = refl

pub bad_end_none : (good : ℕ) → good ≡ 0 → bad_behind (16 - good) good [] ≡ Some 1
bad_end_none good none = end_by (16 - good) good ∙ ap (λ n. bad_by n 0 0) none

pub bad_end_some : (good : ℕ) → 0 < good → bad_behind (16 - good) good [] ≡ None
bad_end_some good some = end_by (16 - good) good ∙ ap (λ t. cond t (Some (good + 0 + 1)) None)
    (let h : (nat_lt 0 0 || (good + 0) == 0) ≡ false = grind (arith, nat_tests) in h)

host-nil : host [] ≡ None
unfolding host
host-nil = refl

-- without a colon there is no entry
pub entry_without : (text : List ℕ) → before_last is_colon text ≡ [] → entry text ≡ None
unfolding entry
entry_without text e = search (rules, ap host e, host-nil)
