-- A list that is read item by item.
use Rattle.std.proofs.Common.{◌≡◌, ℕ, suc, List, [], ◌∷◌, ◌++◌, length, get_or, Option, Some, None}
use Rattle.std.proofs.Common.{option_map, Result, Ok, Err, refl, sym, ap, arith, append_assoc}
use Rattle.std.proofs.lemmas.List.{length-append}
use Rattle.toml.specs.Data.{no_items, item, Members}
use Rattle.toml.specs.View.{view, items_view}
use Rattle.toml.specs.declared.value.Value.{Value}
use Rattle.apps.specs.Rows.{field_of, row_of}
use Rattle.apps.specs.Table.{rows_from, ◌>>=◌}
use Rattle.apps.specs.declared.row.Row.{Row}
use Rattle.apps.specs.declared.fault.TableFault.{TableFault}
use Rattle.apps.specs.declared.fault.TableFault.TheVariants as fault

-- these in front of what is read of the rest
abbrev pub behind : {A : Type 0} → List A → Option (List A) → Option (List A)
behind front rest = option_map (λ more. front ++ more) rest

one_more : {A : Type 0} (front : List A) (a : A) (rest : Option (List A)) →
    behind front (option_map (λ more. a ∷ more) rest) ≡ behind (front ++ a ∷ []) rest
one_more front a None = refl
one_more front a (Some more) = ap Some (sym (append_assoc front (a ∷ []) more))

-- the rows so far in front of those of the rest
abbrev pub rows_behind : List Row → Result (List Row) TableFault → Result (List Row) TableFault
rows_behind front rest = rest >>= (λ more. Ok (front ++ more))

one_row_more : (front : List Row) (first : Row) (rest : Result (List Row) TableFault)
    → rows_behind front (rest >>= (λ more. Ok (first ∷ more))) ≡ rows_behind (front ++ first ∷ [])
    rest
one_row_more front first (Err e) = refl
one_row_more front first (Ok more) = ap Ok (sym (append_assoc front (first ∷ []) more))

pub rows_behind_read : (front : List Row) (ms : Members) (rest : List Members) (first : Row) →
    row_of ms ≡ Some first
    → rows_behind front (rows_from (length front) (ms ∷ rest)) ≡ rows_behind (front ++ first ∷ [])
    (rows_from (length (front ++ first ∷ [])) rest)
rows_behind_read front ms rest first h =
    let counted : length (front ++ first ∷ []) ≡ suc (length front) =
    omega (arith, length-append front (first ∷ [])) in
    rw (h, counted) (one_row_more front first (rows_from (suc (length front)) rest))

pub rows_behind_refused : (front : List Row) (place : ℕ) (ms : Members) (rest : List Members) →
    row_of ms ≡ None
    → rows_behind front (rows_from place (ms ∷ rest)) ≡ Err (fault.BadRow place)
rows_behind_refused front place ms rest h = rw h

pub two_items : (vs : List Value) (d : Value) → length vs ≡ 2 →
    items_view vs ≡ item (view (get_or vs 0 d)) (item (view (get_or vs 1 d)) no_items)
two_items (a ∷ b ∷ []) d h = refl
two_items [] d h = absurd (omega (arith, h))
two_items (a ∷ []) d h = absurd (omega (arith, h))
two_items (a ∷ b ∷ c ∷ vs) d h = absurd (omega (arith, h))

pub other_items : (vs : List Value) → ¬ (length vs ≡ 2) → field_of (items_view vs) ≡ None
other_items [] h = refl
other_items (a ∷ []) h = refl
other_items (a ∷ b ∷ []) h = absurd (h refl)
other_items (a ∷ b ∷ c ∷ vs) h = refl
