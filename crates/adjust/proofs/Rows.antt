-- The rows of the table by their names, and the first fault among them.
use Rattle.std.proofs.Common.{◌≡◌, ◌∙◌, ◌<◌, ◌≤◌, ◌+◌, ℕ, suc, Bool, true, false, List, [], ◌∷◌}
use Rattle.std.proofs.Common.{◌++◌, length, map, take, drop, get_or, None, Some, refl, ap, sym}
use Rattle.std.proofs.Common.{cond, add-one}
use Rattle.std.specs.Prelude.{Option, not, find, position, slice_get, option_map, unwrap_or}
use Rattle.std.specs.List.{cons_option, filter_map, prefix_len}
use Rattle.std.specs.Option.{option_map_or}
use Rattle.std.proofs.Math.Seq.{drop-cons, take-suc}
use Rattle.std.proofs.lemmas.List.{length-map, take-append-drop, take_all}
use Rattle.std.proofs.lemmas.List.Elements.{filter_map-append}
use Rattle.clap.specs.Words.{Row as Found}
use Rattle.adjust.specs.Command.{default_of, first_value_fault, has_name, place_of, row_fault}
use Rattle.adjust.specs.Options.{Row, option_rows, row_of}
use Rattle.adjust.specs.declared.options.OptionRow.{OptionRow}
use Rattle.adjust.specs.declared.types.UsageFault.{UsageFault}

prefix_len_map : {X Y : Type 0} (q : Y → Bool) (f : X → Y) (xs : List X) →
    prefix_len q (map f xs) ≡ prefix_len (λ x. q (f x)) xs
prefix_len_map q f [] = refl
prefix_len_map q f (x ∷ xs) = ap (λ n. cond (q (f x)) (1 + n) 0) (prefix_len_map q f xs)

position_map : {X Y : Type 0} (p : Y → Bool) (f : X → Y) (xs : List X) →
    position p (map f xs) ≡ position (λ x. p (f x)) xs
position_map p f xs = simp (prefix_len_map (λ y. not (p y)) f xs, length-map xs f)

pub place_by : (name : List ℕ) (rows : List OptionRow) → map row_of rows ≡ option_rows →
    unwrap_or (position (λ row. has_name name (row_of row)) rows) 0 ≡ place_of name
place_by name rows known =
    ap (λ r. unwrap_or r 0) (sym (position_map (has_name name) row_of rows) ∙
    ap (position (has_name name)) known)

map_if : {X Y : Type 0} (f : X → Y) (t : Bool) (x : X) (r : Option X) →
    cond t (Some (f x)) (option_map f r) ≡ option_map f (cond t (Some x) r)
map_if f true x r = refl
map_if f false x r = refl

find_map : {X Y : Type 0} (p : Y → Bool) (f : X → Y) (xs : List X) →
    find p (map f xs) ≡ option_map f (find (λ x. p (f x)) xs)
find_map p f [] = refl
find_map p f (x ∷ xs) =
    ap (λ r. cond (p (f x)) (Some (f x)) r) (find_map p f xs) ∙
    map_if f (p (f x)) x (find (λ y. p (f y)) xs)

pub default_by : (name : List ℕ) (rows : List OptionRow) (r : Option OptionRow) →
    map row_of rows ≡ option_rows →
    r ≡ find (λ row. has_name name (row_of row)) rows → option_map_or (λ (row : Row). row.default)
    (option_map row_of r) [] ≡ default_of name
default_by name rows r known e =
    ap (λ (q : Option OptionRow). option_map_or (λ (row : Row). row.default) (option_map row_of q)
    []) e
    ∙ ap (λ (q : Option Row). option_map_or (λ (row : Row). row.default) q [])
    (sym (find_map (has_name name) row_of rows) ∙ ap (find (has_name name)) known)

-- ---- faults

filter_map_map : {X Y Z : Type 0} (h : Y → Option Z) (f : X → Y) (xs : List X) →
    filter_map h (map f xs) ≡ filter_map (λ x. h (f x)) xs
filter_map_map h f [] = refl
filter_map_map h f (x ∷ xs) = ap (cons_option (h (f x))) (filter_map_map h f xs)

abbrev pub faults_in : List Found → List OptionRow → List UsageFault
faults_in words rows = filter_map (λ row. row_fault words (row_of row)) rows

all_faults : (words : List Found) (rows : List OptionRow) → map row_of rows ≡ option_rows →
    slice_get (faults_in words rows) 0 ≡ first_value_fault words
unfolding first_value_fault
all_faults words rows known =
    ap (λ xs. slice_get xs 0) (sym (filter_map_map (row_fault words) row_of rows) ∙
    ap (filter_map (row_fault words)) known)

-- one more row without a fault
pub no_more : (words : List Found) (rows : List OptionRow) (i : ℕ) (d : OptionRow) →
    i < length rows → faults_in words (take i rows) ≡ [] →
    row_fault words (row_of (get_or rows i d)) ≡ None → faults_in words (take (i + 1) rows) ≡ []
no_more words rows i d within none e =
    ap (λ j. faults_in words (take j rows)) (add-one i)
    ∙ (ap (faults_in words) (take-suc rows i d within)
    ∙ (filter_map-append (λ row. row_fault words (row_of row)) (take i rows) (get_or rows i d ∷ [])
    ∙ (ap (λ xs. xs ++ faults_in words (get_or rows i d ∷ [])) none ∙
    ap (λ r. cons_option r []) e)))

pub fault_here : (words : List Found) (rows : List OptionRow) (i : ℕ) (d : OptionRow)
    (f : UsageFault) → map row_of rows ≡ option_rows → i < length rows →
    faults_in words (take i rows) ≡ [] → row_fault words (row_of (get_or rows i d)) ≡ Some f →
    Some f ≡ first_value_fault words
fault_here words rows i d f known within none e =
    let whole = ap (faults_in words) (sym (take-append-drop i rows))
    ∙ (filter_map-append (λ row. row_fault words (row_of row)) (take i rows) (drop i rows)
    ∙ (ap (λ xs. xs ++ faults_in words (drop i rows)) none
    ∙ (ap (faults_in words) (drop-cons rows i d within) ∙
    ap (λ r. cons_option r (faults_in words (drop (suc i) rows))) e))) in
    sym (ap (λ xs. slice_get xs 0) whole) ∙ all_faults words rows known

pub no_fault : (words : List Found) (rows : List OptionRow) (i : ℕ) →
    map row_of rows ≡ option_rows → length rows ≤ i →
    faults_in words (take i rows) ≡ [] → None ≡ first_value_fault words
no_fault words rows i known past none =
    sym (ap (λ xs. slice_get xs 0) (ap (faults_in words) (sym (take_all i rows past)) ∙ none)) ∙
    all_faults words rows known
