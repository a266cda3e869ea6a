-- Texts that are joined item by item.
use Rattle.std.proofs.Common.{◌≡◌, ◌∙◌, ◌<◌, ◌≤◌, ◌+◌, ℕ, List, [], ◌∷◌, ◌++◌, length, map, take}
use Rattle.std.proofs.Common.{get_or, refl, ap, sym, add-one, append_assoc}
use Rattle.std.specs.List.{concat}
use Rattle.std.proofs.Math.Seq.{take-suc}
use Rattle.std.proofs.lemmas.List.{take_all}
use Rattle.adjust.specs.Options.{Row, option_rows, row_of}
use Rattle.adjust.specs.declared.options.OptionRow.{OptionRow}

abbrev pub joined : {X : Type 0} → (X → List ℕ) → List X → List ℕ
joined text xs = concat (map text xs)

append-none : (xs : List ℕ) → xs ++ [] ≡ xs
append-none [] = refl
append-none (x ∷ xs) = ap (λ ys. x ∷ ys) (append-none xs)

joined_last : {X : Type 0} (text : X → List ℕ) (xs : List X) (x : X) →
    joined text (xs ++ x ∷ []) ≡ joined text xs ++ text x
joined_last text [] x = append-none (text x)
joined_last text (y ∷ xs) x = ap (λ zs. text y ++ zs) (joined_last text xs x) ∙
    sym (append_assoc (text y) (joined text xs) (text x))

-- one item more
pub joined_more : {X : Type 0} (text : X → List ℕ) (front so_far : List ℕ) (xs : List X) (i : ℕ)
    (d : X) → i < length xs →
    so_far ≡ front ++ joined text (take i xs) → so_far ++ text (get_or xs i d) ≡ front ++ joined
    text (take (i + 1) xs)
joined_more text front so_far xs i d within e =
    ap (λ zs. zs ++ text (get_or xs i d)) e
    ∙ (append_assoc front (joined text (take i xs)) (text (get_or xs i d))
    ∙ ap (λ zs. front ++ zs) (sym (ap (λ j. joined text (take j xs)) (add-one i) ∙
    (ap (joined text) (take-suc xs i d within) ∙ joined_last text (take i xs)
    (get_or xs i d)))))

-- all items
pub joined_whole : {X : Type 0} (text : X → List ℕ) (front so_far : List ℕ) (xs : List X) (i : ℕ) →
    length xs ≤ i →
    so_far ≡ front ++ joined text (take i xs) → so_far ≡ front ++ joined text xs
joined_whole text front so_far xs i past e = e ∙ ap (λ ys. front ++ joined text ys)
    (take_all i xs past)

joined_map : (text : Row → List ℕ) (rows : List OptionRow) →
    joined (λ row. text (row_of row)) rows ≡ joined text (map row_of rows)
joined_map text [] = refl
joined_map text (row ∷ rows) = ap (λ zs. text (row_of row) ++ zs) (joined_map text rows)

-- the lines of the table
pub table_joined : (text : Row → List ℕ) (rows : List OptionRow) → map row_of rows ≡ option_rows →
    joined (λ row. text (row_of row)) rows ≡ joined text option_rows
table_joined text rows known = joined_map text rows ∙ ap (joined text) known

pub table_text : (text : Row → List ℕ) (rows : List OptionRow) (front usage : List ℕ) →
    map row_of rows ≡ option_rows → front ≡ usage →
    front ++ joined (λ row. text (row_of row)) rows ≡ usage ++ joined text option_rows
table_text text rows front usage known e =
    ap (λ zs. zs ++ joined (λ row. text (row_of row)) rows) e ∙
    ap (λ zs. usage ++ zs) (table_joined text rows known)
