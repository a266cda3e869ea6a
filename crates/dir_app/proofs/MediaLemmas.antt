-- The row of a suffix.
use Rattle.std.proofs.Common.{◌≡◌, ◌∙◌, ℕ, Bool, true, false, cond, List, [], ◌∷◌, length, map}
use Rattle.std.proofs.Common.{Option, None, Some, refl, ap, sym}
use Rattle.std.specs.Prelude.{find, nat_lt, option_map, position, slice_get}
use Rattle.std.specs.List.{position_or_len}
use Rattle.std.specs.Option.{option_map_or}
use Rattle.std.specs.Str.{str_eq_ignore_ascii_case}
use Rattle.std.proofs.lemmas.Bool.{ltb-false}
use Rattle.std.proofs.lemmas.List.Folds.{find_at}
use Rattle.std.proofs.lemmas.Option.{same_Some, slice_get_past}
use Rattle.byte_tables.specs.Cases.{has_name_folded}
use Rattle.dir_app.specs.Media.{media_rows, type_of_suffix, unknown_type}
use Rattle.dir_app.specs.MediaTable.{suffix_rows, type_at}

abbrev typed : List ℕ × ℕ → List ℕ × List ℕ
typed row = (row.0, type_at row.1)

abbrev is_of : List ℕ → List ℕ × List ℕ → Bool
is_of end row = str_eq_ignore_ascii_case row.0 end

-- the two tables say the same
same_table : map typed suffix_rows ≡ media_rows
unfolding type_at
same_table = refl

find_typed : (end : List ℕ) (rows : List (List ℕ × ℕ)) →
    find (is_of end) (map typed rows) ≡ option_map typed (find (has_name_folded end) rows)
find_typed end [] = refl
find_typed end (row ∷ rows) = at_row (has_name_folded end row) (find_typed end rows)
  where
    at_row : (t : Bool) → find (is_of end) (map typed rows) ≡ option_map typed
        (find (has_name_folded end) rows) →
        cond t (Some (typed row)) (find (is_of end) (map typed rows)) ≡ option_map typed
        (cond t (Some row) (find (has_name_folded end) rows))
    at_row true same = refl
    at_row false same = same

by_test : (t : Bool) (n k : ℕ) → cond t (Some n) None ≡ Some k → n ≡ k
by_test true n k e = same_Some n k e
by_test false n k e = cc

by_no_test : (t : Bool) (n : ℕ) → cond t (Some n) None ≡ None → t ≡ false
by_no_test true n e = cc
by_no_test false n e = refl

module _ (p : List ℕ × ℕ → Bool) (rows : List (List ℕ × ℕ)) where
  found_row : (k : ℕ) → position p rows ≡ Some k → find p rows ≡ slice_get rows k
  found_row k e = find_at p rows ∙ ap (slice_get rows) (by_test
      (nat_lt (position_or_len p rows) (length rows)) (position_or_len p rows) k e)

  found_none : position p rows ≡ None → find p rows ≡ None
  found_none e =
      find_at p rows ∙ slice_get_past rows (position_or_len p rows)
      (ltb-false (position_or_len p rows) (length rows) (by_no_test
      (nat_lt (position_or_len p rows) (length rows)) (position_or_len p rows) e))

of_row : (row : Option (List ℕ × ℕ)) (number : ℕ) → option_map (λ row. row.1) row ≡ Some number →
    option_map (λ row. row.1) (option_map typed row) ≡ Some (type_at number)
of_row None number e = cc
of_row (Some row) number e = ap (λ n. Some (type_at n)) (same_Some row.1 number e)

or_unknown : (row : Option (List ℕ × List ℕ)) (text : List ℕ) →
    option_map (λ row. row.1) row ≡ Some text →
    option_map_or (λ row. row.1) row unknown_type ≡ text
or_unknown None text e = cc
or_unknown (Some row) text e = same_Some row.1 text e

-- what the search finds, is the row of the suffix
pub type_found : (end : List ℕ) (rows : List (List ℕ × ℕ)) (place number : ℕ) → rows ≡ suffix_rows →
    Some place ≡ position (has_name_folded end) rows → option_map (λ row. row.1)
    (slice_get rows place) ≡ Some number →
    type_at number ≡ type_of_suffix end
type_found end rows place number whole found at =
    let row : find (has_name_folded end) rows ≡ slice_get rows place =
    found_row (has_name_folded end) rows place (sym found) in
    let numbered : option_map (λ row. row.1) (find (has_name_folded end) rows) ≡ Some number =
    ap (option_map (λ row. row.1)) row ∙ at in
    let table : map typed rows ≡ media_rows = ap (map typed) whole ∙ same_table in
    let typed_row : option_map (λ row. row.1) (find (is_of end) media_rows) ≡ Some (type_at number)
    =
    ap (λ rows. option_map (λ row. row.1) (find (is_of end) rows)) (sym table)
    ∙ (ap (option_map (λ row. row.1)) (find_typed end rows) ∙
    of_row (find (has_name_folded end) rows) number numbered) in
    sym (or_unknown (find (is_of end) media_rows) (type_at number) typed_row)

pub none_found : (end : List ℕ) (rows : List (List ℕ × ℕ)) → rows ≡ suffix_rows →
    None ≡ position (has_name_folded end) rows →
    unknown_type ≡ type_of_suffix end
none_found end rows whole none =
    let table : map typed rows ≡ media_rows = ap (map typed) whole ∙ same_table in
    let missing : find (is_of end) media_rows ≡ None =
    ap (find (is_of end)) (sym table) ∙ (find_typed end rows ∙
    ap (option_map typed) (found_none (has_name_folded end) rows (sym none))) in
    sym (ap (λ (row : Option (List ℕ × List ℕ)). option_map_or (λ row. row.1) row unknown_type)
    missing)
