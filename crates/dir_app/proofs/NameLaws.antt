-- The promise of the names: behind the root, each part of the name of a file leads down.
use Rattle.std.specs.Prelude.{◌≡◌, ◌<◌, ℕ, Bool, true, false, ◌&&◌, ◌==◌, nat_lt, List, [], ◌∷◌}
use Rattle.std.specs.Prelude.{◌++◌, length, codes, refl}
use Rattle.std.specs.List.{after_last, join_with_byte, list_all, slice_split}
use Rattle.std.proofs.Common.{◌∙◌, ap, sym, arith}
use Rattle.std.proofs.lemmas.Bool.{and_from, eqb-true, lt-ltb, false≢true}
use Rattle.std.proofs.lemmas.List.{append-nil}
use Rattle.std.proofs.lemmas.List.Splits.{join_with_byte-slice_split}
use Rattle.byte_tables.proofs.Cuts.{some_part}
use Rattle.dir_app.proofs.LastPart.{behind_slash, last_of, longer, onto_last}
use Rattle.dir_app.specs.Names.{are_names, is_name, is_slash, leads_down, page, parts, path_of}
use Rattle.dir_app.specs.Names.{stays_below}

-- names lead down where the last one isn't empty, and where a page stands in its place
first_true : (a b : Bool) → (a && b) ≡ true → a ≡ true
first_true true b e = refl
first_true false b e = e

second_true : (a b : Bool) → (a && b) ≡ true → b ≡ true
second_true true b e = e
second_true false b e = absurd (false≢true e)

lead : (more : List (List ℕ)) → are_names more ≡ true → 0 < length more →
    0 < length (last_of more) → list_all leads_down more ≡ true
lead [] names some full = absurd (omega arith)
lead (part ∷ []) names some full = and_from (leads_down part) true
    (and_from (nat_lt 0 (length part)) (is_name part) (lt-ltb 0 (length part) full) names) refl
lead (part ∷ next ∷ rest) names some full =
    and_from (leads_down part) (list_all leads_down (next ∷ rest))
    (first_true (leads_down part) (are_names (next ∷ rest)) names)
    (lead (next ∷ rest) (second_true (leads_down part) (are_names (next ∷ rest)) names)
    (omega arith) full)

lead_with_page : (more : List (List ℕ)) → are_names more ≡ true → 0 < length more →
    length (last_of more) ≡ 0 →
    list_all leads_down (onto_last (codes "index.html") more) ≡ true
lead_with_page [] names some none = absurd (omega arith)
lead_with_page ([] ∷ []) names some none = refl
lead_with_page ((b ∷ bs) ∷ []) names some none = absurd (omega arith)
lead_with_page (part ∷ next ∷ rest) names some none =
    and_from (leads_down part) (list_all leads_down (onto_last (codes "index.html") (next ∷ rest)))
    (first_true (leads_down part) (are_names (next ∷ rest)) names)
    (lead_with_page (next ∷ rest) (second_true (leads_down part) (are_names (next ∷ rest)) names)
    (omega arith) none)

with_page : (bs last : List ℕ) → last_of (slice_split is_slash bs) ≡ last →
    are_names (slice_split is_slash bs) ≡ true →
    list_all leads_down (slice_split is_slash (bs ++ page last)) ≡ true
with_page bs [] same names =
    ap (list_all leads_down) (longer (codes "index.html") refl bs)
    ∙ lead_with_page (slice_split is_slash bs) names (some_part is_slash bs) (ap length same)
with_page bs (c ∷ cs) same names =
    ap (λ (path : List ℕ). list_all leads_down (slice_split is_slash path)) (append-nil bs)
    ∙ lead (slice_split is_slash bs) names (some_part is_slash bs)
    (let l = ap length same in omega arith)

-- no part of a name leads out of the root, to the folder itself or to nothing
pub leads_below : (path : List ℕ) → stays_below path ≡ true →
    list_all leads_down (parts (path_of path)) ≡ true
leads_below [] below = refl
leads_below (b ∷ bs) below =
    let names : are_names (slice_split is_slash bs) ≡ true = second_true _ _ below in
    let slash : (b == 47) ≡ true = second_true _ _ (first_true _ _ below) in
    ap (λ (last : List ℕ). list_all leads_down (slice_split is_slash (bs ++ page last)))
    (behind_slash b bs slash)
    ∙ with_page bs (last_of (slice_split is_slash bs)) refl names

-- and its name is the root, a slash and these parts, with a slash between each two
pub parts_are_joined : (path : List ℕ) → stays_below path ≡ true →
    path_of path ≡ codes "/" ++ join_with_byte 47 (parts (path_of path))
parts_are_joined [] below = absurd (false≢true (second_true _ _ (first_true _ _ below)))
parts_are_joined (b ∷ bs) below =
    let slash : b ≡ 47 = eqb-true b 47 (second_true _ _ (first_true _ _ below)) in
    let behind : List ℕ = bs ++ page (after_last is_slash (b ∷ bs)) in
    ap (λ (c : ℕ). c ∷ behind) slash ∙ ap (λ (xs : List ℕ). 47 ∷ xs)
    (sym (join_with_byte-slice_split 47 behind))
