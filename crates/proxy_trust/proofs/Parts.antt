-- The last parts of a list, behind references and as they are.
use Rattle.std.proofs.Common.{◌≡◌, ◌-◌, ◌≤◌, ℕ, true, false, List, [], ◌∷◌, ◌++◌, length, take}
use Rattle.std.proofs.Common.{drop, Bor, refl, ap, sym, ◌∙◌}
use Rattle.std.specs.Prelude.{codes, flat_map, option_and_then, None, Some, map, ◌||◌}
use Rattle.std.specs.Prelude.{if◌then◌else◌}
use Rattle.std.specs.List.{list_any}
use Rattle.std.proofs.lemmas.List.{length-map, drop-map, take_all}
use Rattle.std.proofs.lemmas.List.Folds.{flat_map-map}
use Rattle.proxy_trust.specs.Lists.{is_empty, last_of, listed, listed_of, parts, joined}

abbrev pub seen_parts : List (Bor (List ℕ)) → List (List ℕ)
seen_parts ps = map (λ part. part.now) ps

any_seen : (ps : List (Bor (List ℕ))) → list_any is_empty (seen_parts ps) ≡ list_any
    (λ part. is_empty part.now) ps
any_seen [] = refl
any_seen (p ∷ ps) = ap (λ t. is_empty p.now || t) (any_seen ps)

last_seen : (count : ℕ) (ps : List (Bor (List ℕ))) →
    last_of count (seen_parts ps) ≡ (if list_any (λ part. is_empty part.now) ps then None else Some
    (seen_parts (drop (length ps - count) ps)))
last_seen count ps =
    ap (λ t. if t then None else Some (drop (length (seen_parts ps) - count) (seen_parts ps)))
    (any_seen ps) ∙
    (ap (λ n. if list_any (λ part. is_empty part.now) ps then None else Some
    (drop (n - count) (seen_parts ps))) (length-map ps (λ part. part.now)) ∙
    ap (λ xs. if list_any (λ part. is_empty part.now) ps then None else Some xs)
    (drop-map (λ part. part.now) (length ps - count) ps))

-- a list with an empty part
pub none_listed : (count : ℕ) (value : List ℕ) (ps : List (Bor (List ℕ))) →
    seen_parts ps ≡ parts value → list_any (λ part. is_empty part.now) ps ≡ true →
    listed count value ≡ None
none_listed count value ps same empty =
    ap (λ xs. option_and_then listed_of (last_of count xs)) (sym same) ∙
    (ap (option_and_then listed_of) (last_seen count ps) ∙
    ap (λ t. option_and_then listed_of (if t then None else Some
    (seen_parts (drop (length ps - count) ps)))) empty)

-- a list without one
pub some_listed : (count : ℕ) (value : List ℕ) (ps : List (Bor (List ℕ))) →
    seen_parts ps ≡ parts value → list_any (λ part. is_empty part.now) ps ≡ false →
    listed count value ≡ listed_of (seen_parts (drop (length ps - count) ps))
some_listed count value ps same empty =
    ap (λ xs. option_and_then listed_of (last_of count xs)) (sym same) ∙
    (ap (option_and_then listed_of) (last_seen count ps) ∙
    ap (λ t. option_and_then listed_of (if t then None else Some
    (seen_parts (drop (length ps - count) ps)))) empty)

-- the first part, and all others behind a comma
pub joined_is : (ps rest : List (Bor (List ℕ))) (first : Bor (List ℕ)) (text front : List ℕ)
    (i : ℕ) → ps ≡ first ∷ rest → front ≡ first.now →
    text ≡ front ++ flat_map (λ (part : Bor (List ℕ)). codes ", " ++ part.now) (take i rest) →
    length rest ≤ i → text ≡ joined (seen_parts ps)
joined_is ps rest first text front i whole one is l =
    is ∙ (ap (λ xs. front ++ flat_map (λ (part : Bor (List ℕ)). codes ", " ++ part.now) xs)
    (take_all i rest l) ∙
    (ap (λ xs. xs ++ flat_map (λ (part : Bor (List ℕ)). codes ", " ++ part.now) rest) one ∙
    (ap (λ xs. first.now ++ xs) (sym (flat_map-map (λ (part : List ℕ). codes ", " ++ part)
    (λ (part : Bor (List ℕ)). part.now) rest)) ∙
    ap (λ xs. joined (seen_parts xs)) (sym whole))))
