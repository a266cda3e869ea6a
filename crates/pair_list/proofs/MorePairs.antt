-- One more pair at the end of a text of pairs.
use Rattle.std.proofs.Common.{◌≡◌, ◌+◌, ℕ, List, [], ◌∷◌, ◌++◌, length, take, drop, map}
use Rattle.std.proofs.Common.{suc, refl, ap, sym, subst, ◌∙◌, arith}
use Rattle.std.proofs.lemmas.List.{take-append-le, drop-append-le, append_assoc}
use Rattle.std.proofs.lemmas.List.{length-drop, length-append, length-map}
use Rattle.std.proofs.Math.Seq.{take-append_seam, drop-append_seam, take-length}
use Rattle.pair_list.specs.Cuts.{cut, total}

cut_more : (text : List ℕ) (sizes : List (ℕ × ℕ)) (name value : List ℕ) →
    total sizes ≡ length text →
    cut (text ++ (name ++ value)) (sizes ++ (length name, length value) ∷ [])
    ≡ cut text sizes ++ (name, value) ∷ []
cut_more [] [] name value w =
    ap (λ x. (x, take (length value) (drop (length name) (name ++ value))) ∷ [])
    (take-append_seam name value) ∙
    ap (λ y. (name, y) ∷ [])
    (ap (take (length value)) (drop-append_seam name value) ∙ take-length value)
cut_more (b ∷ bs) [] name value w = absurd (omega arith)
cut_more text (size ∷ sizes) name value w =
    let more = name ++ value in
    let last : ℕ × ℕ = (length name, length value) in
    let l = length-drop size.0 text in
    let m = length-drop size.1 (drop size.0 text) in
    let a = take-append-le size.0 text more (omega arith) in
    let d = drop-append-le size.0 text more (omega arith) in
    let b = ap (take size.1) d ∙ take-append-le size.1 (drop size.0 text) more (omega arith) in
    let e = ap (drop size.1) d ∙ drop-append-le size.1 (drop size.0 text) more (omega arith) in
    let ih = cut_more (drop size.1 (drop size.0 text)) sizes name value (omega arith) in
    ap (λ x. (x, take size.1 (drop size.0 (text ++ more)))
    ∷ cut (drop size.1 (drop size.0 (text ++ more))) (sizes ++ last ∷ [])) a ∙
    (ap (λ y. (take size.0 text, y)
    ∷ cut (drop size.1 (drop size.0 (text ++ more))) (sizes ++ last ∷ [])) b ∙
    ap (λ zs. (take size.0 text, take size.1 (drop size.0 text)) ∷ zs)
    (ap (λ t. cut t (sizes ++ last ∷ [])) e ∙ ih))

total_more : (sizes : List (ℕ × ℕ)) (n m : ℕ) →
    total (sizes ++ (n, m) ∷ []) ≡ total sizes + (n + m)
total_more [] n m = omega arith
total_more (size ∷ sizes) n m = let ih = total_more sizes n m in omega arith

-- so many pairs as sizes
pub cut_length : (text : List ℕ) (sizes : List (ℕ × ℕ)) → length (cut text sizes) ≡ length sizes
cut_length text [] = refl
cut_length text (size ∷ sizes) =
    ap (λ n. suc n) (cut_length (drop size.1 (drop size.0 text)) sizes)

-- a text and sizes with one pair more
abbrev pub HasOneMore : List ℕ → List (ℕ × ℕ) → List ℕ → List ℕ → List ℕ → List (ℕ × ℕ) → Type 0
HasOneMore text sizes name value new more =
    (total more ≡ length new) × (cut new more ≡ cut text sizes ++ (name, value) ∷ [])

one_more : (text name value : List ℕ) (sizes : List (ℕ × ℕ)) → total sizes ≡ length text →
    HasOneMore text sizes name value
    (text ++ (name ++ value)) (sizes ++ (length name, length value) ∷ [])
one_more text name value sizes whole =
    let a = length-append text (name ++ value) in
    let b = length-append name value in
    let e : total sizes + (length name + length value) ≡ length (text ++ (name ++ value)) =
    omega arith in
    (total_more sizes (length name) (length value) ∙ e, cut_more text sizes name value whole)

-- a pair was added: room was made, then a name, a value and their sizes were put
pub added : {text room named new : List ℕ} {sizes places more : List (ℕ × ℕ)}
    (name value : List ℕ) →
    total sizes ≡ length text → room ≡ text → named ≡ room ++ name → new ≡ named ++ value →
    places ≡ sizes → more ≡ places ++ (length name, length value) ∷ [] →
    HasOneMore text sizes name value new more
added {text} {room} {named} {new} {sizes} {places} {more} name value whole p q r s t =
    let texts : new ≡ text ++ (name ++ value) =
    r ∙ (ap (λ z. z ++ value) (q ∙ ap (λ z. z ++ name) p) ∙ append_assoc text name value) in
    let lengths : more ≡ sizes ++ (length name, length value) ∷ [] =
    t ∙ ap (λ z. z ++ (length name, length value) ∷ []) s in
    subst (λ z. HasOneMore text sizes name value z more) (sym texts)
    (subst (λ z. HasOneMore text sizes name value (text ++ (name ++ value)) z) (sym lengths)
    (one_more text name value sizes whole))

-- the same, where the name is put as a prefix and the form of some bytes
pub added_as : {text room begun named new : List ℕ} {sizes places more : List (ℕ × ℕ)}
    (f : ℕ → ℕ) (prefix name value : List ℕ) →
    total sizes ≡ length text → room ≡ text → begun ≡ room ++ prefix →
    named ≡ begun ++ map f name → new ≡ named ++ value →
    places ≡ sizes → more ≡ places ++ (length prefix + length name, length value) ∷ [] →
    HasOneMore text sizes (prefix ++ map f name) value new more
added_as {text} {room} {begun} {named} {new} {sizes} {places} {more}
    f prefix name value whole p q r s t u =
    let long : length prefix + length name ≡ length (prefix ++ map f name) =
    sym (length-append prefix (map f name) ∙ ap (λ n. length prefix + n) (length-map name f)) in
    added (prefix ++ map f name) value whole p
    (r ∙ (ap (λ z. z ++ map f name) q ∙ append_assoc room prefix (map f name))) s t
    (u ∙ ap (λ n. places ++ (n, length value) ∷ []) long)
