-- Bytes that came are a prefix of the input, and stay one where more of it come.
use Rattle.std.proofs.Common.{◌≡◌, ◌≤◌, ◌+◌, ◌++◌, ℕ, List, [], ◌∷◌, length, take, drop, map, ap}
use Rattle.std.proofs.Common.{sym, ◌∙◌, arith, length-append, length-drop, refl}
use Rattle.std.proofs.lemmas.List.{map-append, length-map, length-take}
use Rattle.std.proofs.Math.Seq.{take-add}
use Rattle.outside.specs.Link.{stamped}

-- stamped bytes without their moments
bytes-stamped : (now : ℕ) (bytes : List ℕ) → map (λ a. a.1) (stamped now bytes) ≡ bytes
bytes-stamped now [] = refl
bytes-stamped now (b ∷ bytes) = ap (λ xs. b ∷ xs) (bytes-stamped now bytes)

pub record StillCame (new : List (ℕ × ℕ)) (input : List ℕ) : Type 0 where
  pub no_more : length new ≤ length input
  pub came : map (λ a. a.1) new ≡ take (length new) input

pub came_on : (now n : ℕ) (old new : List (ℕ × ℕ)) (input : List ℕ) →
    length old + n ≤ length input →
    map (λ a. a.1) old ≡ take (length old) input →
    new ≡ old ++ stamped now (take n (drop (length old) input)) → StillCame new input
came_on now n old new input room came more =
    let piece : List ℕ = take n (drop (length old) input) in
    let grown : length new ≡ length old + n = omega (
      arith,
      ap length more,
      length-append old (stamped now piece),
      length-map {B = ℕ × ℕ} piece (λ (b : ℕ). (now, b)),
      length-take n (drop (length old) input),
      length-drop (length old) input,
    ) in
    let bytes : map (λ a. a.1) new ≡ map (λ a. a.1) old ++ piece =
    ap (λ xs. map (λ a. a.1) xs) more
    ∙ (map-append (λ (a : ℕ × ℕ). a.1) old (stamped now piece)
    ∙ ap (λ xs. map (λ (a : ℕ × ℕ). a.1) old ++ xs) (bytes-stamped now piece)) in
    record {
      no_more = omega arith;
      came = rw grown (bytes ∙ (ap (λ xs. xs ++ piece) came ∙ sym (take-add (length old) n input)));
    }
