-- Where a needle stands in a text behind its first byte, in a front and in the rest of a text.
use Rattle.std.proofs.Common.{◌≡◌, ◌≤◌, ◌<◌, ◌+◌, ◌-◌, ℕ, suc, List, ◌∷◌, length, take, drop}
use Rattle.std.proofs.Common.{get_or, None, Some, ap, sym, ◌∙◌, arith}
use Rattle.std.proofs.lemmas.List.{length-take, length-drop, get_or-take, get_or-drop}
use Rattle.memchr.specs.Find.{OccursAt, FindsNeedle}

-- an element behind the first one
behind : (b : ℕ) (bs : List ℕ) (k j : ℕ) → get_or (b ∷ bs) (suc k + j) 0 ≡ get_or bs (k + j) 0
behind b bs k j = ap (λ m. get_or (b ∷ bs) m 0) (let e : suc k + j ≡ suc (k + j) = omega arith in e)

pub occurs_behind : (b : ℕ) (bs needle : List ℕ) (k : ℕ) → OccursAt bs needle k →
    OccursAt (b ∷ bs) needle (suc k)
occurs_behind b bs needle k h = record {
  fits = let f = h.fits in omega arith;
  reads =
      λ j l. behind b bs k j ∙ h.reads j l;
}

pub occurs_before : (b : ℕ) (bs needle : List ℕ) (k : ℕ) → OccursAt (b ∷ bs) needle (suc k) →
    OccursAt bs needle k
occurs_before b bs needle k h = record {
  fits = let f = h.fits in omega arith;
  reads =
      λ j l. sym (behind b bs k j) ∙ h.reads j l;
}

-- what a search finds behind the first byte
pub finds_none : (b : ℕ) (bs needle : List ℕ) → FindsNeedle (b ∷ bs) needle 0 None →
    FindsNeedle bs needle 0 None
finds_none b bs needle h = λ k low high occurs. h (suc k) (omega arith) (omega arith)
    (occurs_behind b bs needle k occurs)

pub finds_some : (b : ℕ) (bs needle : List ℕ) (j : ℕ) →
    FindsNeedle (b ∷ bs) needle 0 (Some (suc j)) → FindsNeedle bs needle 0 (Some j)
finds_some b bs needle j h = (
  record {
    low = omega arith;
    high = let high = h.0.high in omega arith;
    before = λ k low below occurs. h.0.before (suc k) (omega arith) (omega arith)
        (occurs_behind b bs needle k occurs);
  },
  occurs_before b bs needle j h.1,
)

-- what stands within a front of a text stands in the front
pub occurs_front : (text needle : List ℕ) (from k : ℕ) → k + length needle ≤ from →
    OccursAt text needle k → OccursAt (take from text) needle k
occurs_front text needle from k low h = record {
  fits = let f = h.fits in let l = length-take from text in omega arith;
  reads = λ j l. get_or-take from text (k + j) 0 (omega arith) ∙ h.reads j l;
}

-- what stands in a text from a place on stands in the rest
pub occurs_drop : (text needle : List ℕ) (start k : ℕ) → start ≤ k → OccursAt text needle k →
    OccursAt (drop start text) needle (k - start)
occurs_drop text needle start k low h = record {
  fits = let f = h.fits in let l = length-drop start text in omega arith;
  reads = λ j l. get_or-drop start text (k - start + j) 0
      ∙ (ap (λ m. get_or text m 0) (let e : start + (k - start + j) ≡ k + j = omega arith in e)
      ∙ h.reads j l);
}

pub occurs_whole : (text needle : List ℕ) (start k : ℕ) → 0 < length needle →
    OccursAt (drop start text) needle k → OccursAt text needle (start + k)
occurs_whole text needle start k some h = record {
  fits = let f = h.fits in let l = length-drop start text in omega arith;
  reads = λ j l. ap (λ m. get_or text m 0) (let e : start + k + j ≡ start + (k + j) = omega arith in
      e) ∙ (sym (get_or-drop start text (k + j) 0) ∙ h.reads j l);
}
