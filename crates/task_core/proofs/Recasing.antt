-- A name is recased byte by byte.
use Rattle.std.proofs.Common.{◌≡◌, ℕ, Bool, true, false, List, [], ◌∷◌, map, cond, refl, ap, sym}
use Rattle.std.proofs.Common.{◌∙◌, arith}
use Rattle.std.proofs.lemmas.Bool.Decides.{nat_tests}
use Rattle.std.specs.Prelude.{◌==◌, if◌then◌else◌}
use Rattle.std.specs.Char.{to_ascii_lowercase, to_ascii_uppercase}
use Rattle.std.specs.List.{join_with_byte, onto_first, slice_split}
use Rattle.task_core.specs.ResponseHead.{recased, title}

-- a byte at the front of a part, or behind it
abbrev pub case_of : Bool → ℕ → ℕ
case_of first b = if first then to_ascii_uppercase b else to_ascii_lowercase b

abbrev pub cased : Bool → List ℕ → List ℕ
cased first [] = []
cased first (b ∷ bs) = case_of first b ∷ cased (case_of first b == 45) bs

-- hyphens stay, and nothing becomes one
hyphen_stays : (first : Bool) (b : ℕ) → (b == 45) ≡ true → case_of first b ≡ 45
hyphen_stays true b h = grind (arith, nat_tests)
hyphen_stays false b h = grind (arith, nat_tests)

other_stays : (first : Bool) (b : ℕ) → (b == 45) ≡ false → (case_of first b == 45) ≡ false
other_stays true b h = grind (arith, nat_tests)
other_stays false b h = grind (arith, nat_tests)

cased-hyphen : (first : Bool) (b : ℕ) (bs : List ℕ) → (b == 45) ≡ true →
    cased first (b ∷ bs) ≡ 45 ∷ cased true bs
cased-hyphen first b bs h = ap (λ v. v ∷ cased (v == 45) bs) (hyphen_stays first b h)

cased-other : (first : Bool) (b : ℕ) (bs : List ℕ) → (b == 45) ≡ false →
    cased first (b ∷ bs) ≡ case_of first b ∷ cased false bs
cased-other first b bs h = ap (λ f. case_of first b ∷ cased f bs) (other_stays first b h)

-- the parts, of which the first goes on
abbrev lowered : List (List ℕ) → List (List ℕ)
lowered [] = []
lowered (part ∷ parts) = map to_ascii_lowercase part ∷ map title parts

join-cons : (b : ℕ) (bs : List ℕ) (parts : List (List ℕ)) →
    join_with_byte 45 ((b ∷ bs) ∷ parts) ≡ b ∷ join_with_byte 45 (bs ∷ parts)
join-cons b bs [] = refl
join-cons b bs (part ∷ parts) = refl

-- a list of parts that begins with this one
abbrev Joins : List (List ℕ) → List ℕ → Type 0
Joins parts bs =
    (join_with_byte 45 (map title parts) ≡ cased true bs)
    × (join_with_byte 45 (lowered parts) ≡ cased false bs)

behind_hyphen : (b : ℕ) (bs part : List ℕ) (parts : List (List ℕ)) → (b == 45) ≡ true →
    Joins (part ∷ parts) bs → Joins ([] ∷ part ∷ parts) (b ∷ bs)
behind_hyphen b bs part parts h joins = (
  ap (λ xs. 45 ∷ xs) joins.0 ∙ sym (cased-hyphen true b bs h),
  ap (λ xs. 45 ∷ xs) joins.0 ∙ sym (cased-hyphen false b bs h),
)

behind_other : (b : ℕ) (bs part : List ℕ) (parts : List (List ℕ)) → (b == 45) ≡ false →
    Joins (part ∷ parts) bs → Joins ((b ∷ part) ∷ parts) (b ∷ bs)
behind_other b bs part parts h joins = (
  join-cons (to_ascii_uppercase b) (map to_ascii_lowercase part) (map title parts)
      ∙ (ap (λ xs. to_ascii_uppercase b ∷ xs) joins.1 ∙ sym (cased-other true b bs h)),
  join-cons (to_ascii_lowercase b) (map to_ascii_lowercase part) (map title parts)
      ∙ (ap (λ xs. to_ascii_lowercase b ∷ xs) joins.1 ∙ sym (cased-other false b bs h)),
)

-- the parts of a name, which is joined of them as it is recased byte by byte
record Parts (bs : List ℕ) : Type 0 where
  part : List ℕ
  others : List (List ℕ)
  split : slice_split (λ b. b == 45) bs ≡ part ∷ others
  joins : Joins (part ∷ others) bs

behind : (hyphen : Bool) (b : ℕ) (bs : List ℕ) → (b == 45) ≡ hyphen → Parts bs → Parts (b ∷ bs)
behind true b bs h parts = record {
  part = [];
  others = parts.part ∷ parts.others;
  split = ap (λ c. cond c ([] ∷ slice_split (λ b. b == 45) bs)
      (onto_first b (slice_split (λ b. b == 45) bs))) h
      ∙ ap (λ ps. [] ∷ ps) parts.split;
  joins = behind_hyphen b bs parts.part parts.others h parts.joins;
}
behind false b bs h parts = record {
  part = b ∷ parts.part;
  others = parts.others;
  split = ap (λ c. cond c ([] ∷ slice_split (λ b. b == 45) bs)
      (onto_first b (slice_split (λ b. b == 45) bs))) h
      ∙ ap (onto_first b) parts.split;
  joins = behind_other b bs parts.part parts.others h parts.joins;
}

parts_of : (bs : List ℕ) → Parts bs
parts_of [] = record { part = []; others = []; split = refl; joins = (refl, refl) }
parts_of (b ∷ bs) = behind (b == 45) b bs refl (parts_of bs)

pub recased_is : (name : List ℕ) → recased name ≡ cased true name
unfolding recased
recased_is name =
    let parts = parts_of name in
    ap (λ ps. join_with_byte 45 (map title ps)) parts.split ∙ parts.joins.0
