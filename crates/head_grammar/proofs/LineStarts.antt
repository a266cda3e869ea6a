-- The first line of a text begins with the text's first byte, or is empty before CR LF.
use Rattle.std.proofs.Common.{◌≡◌, ℕ, Bool, true, false, List, [], ◌∷◌, length, get_or, refl, sym}
use Rattle.std.proofs.Common.{cond, arith}
use Rattle.std.specs.Prelude.{◌&&◌, ◌==◌}
use Rattle.std.specs.List.{onto_first}
use Rattle.std.proofs.lemmas.Bool.Decides.{nat_tests}
use Rattle.byte_tables.specs.Classes.{is_white_space}
use Rattle.head_grammar.specs.Lines.{lines}
use Rattle.head_grammar.specs.FieldLines.{first_continues}

continues_nil : first_continues (lines []) ≡ false
unfolding lines
continues_nil = refl

onto_continues : (b : ℕ) (parts : List (List ℕ)) → first_continues (onto_first b parts)
    ≡ is_white_space b
onto_continues b [] = refl
onto_continues b (part ∷ parts) = refl

cut_continues : (t : Bool) (b : ℕ) (rest parts : List (List ℕ)) →
    (t ≡ true → is_white_space b ≡ false) →
    first_continues (cond t ([] ∷ rest) (onto_first b parts)) ≡ is_white_space b
cut_continues true b rest parts other = sym (other refl)
cut_continues false b rest parts other = onto_continues b parts

cr_is_none : (b c : ℕ) → (b == 13 && c == 10) ≡ true → is_white_space b ≡ false
cr_is_none b c e = grind (arith, nat_tests)

continues_cons : (b : ℕ) (bs : List ℕ) → first_continues (lines (b ∷ bs)) ≡ is_white_space b
unfolding lines
continues_cons b [] = refl
continues_cons b (c ∷ bs) = cut_continues (b == 13 && c == 10) b (lines bs) (lines (c ∷ bs))
    (cr_is_none b c)

-- a text of some bytes
pub continues_some : (text : List ℕ) → (length text == 0) ≡ false → first_continues (lines text)
    ≡ is_white_space (get_or text 0 0)
continues_some [] e = let wrong : true ≡ false = e in cc
continues_some (b ∷ bs) e = continues_cons b bs

pub continues_none : (text : List ℕ) → (length text == 0) ≡ true → first_continues (lines text)
    ≡ false
continues_none [] e = continues_nil
continues_none (b ∷ bs) e = grind (arith, nat_tests)
