-- Lines and what continues them, as they are joined one by one.
use Rattle.std.proofs.Common.{◌≡◌, ℕ, zero, suc, Bool, true, false, List, [], ◌∷◌, ◌++◌, length}
use Rattle.std.proofs.Common.{take, None, Some, refl, ap, sym, ◌∙◌, cond, arith}
use Rattle.std.specs.Prelude.{Option, Result, Err, not, nat_lt, ◌&&◌, ◌==◌, position}
use Rattle.std.specs.List.{list_all}
use Rattle.std.proofs.lemmas.Bool.Decides.{nat_tests}
use Rattle.std.proofs.lemmas.List.{append_assoc}
use Rattle.byte_tables.specs.Classes.{is_token}
use Rattle.byte_tables.specs.declared.refusal.Refusal.{Refusal}
use Rattle.byte_tables.specs.declared.refusal.Refusal.TheVariants.{FieldLine}
use Rattle.head_grammar.specs.declared.types.Field.{Field}
use Rattle.byte_tables.specs.Classes.{is_white_space}
use Rattle.head_grammar.specs.Classes.{without_space_in_front}
use Rattle.head_grammar.specs.FieldLines.{continues, first_continues, with_one_space, onto_lines}
use Rattle.head_grammar.specs.FieldLines.{unfolded, is_name, cut_at, field_line, onto_fields}
use Rattle.head_grammar.specs.FieldLines.{field_lines}

pub unfolded_cons : (line : List ℕ) (rest : List (List ℕ)) → unfolded (line ∷ rest)
    ≡ onto_lines (first_continues rest) (with_one_space line) (unfolded rest)
unfolding unfolded
unfolded_cons line rest = refl

onto_onto : (t : Bool) (x y : List ℕ) (zs : List (List ℕ)) → onto_lines true x (onto_lines t y zs)
    ≡ onto_lines t (x ++ y) zs
onto_onto false x y zs = refl
onto_onto true x y [] = refl
onto_onto true x y (z ∷ zs) = ap (λ line. line ∷ zs) (sym (append_assoc x y z))

-- one more line that continues what was joined
pub joined_more : (whole next : List ℕ) (rest : List (List ℕ)) → continues next ≡ true →
    onto_lines (first_continues (next ∷ rest)) whole (unfolded (next ∷ rest))
    ≡ onto_lines (first_continues rest) ((whole ++ 32 ∷ []) ++ without_space_in_front next)
    (unfolded rest)
joined_more whole next rest e =
    ap (λ t. onto_lines t whole (unfolded (next ∷ rest))) e ∙
    (ap (onto_lines true whole) (unfolded_cons next rest) ∙
    (ap (λ t. onto_lines true whole (onto_lines (first_continues rest)
    (cond t (32 ∷ without_space_in_front next) next) (unfolded rest))) e ∙
    (onto_onto (first_continues rest) whole (32 ∷ without_space_in_front next) (unfolded rest) ∙
    ap (λ line. onto_lines (first_continues rest) line (unfolded rest))
    (sym (append_assoc whole (32 ∷ []) (without_space_in_front next))))))

-- no more of them
pub joined_whole : (whole : List ℕ) (rest : List (List ℕ)) → first_continues rest ≡ false →
    onto_lines (first_continues rest) whole (unfolded rest) ≡ whole ∷ unfolded rest
joined_whole whole rest e = ap (λ t. onto_lines t whole (unfolded rest)) e

not_token : (b : ℕ) → is_white_space b ≡ true → is_token b ≡ false
not_token b e = grind (arith, nat_tests)

refused_if : {X : Type 0} (t : Bool) (x y : X) → t ≡ false → cond (not t) x y ≡ x
refused_if true x y e = cc
refused_if false x y e = refl

neither : (s t u : Bool) → t ≡ false → (s && (t && u)) ≡ false
neither true true u e = cc
neither true false u e = refl
neither false t u e = refl

cut_space : (b : ℕ) (bs : List ℕ) (r : Option ℕ) → is_token b ≡ false → cut_at (b ∷ bs) r
    ≡ Err FieldLine
cut_space b bs None e = refl
cut_space b bs (Some zero) e = refl
cut_space b bs (Some (suc n)) e = refused_if (is_name (b ∷ take n bs)) _ _
    (neither (nat_lt 0 (length (b ∷ take n bs))) (is_token b) (list_all is_token (take n bs)) e)

-- no name begins with white space
space_line : (b : ℕ) (bs : List ℕ) → is_white_space b ≡ true → field_line (b ∷ bs) ≡ Err FieldLine
space_line b bs e = cut_space b bs (position (λ c. c == 58) (b ∷ bs)) (not_token b e)

space_lines : (b : ℕ) (bs : List ℕ) (rest : List (List ℕ)) → is_white_space b ≡ true →
    field_lines ((b ∷ bs) ∷ rest) ≡ Err FieldLine
space_lines b bs rest e = ap (λ r. onto_fields r (field_lines rest)) (space_line b bs e)

space_first : (t : Bool) (b : ℕ) (bs : List ℕ) (rest : List (List ℕ)) → is_white_space b ≡ true →
    field_lines (onto_lines t (b ∷ bs) rest) ≡ Err FieldLine
space_first true b bs [] e = space_lines b bs [] e
space_first true b bs (next ∷ rest) e = space_lines b (bs ++ next) rest e
space_first false b bs rest e = space_lines b bs rest e

by_front : (u t : Bool) (line : List ℕ) (rest : List (List ℕ)) → continues line ≡ u →
    field_lines (onto_lines t (cond u (32 ∷ without_space_in_front line) line) rest)
    ≡ field_lines (onto_lines t line rest)
by_front false t line rest e = refl
by_front true t [] rest e = cc
by_front true t (b ∷ bs) rest e = space_first t 32 (without_space_in_front (b ∷ bs)) rest refl
    ∙ sym (space_first t b bs rest e)

-- what a line says with those that continue it
pub said_whole : (line : List ℕ) (rest : List (List ℕ)) (whole : List ℕ) (others : List (List ℕ))
    (read : Result Field Refusal) →
    onto_lines (first_continues rest) line (unfolded rest) ≡ whole ∷ others →
    read ≡ field_line whole →
    field_lines (unfolded (line ∷ rest)) ≡ onto_fields read (field_lines others)
said_whole line rest whole others read h e =
    ap field_lines (unfolded_cons line rest) ∙
    (by_front (continues line) (first_continues rest) line (unfolded rest) refl ∙
    (ap field_lines h ∙ ap (λ r. onto_fields r (field_lines others)) (sym e)))

pub said_alone : (line : List ℕ) (rest : List (List ℕ)) (read : Result Field Refusal) →
    first_continues rest ≡ false → read ≡ field_line line →
    field_lines (unfolded (line ∷ rest)) ≡ onto_fields read (field_lines (unfolded rest))
said_alone line rest read h e = said_whole line rest line (unfolded rest) read
    (joined_whole line rest h) e
