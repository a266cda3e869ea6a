-- The parts of a text that is cut at each separator.
use Rattle.std.proofs.Common.{◌≡◌, ◌+◌, ◌-◌, ◌∙◌, ℕ, Bool, List, [], ◌∷◌, length, take, drop}
use Rattle.std.proofs.Common.{None, Some, refl, ap, sym, arith}
use Rattle.std.specs.Prelude.{position}
use Rattle.std.specs.List.{filter, slice_split}
use Rattle.byte_tables.proofs.Cuts.{cut_some, cut_none, rest_is}
use Rattle.adjust.specs.Lists.{has_bytes, is_separator, onto_parts, parts}

pub parts-nil : (commas : Bool) → parts commas [] ≡ []
unfolding parts
parts-nil commas = refl

pub parts_cut : (commas : Bool) (text : List ℕ) (k : ℕ) →
    position (is_separator commas) text ≡ Some k →
    parts commas text ≡ onto_parts (take k text) (parts commas
    (take (length text - (k + 1)) (drop (k + 1) text)))
unfolding parts
parts_cut commas text k e =
    ap (filter has_bytes) (cut_some (is_separator commas) text k e)
    ∙ ap (λ xs. onto_parts (take k text) (filter has_bytes (slice_split (is_separator commas) xs)))
    (sym (rest_is text (k + 1)))

pub parts_whole : (commas : Bool) (text : List ℕ) → position (is_separator commas) text ≡ None →
    parts commas text ≡ onto_parts text (parts commas [])
unfolding parts
parts_whole commas text e = ap (filter has_bytes) (cut_none (is_separator commas) text e)

pub parts_none : (commas : Bool) (text : List ℕ) → length text ≡ 0 → parts commas text ≡ []
parts_none commas [] e = parts-nil commas
parts_none commas (b ∷ bs) e = absurd (omega arith)
