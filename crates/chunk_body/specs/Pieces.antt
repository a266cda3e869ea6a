-- Internal: what a reader does with a piece, from one reading to the next.
use Rattle.std.specs.Prelude.{◌≡◌, ◌≤◌, ◌+◌, ℕ, false, List, [], length, take}
use Rattle.chunk_body.specs.Reading.{Reading, reads, decodes, has_ended}
use Rattle.chunk_body.specs.declared.place.Place.{Place}
use Rattle.chunk_body.specs.declared.place.Place.TheVariants.{Over, Refused}
use Rattle.chunk_body.specs.declared.chunks.Fed.{Fed}
use Rattle.chunk_body.specs.declared.chunks.Fed.TheVariants as fed
use Rattle.chunk_body.specs.declared.chunks.End.{End}
use Rattle.chunk_body.specs.declared.chunks.End.TheVariants as end

abbrev pub IsEnd : End → Place → Type 0
IsEnd end.Open place = has_ended place ≡ false
IsEnd end.Whole place = place ≡ Over
IsEnd (end.Refused refusal) place = place ≡ Refused refusal

abbrev pub ReadsPiece : Fed → List ℕ → Reading → Reading → List ℕ → Type 0
ReadsPiece fed.More piece old new got =
    (has_ended new.place ≡ false) × (new ≡ reads old piece) × (got ≡ decodes old piece)
    × (new.taken ≡ old.taken + length piece)
ReadsPiece (fed.Done n) piece old new got =
    (n ≤ length piece) × (new ≡ reads old (take n piece)) × (got ≡ decodes old (take n piece))
    × (new.place ≡ Over) × (new.taken ≡ old.taken + n)
ReadsPiece (fed.Bad refusal) piece old new got =
    (new ≡ reads old piece) × (got ≡ decodes old piece) × (new.place ≡ Refused refusal)
ReadsPiece fed.NoMemory piece old new got = (new ≡ old) × (got ≡ [])
