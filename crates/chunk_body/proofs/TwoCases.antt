-- A coded body is one without chunks, or a chunk and a coded body.
use Rattle.std.proofs.Common.{◌≡◌, ℕ, List, [], ◌∷◌, ◌++◌, refl, ap, sym, ◌∙◌, append_assoc, inl}
use Rattle.std.proofs.Common.{inr, ◌⊎◌}
use Rattle.std.specs.List.{AllByRecursion}
use Rattle.chunk_body.specs.Coded.{Chunk, chunk_text, text, joined, IsChunk, IsLine, IsTrailer}
use Rattle.chunk_body.specs.Coded.{IsCoded, IsLast, BeginsWithChunk}

pub last_coded : (wire body : List ℕ) → IsLast wire body → IsCoded wire body
last_coded wire body h = record {
  chunks = [];
  last = h.last;
  trailer = h.trailer;
  each = tt;
  ends =
      h.ends;
  dropped = h.dropped;
  whole = h.whole;
  decoded = h.none;
}

pub chunk_coded : (wire body : List ℕ) → BeginsWithChunk wire body → IsCoded wire body
chunk_coded wire body h =
    let c : IsCoded h.rest h.content = h.coded in
    record {
      chunks = h.chunk ∷ c.chunks;
      last = c.last;
      trailer = c.trailer;
      each = (h.is, c.each);
      ends = c.ends;
      dropped = c.dropped;
      whole = h.whole ∙ ap (λ l. chunk_text h.chunk ++ l) c.whole
          ∙ sym (append_assoc (chunk_text h.chunk) (text c.chunks) (c.last ++ c.trailer));
      decoded = h.decoded ∙ ap (λ l. h.chunk.bytes ++ l) c.decoded;
    }

cases_of : (wire body : List ℕ) (chunks : List Chunk) (last trailer : List ℕ) →
    AllByRecursion IsChunk chunks → IsLine last 0 → IsTrailer trailer →
    wire ≡ text chunks ++ (last ++ trailer) → body ≡ joined chunks → IsLast wire body
    ⊎ BeginsWithChunk wire body
cases_of wire body [] last trailer each ends dropped w d =
    inl (record {
      last = last;
      trailer = trailer;
      ends = ends;
      dropped = dropped;
      whole = w;
      none =
          d;
    })
cases_of wire body (c ∷ cs) last trailer each ends dropped w d = inr (record {
  chunk = c;
  rest = text cs ++ (last ++ trailer);
  content = joined cs;
  is = each.0;
  coded = record {
    chunks = cs;
    last = last;
    trailer = trailer;
    each = each.1;
    ends = ends;
    dropped = dropped;
    whole = refl;
    decoded = refl;
  };
  whole = w ∙ append_assoc (chunk_text c) (text cs) (last ++ trailer);
  decoded = d;
})

pub last_or_chunk : (wire body : List ℕ) → IsCoded wire body → IsLast wire body
    ⊎ BeginsWithChunk wire body
last_or_chunk wire body h = cases_of wire body h.chunks h.last h.trailer h.each h.ends h.dropped
    h.whole h.decoded
