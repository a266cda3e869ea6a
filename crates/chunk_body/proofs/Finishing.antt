-- More bytes make a whole body of each front, and none of what is refused.
use Rattle.std.proofs.Common.{◌≡◌, ◌<◌, ◌+◌, ℕ, zero, suc, true, false, List, [], ◌∷◌, ◌++◌, length}
use Rattle.std.proofs.Common.{refl, ap, sym, subst, ◌∙◌, arith, length-append}
use Rattle.std.specs.Prelude.{replicate, if◌then◌else◌, nat_eq}
use Rattle.std.proofs.lemmas.List.{length-replicate}
use Rattle.chunk_body.specs.Coded.{hex_of, is_blank}
use Rattle.chunk_body.specs.Verdicts.{IsProperFront, IsWrong}
use Rattle.chunk_body.specs.Reading.{mark_step, behind_line, data_left, behind_digits, trailer_at}
use Rattle.chunk_body.specs.Reading.{step, is_refused, has_ended}
use Rattle.chunk_body.proofs.Places.{Front}
use Rattle.chunk_body.proofs.Complete.{run, out, run-append, data_goes}
use Rattle.byte_tables.specs.declared.refusal.Refusal.{Refusal}
use Rattle.chunk_body.specs.declared.place.Place.{Place}
use Rattle.chunk_body.specs.declared.place.Place.TheVariants.{LineStart, Digits, Blanks, Extension}
use Rattle.chunk_body.specs.declared.place.Place.TheVariants.{LineCr, Data, DataEnd, DataCr}
use Rattle.chunk_body.specs.declared.place.Place.TheVariants.{Trailer, Over, Refused}
use Rattle.chunk_body.proofs.Choices.{either}
use Rattle.chunk_body.proofs.Arriving.{coded_goes}
use Rattle.chunk_body.proofs.Forward.{front_runs, coded_read, refused_stays}

pub record Finish (p : Place) : Type 0 where
  pub more : List ℕ
  pub some : 0 < length more
  pub ends : run p more ≡ Over

last_line : run LineStart (48 ∷ 13 ∷ 10 ∷ 13 ∷ 10 ∷ []) ≡ Over
unfolding step behind_digits hex_of is_blank mark_step
last_line = refl

chunk_end : run DataEnd (13 ∷ 10 ∷ 48 ∷ 13 ∷ 10 ∷ 13 ∷ 10 ∷ []) ≡ Over
unfolding step behind_digits hex_of is_blank mark_step
chunk_end = refl

chunk_lf : run DataCr (10 ∷ 48 ∷ 13 ∷ 10 ∷ 13 ∷ 10 ∷ []) ≡ Over
unfolding step behind_digits hex_of is_blank mark_step
chunk_lf = refl

data_end : (left : ℕ) → Finish (data_left left)
data_end left =
    let d : List ℕ = replicate left 0 in
    let e : List ℕ = 13 ∷ 10 ∷ 48 ∷ 13 ∷ 10 ∷ 13 ∷ 10 ∷ [] in
    let n : length d + 0 ≡ left = omega (arith, length-replicate {A = ℕ} left 0) in
    record {
      more = d ++ e;
      some = omega (arith, length-append d e);
      ends = run-append (data_left left) d e ∙ ap (λ p. run p e)
          (ap (λ k. run (data_left k) d) (sym n) ∙ (data_goes d 0).place) ∙ chunk_end;
    }

line_end : (k : ℕ) → Finish (behind_line k)
unfolding step mark_step
line_end zero = record { more = 13 ∷ 10 ∷ []; some = omega arith; ends = refl }
line_end (suc k) = data_end (suc k)

lf_end : (n k : ℕ) → Finish (LineCr n k)
unfolding step
lf_end n k = let f = line_end k in record { more = 10 ∷ f.more; some = omega arith; ends = f.ends }

mark_end : (n m : ℕ) → Finish (Trailer n m)
unfolding step mark_step
mark_end n m = either (nat_eq m 2)
    (λ e. record {
      more = 13 ∷ 10 ∷ [];
      some = omega arith;
      ends =
          ap (λ b. run (trailer_at (n + 1) (if b then 3 else 1)) (10 ∷ [])) e;
    })
    (λ e. record {
      more = 13 ∷ 10 ∷ 13 ∷ 10 ∷ [];
      some = omega arith;
      ends =
          ap (λ b. run (trailer_at (n + 1) (if b then 3 else 1)) (10 ∷ 13 ∷ 10 ∷ [])) e;
    })

pub finish : (p : Place) → has_ended p ≡ false → Finish p
unfolding step behind_digits hex_of is_blank
finish LineStart e = record {
  more = 48 ∷ 13 ∷ 10 ∷ 13 ∷ 10 ∷ [];
  some = omega arith;
  ends =
      last_line;
}
finish (Digits n k) e = let f = lf_end (n + 1) k in
    record { more = 13 ∷ f.more; some = omega arith; ends = f.ends }
finish (Blanks n k) e = let f = lf_end (n + 1 + 1) k in
    record { more = 59 ∷ 13 ∷ f.more; some = omega arith; ends = f.ends }
finish (Extension n k) e = let f = lf_end (n + 1) k in
    record { more = 13 ∷ f.more; some = omega arith; ends = f.ends }
finish (LineCr n k) e = lf_end n k
finish (Data zero) e = record {
  more = 0 ∷ 13 ∷ 10 ∷ 48 ∷ 13 ∷ 10 ∷ 13 ∷ 10 ∷ [];
  some =
      omega arith;
  ends = chunk_end;
}
finish (Data (suc left)) e = data_end (suc left)
finish DataEnd e = record {
  more = 13 ∷ 10 ∷ 48 ∷ 13 ∷ 10 ∷ 13 ∷ 10 ∷ [];
  some = omega arith;
  ends =
      chunk_end;
}
finish DataCr e = record {
  more = 10 ∷ 48 ∷ 13 ∷ 10 ∷ 13 ∷ 10 ∷ [];
  some = omega arith;
  ends =
      chunk_lf;
}
finish (Trailer n m) e = mark_end n m
finish Over e = absurd (let no : true ≡ false = e in cc)
finish (Refused r) e = absurd (let no : true ≡ false = e in cc)

-- a front that is read to a place where more may come is a proper one
pub proper : (p : Place) (wire body : List ℕ) → Front p wire body → has_ended p ≡ false →
    IsProperFront wire
proper p wire body f e =
    let end : Finish p = finish p e in
    let o : Front (run p end.more) (wire ++ end.more) (body ++ out p end.more) =
    front_runs p wire body end.more f (ap is_refused end.ends) in
    record {
      more = end.more;
      decoded = body ++ out p end.more;
      some = end.some;
      coded =
          coded_read (wire ++ end.more) (body ++ out p end.more)
          (subst (λ q. Front q (wire ++ end.more) (body ++ out p end.more)) end.ends o);
    }

-- what is read to a refusal is no front
pub wrong : (wire : List ℕ) (r : Refusal) → run LineStart wire ≡ Refused r → IsWrong wire
wrong wire r e = record {
  none = λ more body h.
      let over : run LineStart (wire ++ more) ≡ Over = (coded_goes (wire ++ more) body h).place in
      let no : Refused r ≡ Over = sym (run-append LineStart wire more ∙ ap (λ p. run p more) e
      ∙ refused_stays r more) ∙ over in cc;
}
