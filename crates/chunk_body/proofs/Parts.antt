-- What stands behind one more byte of a line, of a chunk or of an end.
use Rattle.std.proofs.Common.{◌≡◌, ◌<◌, ◌+◌, ◌-◌, ◌*◌, ℕ, zero, suc, true, false, IsTrue, List, []}
use Rattle.std.proofs.Common.{◌∷◌, ◌++◌, length, refl, ap, sym, subst, ◌∙◌, arith, inl, inr}
use Rattle.std.proofs.Common.{append_assoc, length-append}
use Rattle.std.specs.Prelude.{if◌then◌else◌, nat_eq, nat_lt}
use Rattle.std.specs.List.{AllByRecursion}
use Rattle.std.proofs.lemmas.Grind.{common_steps}
use Rattle.std.proofs.lemmas.List.{append-nil}
use Rattle.byte_tables.specs.Classes.{is_hex, is_field}
use Rattle.chunk_body.specs.Coded.{hex_of, hex_from, is_blank, AreDigits, IsLine}
use Rattle.chunk_body.specs.Verdicts.{InBlanks, InExtension, InLineEnd, InData, BehindLast}
use Rattle.chunk_body.specs.Verdicts.{IsOpenTrailer}
use Rattle.chunk_body.specs.Reading.{mark_step, behind_line, data_left, behind_digits, trailer_at}
use Rattle.chunk_body.specs.Reading.{step, given, is_refused}
use Rattle.chunk_body.proofs.Places.{mark_from, IsPartAt}
use Rattle.chunk_body.proofs.Trailers.{mark-append, still_open, whole_at, nothing_open}
use Rattle.byte_tables.specs.declared.refusal.Refusal.TheVariants.{ChunkSize, ChunkExtension}
use Rattle.byte_tables.specs.declared.refusal.Refusal.TheVariants.{ChunkLineEnd, ChunkEnd}
use Rattle.chunk_body.specs.declared.place.Place.{Place}
use Rattle.chunk_body.specs.declared.place.Place.TheVariants.{LineStart, Digits, Blanks, Extension}
use Rattle.chunk_body.specs.declared.place.Place.TheVariants.{LineCr, Data, DataEnd, DataCr}
use Rattle.chunk_body.specs.declared.place.Place.TheVariants.{Trailer, Over, Refused}
use Rattle.chunk_body.proofs.Choices.{by_cond, eq_of}

pub each_append : {X : Type 0} (P : X → Type 0) (xs ys : List X) → AllByRecursion P xs →
    AllByRecursion P ys → AllByRecursion P (xs ++ ys)
each_append P [] ys a b = b
each_append P (x ∷ xs) ys a b = (a.0, each_append P xs ys a.1 b)

hex_more : (n : ℕ) (ds : List ℕ) (c : ℕ) → hex_from n (ds ++ c ∷ []) ≡ 16 * hex_from n ds + hex_of c
hex_more n [] c = refl
hex_more n (d ∷ ds) c = hex_more (16 * n + hex_of d) ds c

lt_of : (m n : ℕ) → nat_lt m n ≡ true → m < n
lt_of m n h = grind (arith, common_steps)

one_more : (n : ℕ) (part : List ℕ) (c : ℕ) → n ≡ length part → n + 1 ≡ length (part ++ c ∷ [])
one_more n part c e = omega (arith, length-append part (c ∷ []))

none_more : (got : List ℕ) → got ≡ [] → got ++ [] ≡ []
none_more got e = append-nil got ∙ e

-- what stands behind one more byte, where it is not refused
abbrev pub Next : Place → List ℕ → List ℕ → Type 0
Next LineStart part got = IsPartAt LineStart part got
Next (Digits n k) part got = IsPartAt (Digits n k) part got
Next (Blanks n k) part got = IsPartAt (Blanks n k) part got
Next (Extension n k) part got = IsPartAt (Extension n k) part got
Next (LineCr n k) part got = IsPartAt (LineCr n k) part got
Next (Data left) part got = IsPartAt (Data left) part got
Next DataEnd part got = IsPartAt DataEnd part got
Next DataCr part got = IsPartAt DataCr part got
Next (Trailer n m) part got = IsPartAt (Trailer n m) part got
Next Over part got = IsPartAt Over part got
Next (Refused r) part got = Unit {0}

first_digit : (c : ℕ) (part : List ℕ) → part ≡ [] → is_hex c ≡ true →
    AreDigits (part ++ c ∷ []) (hex_of c)
first_digit c part e h = subst (λ p. AreDigits (p ++ c ∷ []) (hex_of c)) (sym e)
    (record {
      hex = (h, tt);
      some = omega arith;
      few = omega arith;
      spelled =
          (let z : 16 * 0 + hex_of c ≡ hex_of c = omega arith in z);
    })

next_digit : (n k c : ℕ) (part : List ℕ) → AreDigits part k → n ≡ length part → is_hex c ≡ true →
    nat_lt n 16 ≡ true → AreDigits (part ++ c ∷ []) (16 * k + hex_of c)
next_digit n k c part d e h l =
    let w : n < 16 = lt_of n 16 l in
    record {
      hex = each_append (λ d. IsTrue (is_hex d)) part (c ∷ []) d.hex (h, tt);
      some = omega (arith, length-append part (c ∷ []));
      few = omega (arith, length-append part (c ∷ []));
      spelled = hex_more 0 part c ∙ ap (λ j. 16 * j + hex_of c) d.spelled;
    }

behind_number : (n k c : ℕ) (part got : List ℕ) → AreDigits part k → n ≡ length part → got ≡ [] →
    Next (behind_digits (n + 1) k c) (part ++ c ∷ []) (got ++ [])
unfolding behind_digits
behind_number n k c part got d e g =
    let P : Place → Type 0 = λ p. Next p (part ++ c ∷ []) (got ++ []) in
    let s : n + 1 ≡ length (part ++ c ∷ []) = one_more n part c e in
    let z : got ++ [] ≡ [] = none_more got g in
    by_cond P (is_blank c) (Blanks (n + 1) k) (if nat_eq c 59 then Extension (n + 1) k
    else (if nat_eq c 13 then LineCr (n + 1) k else Refused ChunkSize))
    (λ h. (
      record {
        digits = part;
        blanks = c ∷ [];
        sized = d;
        blank = (h, tt);
        some = omega arith;
        whole = refl;
      },
      s,
      z,
    ))
    (λ _. by_cond P (nat_eq c 59) (Extension (n + 1) k) (if nat_eq c 13 then LineCr (n + 1) k
    else Refused ChunkSize)
    (λ h. (
      record {
        digits = part;
        extension = c ∷ [];
        sized = d;
        extended =
            record {
              blanks = [];
              fields = [];
              blank = tt;
              field = tt;
              whole =
                  ap (λ x. x ∷ []) (eq_of c 59 h);
            };
        whole = refl;
      },
      s,
      z,
    ))
    (λ _. by_cond P (nat_eq c 13) (LineCr (n + 1) k) (Refused ChunkSize)
    (λ h. (
      record {
        digits = part;
        extension = [];
        sized = d;
        extended = inl refl;
        whole =
            ap (λ x. part ++ x ∷ []) (eq_of c 13 h);
      },
      s,
      z,
    ))
    (λ _. tt)))

pub longer : (part a b : List ℕ) (c : ℕ) → part ≡ a ++ b → part ++ c ∷ [] ≡ a ++ (b ++ c ∷ [])
longer part a b c e = ap (λ p. p ++ c ∷ []) e ∙ append_assoc a b (c ∷ [])

more_blank : (k c : ℕ) (part : List ℕ) → InBlanks part k → is_blank c ≡ true →
    InBlanks (part ++ c ∷ []) k
more_blank k c part b h = record {
  digits = b.digits;
  blanks = b.blanks ++ c ∷ [];
  sized = b.sized;
  blank = each_append (λ d. IsTrue (is_blank d)) b.blanks (c ∷ []) b.blank (h, tt);
  some = omega (arith, length-append b.blanks (c ∷ []));
  whole = longer part b.digits b.blanks c b.whole;
}

blank_semicolon : (k c : ℕ) (part : List ℕ) → InBlanks part k → nat_eq c 59 ≡ true →
    InExtension (part ++ c ∷ []) k
blank_semicolon k c part b h = record {
  digits = b.digits;
  extension = b.blanks ++ c ∷ [];
  sized = b.sized;
  extended = record {
    blanks = b.blanks;
    fields = [];
    blank = b.blank;
    field = tt;
    whole =
        ap (λ x. b.blanks ++ x ∷ []) (eq_of c 59 h);
  };
  whole = longer part b.digits b.blanks c b.whole;
}

more_field : (k c : ℕ) (part : List ℕ) → InExtension part k → is_field c ≡ true →
    InExtension (part ++ c ∷ []) k
more_field k c part b h = record {
  digits = b.digits;
  extension = b.extension ++ c ∷ [];
  sized = b.sized;
  extended = record {
    blanks = b.extended.blanks;
    fields = b.extended.fields ++ c ∷ [];
    blank = b.extended.blank;
    field = each_append (λ d. IsTrue (is_field d)) b.extended.fields (c ∷ []) b.extended.field (
      h,
      tt,
    );
    whole = longer b.extension b.extended.blanks (59 ∷ b.extended.fields) c b.extended.whole;
  };
  whole = longer part b.digits b.extension c b.whole;
}

field_cr : (k c : ℕ) (part : List ℕ) → InExtension part k → nat_eq c 13 ≡ true →
    InLineEnd (part ++ c ∷ []) k
field_cr k c part b h = record {
  digits = b.digits;
  extension = b.extension;
  sized = b.sized;
  extended = inr b.extended;
  whole = longer part b.digits b.extension c b.whole
      ∙ ap (λ x. b.digits ++ (b.extension ++ x ∷ [])) (eq_of c 13 h);
}

ends_line : (k c : ℕ) (part : List ℕ) → InLineEnd part k → nat_eq c 10 ≡ true →
    IsLine (part ++ c ∷ []) k
ends_line k c part b h = record {
  digits = b.digits;
  extension = b.extension;
  sized = b.sized;
  extended = b.extended;
  whole = longer part b.digits (b.extension ++ 13 ∷ []) c b.whole
      ∙ ap (λ x. b.digits ++ x) (append_assoc b.extension (13 ∷ []) (c ∷ []))
      ∙ ap (λ x. b.digits ++ (b.extension ++ (13 ∷ x ∷ []))) (eq_of c 10 h);
}

behind_lines : (k : ℕ) (line got : List ℕ) → IsLine line k → got ≡ [] →
    Next (behind_line k) line (got ++ [])
behind_lines zero line got l g = (
  [],
  record { last = line; ends = l; whole = sym (append-nil line) },
  nothing_open,
  refl,
  refl,
  none_more got g,
)
behind_lines (suc k) line got l g =
    let z : got ++ [] ≡ [] = none_more got g in
    let n : suc k ≡ length (got ++ []) + suc k = (let e = ap length z in omega arith) in (
      record {
        line = line;
        sized = subst (λ j. IsLine line j) n l;
        some = omega arith;
        whole =
            sym (ap (λ x. line ++ (x ++ [])) z ∙ append-nil line);
      },
      omega arith,
    )

data_whole : (left c : ℕ) (part got : List ℕ) → InData part got [] (suc left) →
    InData (part ++ c ∷ []) (got ++ c ∷ []) [] left
data_whole left c part got d =
    let n : length got + suc left ≡ length (got ++ c ∷ []) + left =
    omega (arith, length-append got (c ∷ [])) in
    record {
      line = d.line;
      sized = subst (λ j. IsLine d.line j) n d.sized;
      some = omega (arith, length-append got (c ∷ []));
      whole = longer part d.line got c (d.whole ∙ ap (λ x. d.line ++ x) (append-nil got))
          ∙ ap (λ x. d.line ++ x) (sym (append-nil (got ++ c ∷ [])));
    }

data_at : (left c : ℕ) (part got : List ℕ) → InData part got [] (suc left) →
    Next (data_left left) (part ++ c ∷ []) (got ++ c ∷ [])
data_at zero c part got d = data_whole 0 c part got d
data_at (suc left) c part got d = (data_whole (suc left) c part got d, omega arith)

more_data : (left c : ℕ) (part got : List ℕ) → InData part got [] left → 0 < left →
    Next (data_left (left - 1)) (part ++ c ∷ []) (got ++ c ∷ [])
more_data zero c part got d l = absurd (omega arith)
more_data (suc left) c part got d l =
    let m : suc left - 1 ≡ left = omega arith in
    subst (λ j. Next (data_left j) (part ++ c ∷ []) (got ++ c ∷ [])) (sym m)
    (data_at left c part got d)

not_four : (m : ℕ) → nat_eq m 4 ≡ false → m ≡ 4 → ⊥
not_four m h e = grind (arith, common_steps)

more_trailer : (n m c : ℕ) (part t got : List ℕ) → BehindLast part t → IsOpenTrailer t →
    n ≡ length t → m ≡ mark_from 2 t → got ≡ [] → Next (trailer_at (n + 1) (mark_step m c))
    (part ++ c ∷ []) (got ++ [])
more_trailer n m c part t got b o e f g =
    let P : Place → Type 0 = λ p. Next p (part ++ c ∷ []) (got ++ []) in
    let l : BehindLast (part ++ c ∷ []) (t ++ c ∷ []) =
    record { last = b.last; ends = b.ends; whole = longer part b.last t c b.whole } in
    by_cond P (nat_eq (mark_step m c) 4) Over (Trailer (n + 1) (mark_step m c))
    (λ h. (
      t ++ c ∷ [],
      l,
      whole_at t c o (ap (λ j. mark_step j c) (sym f)
          ∙ eq_of (mark_step m c) 4 h),
      none_more got g,
    ))
    (λ h. (
      t ++ c ∷ [],
      l,
      still_open t c o (λ four. not_four (mark_step m c) h (ap (λ j. mark_step j c) f ∙ four)),
      one_more n t c e,
      ap (λ j. mark_step j c) f ∙ sym (mark-append 2 t (c ∷ [])),
      none_more got g,
    ))

data_cr : (c : ℕ) (part got : List ℕ) → InData part got [] 0 → nat_eq c 13 ≡ true →
    InData (part ++ c ∷ []) (got ++ []) (13 ∷ []) 0
data_cr c part got d h = subst (λ g. InData (part ++ c ∷ []) g (13 ∷ []) 0) (sym (append-nil got))
    (record {
      line = d.line;
      sized = d.sized;
      some = d.some;
      whole = longer part d.line got c (d.whole ∙ ap (λ x. d.line ++ x) (append-nil got))
          ∙ ap (λ x. d.line ++ (got ++ x ∷ [])) (eq_of c 13 h);
    })

pub part_next : (p : Place) (c : ℕ) (part got : List ℕ) → IsPartAt p part got → (p ≡ DataCr → ⊥) →
    Next (step p c) (part ++ c ∷ []) (got ++ given p c)
unfolding step
part_next LineStart c part got h n =
    by_cond (λ p. Next p (part ++ c ∷ []) (got ++ [])) (is_hex c) (Digits 1 (hex_of c))
    (Refused ChunkSize)
    (λ x. (first_digit c part h.0 x, one_more 0 part c (sym (ap length h.0)), none_more got h.1))
    (λ _. tt)
part_next (Digits n k) c part got h f =
    let P : Place → Type 0 = λ p. Next p (part ++ c ∷ []) (got ++ []) in
    by_cond P (is_hex c) (if nat_lt n 16 then Digits (n + 1) (16 * k + hex_of c)
    else Refused ChunkSize) (behind_digits (n + 1) k c)
    (λ x. by_cond P (nat_lt n 16) (Digits (n + 1) (16 * k + hex_of c)) (Refused ChunkSize)
    (λ l. (next_digit n k c part h.0 h.1 x l, one_more n part c h.1, none_more got h.2))
    (λ _. tt))
    (λ _. behind_number n k c part got h.0 h.1 h.2)
part_next (Blanks n k) c part got h f =
    let P : Place → Type 0 = λ p. Next p (part ++ c ∷ []) (got ++ []) in
    by_cond P (is_blank c) (Blanks (n + 1) k) (if nat_eq c 59 then Extension (n + 1) k
    else Refused ChunkSize)
    (λ x. (more_blank k c part h.0 x, one_more n part c h.1, none_more got h.2))
    (λ _. by_cond P (nat_eq c 59) (Extension (n + 1) k) (Refused ChunkSize)
    (λ x. (blank_semicolon k c part h.0 x, one_more n part c h.1, none_more got h.2)) (λ _. tt))
part_next (Extension n k) c part got h f =
    let P : Place → Type 0 = λ p. Next p (part ++ c ∷ []) (got ++ []) in
    by_cond P (is_field c) (Extension (n + 1) k) (if nat_eq c 13 then LineCr (n + 1) k
    else Refused ChunkExtension)
    (λ x. (more_field k c part h.0 x, one_more n part c h.1, none_more got h.2))
    (λ _. by_cond P (nat_eq c 13) (LineCr (n + 1) k) (Refused ChunkExtension)
    (λ x. (field_cr k c part h.0 x, one_more n part c h.1, none_more got h.2)) (λ _. tt))
part_next (LineCr n k) c part got h f =
    by_cond (λ p. Next p (part ++ c ∷ []) (got ++ [])) (nat_eq c 10) (behind_line k)
    (Refused ChunkLineEnd)
    (λ x. behind_lines k (part ++ c ∷ []) got (ends_line k c part h.0 x) h.2) (λ _. tt)
part_next (Data left) c part got h f = more_data left c part got h.0 h.1
part_next DataEnd c part got h f =
    by_cond (λ p. Next p (part ++ c ∷ []) (got ++ [])) (nat_eq c 13) DataCr (Refused ChunkEnd)
    (λ x. data_cr c part got h x) (λ _. tt)
part_next DataCr c part got h f = absurd (f refl)
part_next (Trailer n m) c part got h f = more_trailer n m c part h.0 got h.1 h.2 h.3 h.4 h.5
part_next Over c part got h f = tt
part_next (Refused r) c part got h f = tt

pub of_next : (p : Place) (part got : List ℕ) → is_refused p ≡ false → Next p part got →
    IsPartAt p part got
of_next LineStart part got e h = h
of_next (Digits n k) part got e h = h
of_next (Blanks n k) part got e h = h
of_next (Extension n k) part got e h = h
of_next (LineCr n k) part got e h = h
of_next (Data left) part got e h = h
of_next DataEnd part got e h = h
of_next DataCr part got e h = h
of_next (Trailer n m) part got e h = h
of_next Over part got e h = h
of_next (Refused r) part got e h = let no : true ≡ false = e in cc
