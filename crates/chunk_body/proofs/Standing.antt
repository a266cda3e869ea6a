-- The places of the code, with their numbers, and where a byte stands.
use Rattle.std.proofs.Common.{◌≡◌, ◌+◌, ℕ, true, false, List, length, refl, ap, sym, subst, ◌∙◌}
use Rattle.std.proofs.Common.{arith, inl, inr}
use Rattle.chunk_body.specs.Verdicts.{Where, line_start, in_digits, in_blanks, in_extension}
use Rattle.chunk_body.specs.Verdicts.{line_end, in_bytes, bytes_end, bytes_cr, in_trailer, IsPart}
use Rattle.chunk_body.specs.Verdicts.{Stands, refusal_of, IsInLine, IsLineLimit, IsTrailerLimit}
use Rattle.chunk_body.specs.Verdicts.{IsLimit, IsWithin, IsOpen, IsWhole, IsRefused, Because, large}
use Rattle.chunk_body.specs.Verdicts.{wrong, long, late}
use Rattle.chunk_body.proofs.Places as num
use Rattle.chunk_body.specs.Reading.{has_ended, line_bytes}
use Rattle.chunk_body.proofs.Places.{Front, mark_from, refusal_at}
use Rattle.byte_tables.specs.declared.refusal.Refusal.{Refusal}
use Rattle.chunk_body.specs.declared.place.Place.{Place}
use Rattle.chunk_body.specs.declared.place.Place.TheVariants.{LineStart, Digits, Blanks, Extension}
use Rattle.chunk_body.specs.declared.place.Place.TheVariants.{LineCr, Data, DataEnd, DataCr}
use Rattle.chunk_body.specs.declared.place.Place.TheVariants.{Trailer, Over, Refused}

abbrev pub where_of : Place → Where
where_of LineStart = line_start
where_of (Digits n k) = in_digits
where_of (Blanks n k) = in_blanks
where_of (Extension n k) = in_extension
where_of (LineCr n k) = line_end
where_of (Data left) = in_bytes
where_of DataEnd = bytes_end
where_of DataCr = bytes_cr
where_of (Trailer n m) = in_trailer
where_of Over = line_start
where_of (Refused r) = line_start

part_of : (p : Place) (part got : List ℕ) → has_ended p ≡ false → num.IsPartAt p part got →
    IsPart (where_of p) part got
part_of LineStart part got e h = h
part_of (Digits n k) part got e h = (k, h.0, h.2)
part_of (Blanks n k) part got e h = (k, h.0, h.2)
part_of (Extension n k) part got e h = (k, h.0, h.2)
part_of (LineCr n k) part got e h = (k, h.0, h.2)
part_of (Data left) part got e h = (left, h.0, h.1)
part_of DataEnd part got e h = h
part_of DataCr part got e h = h
part_of (Trailer n m) part got e h = (h.0, h.1, h.2, h.5)
part_of Over part got e h = absurd (let no : true ≡ false = e in cc)
part_of (Refused r) part got e h = absurd h

pub stands_of : (p : Place) (wire body : List ℕ) → has_ended p ≡ false → Front p wire body →
    Stands (where_of p) wire body
stands_of p wire body e f = record {
  chunks = f.chunks;
  part = f.part;
  got = f.got;
  each = f.each;
  is = part_of p f.part f.got e f.stands;
  whole = f.whole;
  decoded = f.decoded;
}

-- the numbered place of what stands somewhere
abbrev place_at : (w : Where) (part got : List ℕ) → IsPart w part got → Place
place_at line_start part got h = LineStart
place_at in_digits part got h = Digits (length part) h.0
place_at in_blanks part got h = Blanks (length part) h.0
place_at in_extension part got h = Extension (length part) h.0
place_at line_end part got h = LineCr (length part) h.0
place_at in_bytes part got h = Data h.0
place_at bytes_end part got h = DataEnd
place_at bytes_cr part got h = DataCr
place_at in_trailer part got h = Trailer (length h.0) (mark_from 2 h.0)

part_at : (w : Where) (part got : List ℕ) (h : IsPart w part got) →
    num.IsPartAt (place_at w part got h) part got
part_at line_start part got h = h
part_at in_digits part got h = (h.1, refl, h.2)
part_at in_blanks part got h = (h.1, refl, h.2)
part_at in_extension part got h = (h.1, refl, h.2)
part_at line_end part got h = (h.1, refl, h.2)
part_at in_bytes part got h = (h.1, h.2)
part_at bytes_end part got h = h
part_at bytes_cr part got h = h
part_at in_trailer part got h = (h.0, h.1, h.2, refl, refl, h.3)

abbrev pub place_of : (w : Where) (wire body : List ℕ) → Stands w wire body → Place
place_of w wire body s = place_at w s.part s.got s.is

pub front_at : (w : Where) (wire body : List ℕ) (s : Stands w wire body) →
    Front (place_of w wire body s) wire body
front_at w wire body s = record {
  chunks = s.chunks;
  part = s.part;
  got = s.got;
  each = s.each;
  stands = part_at w s.part s.got s.is;
  whole = s.whole;
  decoded = s.decoded;
}

going_at : (w : Where) (part got : List ℕ) (h : IsPart w part got) →
    has_ended (place_at w part got h) ≡ false
going_at line_start part got h = refl
going_at in_digits part got h = refl
going_at in_blanks part got h = refl
going_at in_extension part got h = refl
going_at line_end part got h = refl
going_at in_bytes part got h = refl
going_at bytes_end part got h = refl
going_at bytes_cr part got h = refl
going_at in_trailer part got h = refl

same_where : (w : Where) (part got : List ℕ) (h : IsPart w part got) →
    where_of (place_at w part got h) ≡ w
same_where line_start part got h = refl
same_where in_digits part got h = refl
same_where in_blanks part got h = refl
same_where in_extension part got h = refl
same_where line_end part got h = refl
same_where in_bytes part got h = refl
same_where bytes_end part got h = refl
same_where bytes_cr part got h = refl
same_where in_trailer part got h = refl

line_at : (w : Where) (part got : List ℕ) (h : IsPart w part got) → IsInLine w →
    line_bytes (place_at w part got h) ≡ length part
line_at line_start part got h l = absurd l
line_at in_digits part got h l = refl
line_at in_blanks part got h l = refl
line_at in_extension part got h l = refl
line_at line_end part got h l = refl
line_at in_bytes part got h l = absurd l
line_at bytes_end part got h l = absurd l
line_at bytes_cr part got h l = absurd l
line_at in_trailer part got h l = absurd l

in_line : (p : Place) → line_bytes p ≡ 1023 → IsInLine (where_of p)
in_line LineStart e = absurd (omega arith)
in_line (Digits n k) e = tt
in_line (Blanks n k) e = tt
in_line (Extension n k) e = tt
in_line (LineCr n k) e = tt
in_line (Data left) e = absurd (omega arith)
in_line DataEnd e = absurd (omega arith)
in_line DataCr e = absurd (omega arith)
in_line (Trailer n m) e = absurd (omega arith)
in_line Over e = absurd (omega arith)
in_line (Refused r) e = absurd (omega arith)

going_line : (p : Place) → line_bytes p ≡ 1023 → has_ended p ≡ false
going_line LineStart e = refl
going_line (Digits n k) e = refl
going_line (Blanks n k) e = refl
going_line (Extension n k) e = refl
going_line (LineCr n k) e = refl
going_line (Data left) e = refl
going_line DataEnd e = refl
going_line DataCr e = refl
going_line (Trailer n m) e = refl
going_line Over e = absurd (omega arith)
going_line (Refused r) e = absurd (omega arith)

full_part : (p : Place) (part got : List ℕ) → num.IsPartAt p part got → line_bytes p ≡ 1023 →
    length part ≡ 1023
full_part LineStart part got h e = absurd (omega arith)
full_part (Digits n k) part got h e = sym h.1 ∙ e
full_part (Blanks n k) part got h e = sym h.1 ∙ e
full_part (Extension n k) part got h e = sym h.1 ∙ e
full_part (LineCr n k) part got h e = sym h.1 ∙ e
full_part (Data left) part got h e = absurd (omega arith)
full_part DataEnd part got h e = absurd (omega arith)
full_part DataCr part got h e = absurd (omega arith)
full_part (Trailer n m) part got h e = absurd (omega arith)
full_part Over part got h e = absurd (omega arith)
full_part (Refused r) part got h e = absurd h

cr_place : (p : Place) → line_bytes p ≡ 1023 → where_of p ≡ line_end → (k : ℕ) × (p ≡ LineCr 1023 k)
cr_place LineStart e w = absurd (omega arith)
cr_place (Digits n k) e w = absurd (let no : in_digits ≡ line_end = w in cc)
cr_place (Blanks n k) e w = absurd (let no : in_blanks ≡ line_end = w in cc)
cr_place (Extension n k) e w = absurd (let no : in_extension ≡ line_end = w in cc)
cr_place (LineCr n k) e w = (k, ap (λ j. LineCr j k) e)
cr_place (Data left) e w = absurd (omega arith)
cr_place DataEnd e w = absurd (omega arith)
cr_place DataCr e w = absurd (omega arith)
cr_place (Trailer n m) e w = absurd (omega arith)
cr_place Over e w = absurd (omega arith)
cr_place (Refused r) e w = absurd (omega arith)

-- limits
line_to : (before : List ℕ) (byte : ℕ) → num.IsLineLimit before byte → IsLineLimit before byte
unfolding stands_of
line_to before byte l = record {
  place = where_of l.place;
  body = l.body;
  stands = stands_of l.place before l.body (going_line l.place l.full) l.front;
  line = in_line l.place l.full;
  full = full_part l.place l.front.part l.front.got l.front.stands l.full;
  unended = λ w b. let c = cr_place l.place l.full w in l.unended c.0 c.1 b;
}

line_from : (before : List ℕ) (byte : ℕ) → IsLineLimit before byte → num.IsLineLimit before byte
line_from before byte l = record {
  place = place_of l.place before l.body l.stands;
  body = l.body;
  front = front_at l.place before l.body l.stands;
  full = line_at l.place l.stands.part l.stands.got l.stands.is l.line ∙ l.full;
  unended = λ k p b. l.unended (sym (same_where l.place l.stands.part l.stands.got l.stands.is)
      ∙ ap where_of p) b;
}

trailer_to : (max : ℕ) (before : List ℕ) → num.IsTrailerLimit max before → IsTrailerLimit max before
trailer_to max before l =
    let s : num.IsPartAt (Trailer l.count l.marked) l.front.part l.front.got = l.front.stands in
    record {
      body = l.body;
      stands = record {
        chunks = l.front.chunks;
        part = l.front.part;
        got = l.front.got;
        each =
            l.front.each;
        is = (s.0, s.1, s.2, s.5);
        whole = l.front.whole;
        decoded =
            l.front.decoded;
      };
      full = ap (λ n. n + 1) (sym s.3) ∙ l.full;
    }

trailer_from : (max : ℕ) (before : List ℕ) → IsTrailerLimit max before →
    num.IsTrailerLimit max before
trailer_from max before l = record {
  count = length l.stands.is.0;
  marked = mark_from 2 l.stands.is.0;
  body = l.body;
  front = front_at in_trailer before l.body l.stands;
  full = l.full;
}

limit_to : (mb mt : ℕ) (before : List ℕ) (byte : ℕ) → num.IsLimit mb mt before byte →
    IsLimit mb mt before byte
limit_to mb mt before byte l = elim l [
  | inl e ↦ inl e
  | inr r ↦ elim r [
    | inl x ↦ inr (inl (line_to before byte x))
    | inr x ↦ inr (inr (trailer_to mt before x))
  ]
]

limit_from : (mb mt : ℕ) (before : List ℕ) (byte : ℕ) → IsLimit mb mt before byte →
    num.IsLimit mb mt before byte
limit_from mb mt before byte l = elim l [
  | inl e ↦ inl e
  | inr r ↦ elim r [
    | inl x ↦ inr (inl (line_from before byte x))
    | inr x ↦ inr (inr (trailer_from mt before x))
  ]
]

within_to : (mb mt : ℕ) (wire : List ℕ) → num.IsWithin mb mt wire → IsWithin mb mt wire
within_to mb mt wire w = record {
  none = λ before after byte e l. w.none before after byte e
      (limit_from mb mt before byte l);
}

within_from : (mb mt : ℕ) (wire : List ℕ) → IsWithin mb mt wire → num.IsWithin mb mt wire
within_from mb mt wire w = record {
  none = λ before after byte e l. w.none before after byte e
      (limit_to mb mt before byte l);
}

-- verdicts
pub open_to : (mb mt : ℕ) (wire body : List ℕ) → num.IsOpen mb mt wire body → IsOpen mb mt wire body
open_to mb mt wire body o = record {
  place = where_of o.place;
  stands =
      stands_of o.place wire body o.going o.front;
  proper = o.proper;
  within =
      within_to mb mt wire o.within;
}

pub open_from : (mb mt : ℕ) (wire body : List ℕ) → IsOpen mb mt wire body →
    num.IsOpen mb mt wire body
open_from mb mt wire body o = record {
  place = place_of o.place wire body o.stands;
  going = going_at o.place o.stands.part o.stands.got o.stands.is;
  front = front_at o.place wire body o.stands;
  proper = o.proper;
  within = within_from mb mt wire o.within;
}

pub whole_to : (mb mt : ℕ) (wire body : List ℕ) → num.IsWhole mb mt wire body →
    IsWhole mb mt wire body
whole_to mb mt wire body w = record { coded = w.coded; within = within_to mb mt wire w.within }

pub whole_from : (mb mt : ℕ) (wire body : List ℕ) → IsWhole mb mt wire body →
    num.IsWhole mb mt wire body
whole_from mb mt wire body w = record { coded = w.coded; within = within_from mb mt wire w.within }

same_name : (p : Place) → has_ended p ≡ false → refusal_of (where_of p) ≡ refusal_at p
same_name LineStart e = refl
same_name (Digits n k) e = refl
same_name (Blanks n k) e = refl
same_name (Extension n k) e = refl
same_name (LineCr n k) e = refl
same_name (Data left) e = refl
same_name DataEnd e = refl
same_name DataCr e = refl
same_name (Trailer n m) e = refl
same_name Over e = absurd (let no : true ≡ false = e in cc)
same_name (Refused r) e = absurd (let no : true ≡ false = e in cc)

because_to : (mb mt : ℕ) (p : Place) (before : List ℕ) (byte : ℕ) (r : Refusal) →
    has_ended p ≡ false → num.Because mb mt p before byte r →
    Because mb mt (where_of p) before byte r
because_to mb mt p before byte r h (large e) = large e
because_to mb mt p before byte r h (wrong f t e) =
    subst (Because mb mt (where_of p) before byte) (same_name p h)
    (wrong f (λ l. t (trailer_from mt before l)) e)
because_to mb mt p before byte r h (long f g e) = long f g (line_to before byte e)
because_to mb mt p before byte r h (late f e) = late f (trailer_to mt before e)

because_from : (mb mt : ℕ) (w : Where) (p : Place) (before : List ℕ) (byte : ℕ) (r : Refusal) →
    has_ended p ≡ false → where_of p ≡ w → Because mb mt w before byte r →
    num.Because mb mt p before byte r
because_from mb mt w p before byte r h s (large e) = large e
because_from mb mt w p before byte r h s (wrong f t e) =
    subst (num.Because mb mt p before byte) (sym (same_name p h) ∙ ap refusal_of s)
    (wrong f (λ l. t (trailer_to mt before l)) e)
because_from mb mt w p before byte r h s (long f g e) = long f g (line_from before byte e)
because_from mb mt w p before byte r h s (late f e) = late f (trailer_from mt before e)

pub refused_to : (mb mt : ℕ) (wire body : List ℕ) (r : Refusal) → num.IsRefused mb mt wire body r →
    IsRefused mb mt wire body r
refused_to mb mt wire body r q = record {
  before = q.before;
  byte = q.byte;
  after = q.after;
  place = where_of q.place;
  whole = q.whole;
  least = open_to mb mt q.before body q.least;
  stands = stands_of q.place q.before body q.going q.stands;
  because = because_to mb mt q.place q.before q.byte r q.going q.because;
}

pub refused_from : (mb mt : ℕ) (wire body : List ℕ) (r : Refusal) → IsRefused mb mt wire body r →
    num.IsRefused mb mt wire body r
refused_from mb mt wire body r q =
    let s : Stands q.place q.before body = q.stands in
    record {
      going = going_at q.place s.part s.got s.is;
      before = q.before;
      byte = q.byte;
      after = q.after;
      place = place_of q.place q.before body s;
      whole = q.whole;
      least = open_from mb mt q.before body q.least;
      stands = front_at q.place q.before body s;
      because = because_from mb mt q.place (place_of q.place q.before body s) q.before q.byte r
          (going_at q.place s.part s.got s.is) (same_where q.place s.part s.got s.is) q.because;
    }

pub same_before : (mb mt : ℕ) (wire body : List ℕ) (r : Refusal) →
    (q : IsRefused mb mt wire body r) → (refused_from mb mt wire body r q).before ≡ q.before
unfolding refused_from
same_before mb mt wire body r q = refl
