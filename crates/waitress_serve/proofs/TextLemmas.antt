-- What a write leaves.
use Rattle.std.proofs.Common.{◌≡◌, ◌⊎◌, inl, inr, ◌+◌, ◌<◌, ◌≤◌, ℕ, List, [], ◌∷◌, ◌++◌, length}
use Rattle.std.proofs.Common.{take, drop, get_or, refl, ap, sym, subst, ◌∙◌, append-nil}
use Rattle.std.proofs.Common.{append_assoc}
use Rattle.std.proofs.Math.Seq.{take-length}
use Rattle.std.specs.Prelude.{◌≢◌, Bool, Result, Ok, Err, OnOk, OnErr}
use Rattle.std.proofs.lemmas.List.{at_drop_more, drop_all}
use Rattle.outside.specs.declared.types.Listen.{Listen}
use Rattle.waitress_serve.specs.Conclusions.{OutLeaves}
use Rattle.waitress_serve.specs.Made.{Files}
use Rattle.waitress_serve.specs.Reading.{Reading}
use Rattle.waitress_serve.specs.Reports.{Leaves, Reports, Writes, WritesSome}
use Rattle.waitress_serve.specs.Status.{WritesPart, serving_line, serving_lines}
use Rattle.waitress_serve.specs.declared.conclusion.Conclusion.{Conclusion}
use Rattle.waitress_serve.specs.declared.conclusion.Conclusion.TheVariants as conclusion

-- what a write leaves is a part of the text
pub part_written : {T E : Type 0} (text old new : List ℕ) (result : Result T E) →
    OnOk result (new ≡ old ++ text) →
    OnErr result ((n : ℕ) × (new ≡ old ++ take n text)) → WritesPart text old new
part_written text old new (Ok _) whole cut = record {
  count = length text;
  written = whole ∙
      ap (λ xs. old ++ xs) (sym (take-length text));
}
part_written text old new (Err _) whole cut = record { count = cut.0; written = cut.1 }

pub lines_more : (text now whole : List ℕ) (xs : List Listen) (i : ℕ) (x : Listen) →
    now ≡ text ++ serving_line x → i < length xs → x ≡ get_or xs i x →
    text ++ serving_lines (drop i xs) ≡ whole → now ++ serving_lines (drop (i + 1) xs) ≡ whole
unfolding serving_lines
lines_more text now whole xs i x wrote within is before =
    let step : serving_lines (drop i xs) ≡ serving_lines (get_or xs i x ∷ drop (i + 1) xs) =
    at_drop_more serving_lines xs i x within in
    let here : serving_lines (get_or xs i x ∷ drop (i + 1) xs) ≡ serving_line x ++ serving_lines
    (drop (i + 1) xs) = ap (λ y. serving_line y ++ serving_lines (drop (i + 1) xs)) (sym is) in
    ap (λ t. t ++ serving_lines (drop (i + 1) xs)) wrote
    ∙ (append_assoc text (serving_line x) (serving_lines (drop (i + 1) xs)) ∙
    (ap (λ ys. text ++ ys) (sym (step ∙ here)) ∙ before))

pub lines_over : (text whole : List ℕ) (xs : List Listen) (i : ℕ) → length xs ≤ i →
    text ++ serving_lines (drop i xs) ≡ whole → text ≡ whole
unfolding serving_lines
lines_over text whole xs i over before =
    sym (append-nil text) ∙ (ap (λ ys. text ++ serving_lines ys) (sym (drop_all i xs over)) ∙
    before)

-- a whole text was written, and its status is answered
pub leaves_whole : (wanted text : List ℕ) (status result : ℕ) (old new : List ℕ) → result ≡ status →
    text ≡ wanted → new ≡ old ++ text → Leaves wanted status result old new
leaves_whole wanted text status result old new same is whole = record {
  status_is = λ _. same;
  whole = λ _. whole ∙ ap (λ xs. old ++ xs) is;
  part = record {
    count = length text;
    written = whole ∙
        ap (λ xs. old ++ xs) (sym (take-length text) ∙ ap (λ xs. take (length text) xs) is);
  };
}

-- a part of a text was written, and the sink failed
pub leaves_part : (wanted text : List ℕ) (status : ℕ) (old new : List ℕ) → text ≡ wanted →
    (n : ℕ) × (new ≡ old ++ take n text) → Leaves wanted status 6 old new
leaves_part wanted text status old new is part = record {
  status_is = λ other. absurd (other refl);
  whole = λ other. absurd (other refl);
  part = record { count = part.0; written = part.1 ∙ ap (λ xs. old ++ take part.0 xs) is };
}

module _ (told : Bool) (before now : ℕ) (files : Files) (asked : Reading) (result : ℕ)
    (old new : List ℕ) where
  abbrev Is : ℕ → List ℕ → Type 0
  Is = Reports told before now files asked

  -- in the words of the top call
  pub writes_text : (text : List ℕ) (status : ℕ) → Is status text →
      Leaves text status result old new → result ≢ 6 → Writes (Is result) old new
  writes_text text status is h other = record {
    text = text;
    is =
        subst (λ n. Is n text) (sym (h.status_is other)) is;
    whole = h.whole other;
  }

  pub writes_some : (text : List ℕ) (status : ℕ) → Is status text →
      Leaves text status result old new → WritesSome Is old new
  writes_some text status is h = record { status = status; text = text; is = is; part = h.part }

  -- one of two texts
  pub writes_either : (one other : List ℕ) (status status' : ℕ) → Is status one → Is status' other →
      Leaves one status result old new ⊎ Leaves other status' result old new → result ≢ 6 →
      Writes (Is result) old new
  writes_either one other status status' is is' h six = elim h
      [ inl w ↦ writes_text one status is w six | inr w ↦ writes_text other status' is' w six ]

  pub cuts_either : (one other : List ℕ) (status status' : ℕ) → Is status one → Is status' other →
      Leaves one status result old new ⊎ Leaves other status' result old new → WritesSome Is old new
  cuts_either one other status status' is is' h = elim h
      [ inl w ↦ writes_some one status is w | inr w ↦ writes_some other status' is' w ]

  -- nothing was written
  pub writes_none : Is 0 [] → new ≡ old → Writes (Is 0) old new
  writes_none is same = record { text = []; is = is; whole = same ∙ sym (append-nil old) }

  pub cuts_none : Is 0 [] → new ≡ old → WritesSome Is old new
  cuts_none is same = record {
    status = 0;
    text = [];
    is = is;
    part =
        record { count = 0; written = same ∙ sym (append-nil old) };
  }

whole_part : (text old new : List ℕ) → new ≡ old ++ text → WritesPart text old new
whole_part text old new whole = record {
  count = length text;
  written = whole ∙
      ap (λ xs. old ++ xs) (sym (take-length text));
}

no_part : (text old new : List ℕ) → new ≡ old → WritesPart text old new
no_part text old new same = record { count = 0; written = same ∙ sym (append-nil old) }

pub out_part : (text : List ℕ) (c : Conclusion) (old new : List ℕ) → OutLeaves text c old new →
    WritesPart text old new
out_part text conclusion.Done old new h = whole_part text old new h
out_part text (conclusion.Usage fault) old new h = no_part text old new h
out_part text conclusion.NotBuilt old new h = no_part text old new h
out_part text (conclusion.Unmade why) old new h = no_part text old new h
out_part text conclusion.BindFailed old new h = no_part text old new h
out_part text conclusion.Unprinted old new h = h
out_part text conclusion.PollFailed old new h = whole_part text old new h
out_part text conclusion.NoMemory old new h = elim h [
  | inl none ↦ no_part text old new none
  | inr
      whole ↦ whole_part text old new whole
]
