-- Where a trailer section ends.
use Rattle.std.proofs.Common.{◌≡◌, ℕ, zero, suc, List, [], ◌∷◌, ◌++◌, length, refl, ap, sym, subst}
use Rattle.std.proofs.Common.{◌∙◌, arith, inl, inr, ◌⊎◌, append_assoc, length-append}
use Rattle.std.specs.Prelude.{if◌then◌else◌, nat_eq}
use Rattle.std.proofs.lemmas.List.{take-append-le, take_all, append-nil}
use Rattle.std.proofs.lemmas.Bool.{cases_lt}
use Rattle.chunk_body.specs.Coded.{EndsTrailer, IsTrailer}
use Rattle.chunk_body.specs.Verdicts.{IsOpenTrailer}
use Rattle.chunk_body.specs.Reading.{mark_step}
use Rattle.chunk_body.proofs.Places.{mark_from}
use Rattle.chunk_body.proofs.Choices.{by_cond, eq_of}

-- lists that end in one byte
pub last_same : (xs ys : List ℕ) (x y : ℕ) → xs ++ (x ∷ []) ≡ ys ++ (y ∷ []) → (xs ≡ ys) × (x ≡ y)
last_same [] [] x y e = (refl, let h : x ≡ y = cc in h)
last_same [] (b ∷ []) x y e = absurd (let h : 1 ≡ 2 = ap length e in cc)
last_same [] (b ∷ c ∷ ys) x y e = absurd (let h : 1 ≡ suc (suc (length (ys ++ y ∷ []))) =
    ap length e in omega arith)
last_same (a ∷ []) [] x y e = absurd (let h : 2 ≡ 1 = ap length e in cc)
last_same (a ∷ c ∷ xs) [] x y e = absurd (let h : suc (suc (length (xs ++ x ∷ []))) ≡ 1 =
    ap length e in omega arith)
last_same (a ∷ xs) (b ∷ ys) x y e =
    let t : xs ++ (x ∷ []) ≡ ys ++ (y ∷ []) = cc in
    let r = last_same xs ys x y t in
    let h : a ≡ b = cc in
    (ap (λ k. k ∷ xs) h ∙ ap (λ l. b ∷ l) r.0, r.1)

pub mark-append : (m : ℕ) (xs ys : List ℕ) → mark_from m (xs ++ ys) ≡ mark_from (mark_from m xs) ys
mark-append m [] ys = refl
mark-append m (x ∷ xs) ys = mark-append (mark_step m x) xs ys

-- what stands at the end, where so much is marked
abbrev pub Marks : ℕ → List ℕ → Type 0
Marks zero t = Unit {0}
Marks (suc zero) t = (f : List ℕ) × (t ≡ f ++ (13 ∷ []))
Marks (suc (suc zero)) t = (t ≡ []) ⊎ ((f : List ℕ) × (t ≡ f ++ (13 ∷ 10 ∷ [])))
Marks (suc (suc (suc zero))) t = (t ≡ 13 ∷ []) ⊎ ((f : List ℕ) × (t ≡ f ++ (13 ∷ 10 ∷ 13 ∷ [])))
Marks (suc (suc (suc (suc m)))) t = EndsTrailer t

marks_cr : (m : ℕ) (t : List ℕ) → Marks m t → m ≡ 2 → Marks 3 (t ++ 13 ∷ [])
marks_cr m t h e =
    let two : Marks 2 t = subst (λ k. Marks k t) e h in
    elim two [
      | inl w ↦ inl (ap (λ l. l ++ 13 ∷ []) w)
      | inr w ↦ inr (w.0, ap (λ l. l ++ 13 ∷ []) w.1 ∙ append_assoc w.0 (13 ∷ 10 ∷ []) (13 ∷ []))
    ]

marks_lf : (m : ℕ) (t : List ℕ) → Marks m t → m ≡ 1 → Marks 2 (t ++ 10 ∷ [])
marks_lf m t h e =
    let one : Marks 1 t = subst (λ k. Marks k t) e h in
    inr (one.0, ap (λ l. l ++ 10 ∷ []) one.1 ∙ append_assoc one.0 (13 ∷ []) (10 ∷ []))

marks_end : (m : ℕ) (t : List ℕ) → Marks m t → m ≡ 3 → Marks 4 (t ++ 10 ∷ [])
marks_end m t h e =
    let three : Marks 3 t = subst (λ k. Marks k t) e h in
    elim three [
      | inl w ↦ inl (ap (λ l. l ++ 10 ∷ []) w)
      | inr w ↦ inr (
        w.0,
        ap (λ l. l ++ 10 ∷ []) w.1
            ∙ append_assoc w.0 (13 ∷ 10 ∷ 13 ∷ []) (10 ∷ []),
      )
    ]

marks_step : (m : ℕ) (t : List ℕ) (c : ℕ) → Marks m t → Marks (mark_step m c) (t ++ c ∷ [])
unfolding mark_step
marks_step m t c h =
    let P : ℕ → Type 0 = λ k. Marks k (t ++ c ∷ []) in
    by_cond P (nat_eq c 13) (if nat_eq m 2 then 3 else 1) (if nat_eq c 10
    then (if nat_eq m 1 then 2 else (if nat_eq m 3 then 4 else 0)) else 0)
    (λ cr. let is : 13 ≡ c = sym (eq_of c 13 cr) in
    by_cond P (nat_eq m 2) 3 1 (λ two. subst (λ d. Marks 3 (t ++ d ∷ [])) is
    (marks_cr m t h (eq_of m 2 two))) (λ _. (t, ap (λ d. t ++ d ∷ []) (sym is))))
    (λ _. by_cond P (nat_eq c 10) (if nat_eq m 1 then 2 else (if nat_eq m 3 then 4 else 0)) 0
    (λ lf. let is : 10 ≡ c = sym (eq_of c 10 lf) in
    by_cond P (nat_eq m 1) 2 (if nat_eq m 3 then 4
    else 0) (λ one. subst (λ d. Marks 2 (t ++ d ∷ [])) is (marks_lf m t h (eq_of m 1 one)))
    (λ _. by_cond P (nat_eq m 3) 4 0 (λ three. subst (λ d. Marks 4 (t ++ d ∷ [])) is
    (marks_end m t h (eq_of m 3 three))) (λ _. tt)))
    (λ _. tt))

marks_on : (pre t : List ℕ) (m : ℕ) → Marks m pre → Marks (mark_from m t) (pre ++ t)
marks_on pre [] m h = subst (λ l. Marks m l) (sym (append-nil pre)) h
marks_on pre (c ∷ t) m h = subst (λ l. Marks (mark_from (mark_step m c) t) l)
    (append_assoc pre (c ∷ []) t) (marks_on (pre ++ c ∷ []) t (mark_step m c)
    (marks_step m pre c h))

pub marks : (t : List ℕ) → Marks (mark_from 2 t) t
marks t = marks_on [] t 2 (inl refl)

-- the whole of an open trailer section does not end it
pub not_ended : (t : List ℕ) → IsOpenTrailer t → EndsTrailer t → ⊥
not_ended t o h = o.none (length t) (omega arith) (subst EndsTrailer
    (sym (take_all (length t) t (omega arith))) h)

-- with one byte less it is open too
pub open_front : (t : List ℕ) (xs : List ℕ) → IsOpenTrailer (t ++ xs) → IsOpenTrailer t
open_front t xs o = record {
  none = λ n l h. o.none n (omega (arith, length-append t xs))
      (subst EndsTrailer (sym (take-append-le n t xs l)) h);
}

-- behind CR LF CR, three bytes are marked
cr_lf_cr : (m : ℕ) → (m ≡ 2 → ⊥) → mark_from m (13 ∷ 10 ∷ 13 ∷ []) ≡ 3
unfolding mark_step
cr_lf_cr m n = by_cond (λ k. mark_from k (10 ∷ 13 ∷ []) ≡ 3) (nat_eq m 2) 3 1
    (λ two. absurd (n (eq_of m 2 two))) (λ _. refl)

-- where one more byte ends it, three bytes are marked, and the byte is LF
pub ending : (t : List ℕ) (c : ℕ) → IsOpenTrailer t → EndsTrailer (t ++ c ∷ []) →
    (mark_from 2 t ≡ 3) × (c ≡ 10)
unfolding mark_step
ending t c o h =
    elim h [
      | inl e ↦ (let s = last_same t (13 ∷ []) c 10 e in (ap (λ l. mark_from 2 l) s.0, s.1))
      | inr w ↦ (let s = last_same t (w.0 ++ 13 ∷ 10 ∷ 13 ∷ []) c 10 (w.1
          ∙ sym (append_assoc w.0 (13 ∷ 10 ∷ 13 ∷ []) (10 ∷ []))) in
          let no : mark_from 2 w.0 ≡ 2 → ⊥ = λ e2. not_ended (w.0 ++ 13 ∷ 10 ∷ [])
          (open_front (w.0 ++ 13 ∷ 10 ∷ []) (13 ∷ [])
          (subst IsOpenTrailer (s.0 ∙ sym (append_assoc w.0 (13 ∷ 10 ∷ []) (13 ∷ []))) o))
          (subst (λ k. Marks k (w.0 ++ 13 ∷ 10 ∷ [])) (mark-append 2 w.0 (13 ∷ 10 ∷ [])
          ∙ ap (λ k. mark_from k (13 ∷ 10 ∷ [])) e2) (marks (w.0 ++ 13 ∷ 10 ∷ []))) in (
            ap (λ l. mark_from 2 l) s.0 ∙ mark-append 2 w.0 (13 ∷ 10 ∷ 13 ∷ [])
                ∙ cr_lf_cr (mark_from 2 w.0) no,
            s.1,
          ))
    ]

-- where four bytes are marked, it ended
pub ended_at : (t : List ℕ) (c : ℕ) → mark_step (mark_from 2 t) c ≡ 4 → EndsTrailer (t ++ c ∷ [])
ended_at t c e = subst (λ k. Marks k (t ++ c ∷ [])) (mark-append 2 t (c ∷ [])
    ∙ e) (marks (t ++ c ∷ []))

pub whole_at : (t : List ℕ) (c : ℕ) → IsOpenTrailer t → mark_step (mark_from 2 t) c ≡ 4 →
    IsTrailer (t ++ c ∷ [])
whole_at t c o e = record {
  ends = ended_at t c e;
  shortest = λ n l h. o.none n (omega (arith, length-append t (c ∷ [])))
      (subst EndsTrailer (take-append-le n t (c ∷ []) (omega (arith, length-append t (c ∷ [])))) h);
}

pub still_open : (t : List ℕ) (c : ℕ) → IsOpenTrailer t → (mark_step (mark_from 2 t) c ≡ 4 → ⊥) →
    IsOpenTrailer (t ++ c ∷ [])
unfolding mark_step
still_open t c o f = record {
  none = λ n l h. elim (cases_lt (length t) n) [
    | inl w ↦ (let e = ending t c o (subst EndsTrailer
        (take_all n (t ++ c ∷ []) (omega (arith, length-append t (c ∷ [])))) h) in
        f (ap (λ k. mark_step k c) e.0 ∙ ap (λ d. mark_step 3 d) e.1))
    | inr w ↦ o.none n w (subst EndsTrailer (take-append-le n t (c ∷ []) w) h)
  ];
}

no_end : (f : List ℕ) → [] ≡ f ++ (13 ∷ 10 ∷ 13 ∷ 10 ∷ []) → ⊥
no_end [] e = cc
no_end (x ∷ f) e = cc

not_crlf : (t : List ℕ) → t ≡ [] → t ≡ 13 ∷ 10 ∷ [] → ⊥
not_crlf t a b = cc

pub nothing_ends : EndsTrailer [] → ⊥
nothing_ends h = elim h [ inl e ↦ not_crlf [] refl e | inr w ↦ no_end w.0 w.1 ]

pub nothing_open : IsOpenTrailer []
nothing_open = record {
  none = λ n l h. nothing_ends
      (subst EndsTrailer (take_all n [] (omega arith)) h);
}
