-- The sentences of the rule, of both ends.
use Rattle.std.proofs.Common.{refl, ◌≡◌, ℕ, suc-ne-zero, Bool, true, false, List, [], ◌∷◌, get_or}
use Rattle.std.proofs.Common.{sym, ap, ◌∙◌, subst, inl, inr, Option}
use Rattle.atomic_table.specs.Table.{State}
use Rattle.turn_gate.specs.declared.board.Entries.{Entries}
use Rattle.turn_gate.specs.declared.board.Shelf.{Shelf}
use Rattle.turn_gate.specs.declared.board.View.{View}
use Rattle.turn_gate.specs.Gate.{Phase, free, left_has, right_has, Two, vacant, filling, whole}
use Rattle.turn_gate.specs.Gate.{Kept}
use Rattle.turn_gate.specs.Rule.{KeepsRule, Keeps, RefusesWhereHeld}

module _ {S L R F : Type 0} (agree : S → List L → List R → Type 0) (fixed : S → F) where
  abbrev V : Type 0
  V = View L R F

  abbrev St : Type 0
  St = State (Option (Shelf S L R)) V

  abbrev second : V → List V → V
  second d [] = d
  second d (x ∷ []) = d
  second d (x ∷ y ∷ ys) = y

  abbrev first : V → List V → V
  first d [] = d
  first d (x ∷ xs) = x

  abbrev has_two : List V → Bool
  has_two [] = false
  has_two (x ∷ []) = false
  has_two (x ∷ y ∷ ys) = true

  clash : (b : Bool) → b ≡ true → b ≡ false → ⊥
  clash b t f = let x : true ≡ false = sym t ∙ f in cc

  no_both : (n : ℕ) → n ≡ 1 → n ≡ 0 → ⊥
  no_both n one zero_is = suc-ne-zero 0 (sym one ∙ zero_is)

  zero_one : (ws : List ℕ) → ws ≡ 1 ∷ [] → ws ≡ 0 ∷ [] → ⊥
  zero_one ws held vacated = no_both (get_or ws 0 0) (ap (λ (zs : List ℕ). get_or zs 0 0) held)
      (ap (λ (zs : List ℕ). get_or zs 0 0) vacated)

  sentences : (s : St) (l r : V) → Two agree fixed s l r → Phase agree fixed s l r →
      KeepsRule agree fixed s l r
  sentences s l r t (free lh rh word c home x gone came) = record {
    left_side = t.left;
    right_side = t.right;
    same_fixed = t.same;
    one_turn = λ both. clash l.has both.0 lh;
    free = ((λ _. (lh, rh)), λ _. word);
    home = λ _. record {
      shelf = c;
      home = home;
      entries = x.entries;
      agrees = subst (λ (z : Entries L R). agree c.state.value z.left z.right) x.entries x.agrees;
      left_fixed = x.fixed_is;
      right_fixed = x.fixed_is ∙ sym t.same;
    };
    out = λ held. absurd (held word);
    left_found = t.left_found;
    right_found = t.right_found;
    left_found_all = λ h. absurd (clash l.has h lh);
    right_found_all = λ h. absurd (clash r.has h rh);
    left_refused = λ _. sym gone;
    right_refused = λ _. sym came;
  }
  sentences s l r t (left_has lh rh word home all gone) = record {
    left_side = t.left;
    right_side = t.right;
    same_fixed = t.same;
    one_turn = λ both. clash r.has both.1 rh;
    free = ((λ z. absurd (zero_one s.words word z)), λ z. absurd (clash l.has lh z.0));
    home = λ z. absurd (zero_one s.words word z);
    out = λ _. home;
    left_found = t.left_found;
    right_found = t.right_found;
    left_found_all = λ _. all;
    right_found_all = λ h. absurd (clash r.has h rh);
    left_refused = λ _. sym gone;
    right_refused = λ h. absurd (clash l.has lh h);
  }
  sentences s l r t (right_has lh rh word home all came) = record {
    left_side = t.left;
    right_side = t.right;
    same_fixed = t.same;
    one_turn = λ both. clash l.has both.0 lh;
    free = ((λ z. absurd (zero_one s.words word z)), λ z. absurd (clash r.has rh z.1));
    home = λ z. absurd (zero_one s.words word z);
    out = λ _. home;
    left_found = t.left_found;
    right_found = t.right_found;
    left_found_all = λ h. absurd (clash l.has h lh);
    right_found_all = λ _. all;
    left_refused = λ h. absurd (clash r.has rh h);
    right_refused = λ _. sym came;
  }

  one_view : (s : St) (v l r : V) → s.views ≡ v ∷ [] → s.views ≡ l ∷ r ∷ [] → ⊥
  one_view s v l r one both = let x : false ≡ true = ap has_two (sym one ∙ both) in cc

  between : (s : St) (l r : V) → Kept agree fixed s → s.views ≡ l ∷ r ∷ [] →
      KeepsRule agree fixed s l r
  between s l r (inl (vacant f views word home)) both = absurd (one_view s _ l r views both)
  between s l r (inl (filling f views word home)) both = absurd (one_view s _ l r views both)
  between s l r (inl (whole f views word c home x)) both = absurd (one_view s _ l r views both)
  between s l r (inr p) both =
      let e : p.l ∷ p.r ∷ [] ≡ l ∷ r ∷ [] = sym p.two.views ∙ both in
      let x : p.l ≡ l = ap (first l) e in
      let y : p.r ≡ r = ap (second r) e in
      subst (λ (z : V × V). KeepsRule agree fixed s z.0 z.1) (λ j. (x j, y j))
      (sentences s p.l p.r p.two p.two.phase)

  pub keeps_rule : Keeps agree fixed (Kept agree fixed)
  keeps_rule s (inl (vacant f views word home)) = inl (record { view = _; views = views })
  keeps_rule s (inl (filling f views word home)) = inl (record { view = _; views = views })
  keeps_rule s (inl (whole f views word c home x)) = inl (record { view = _; views = views })
  keeps_rule s (inr p) = inr (record {
    left = p.l;
    right = p.r;
    views = p.two.views;
    keeps =
        sentences s p.l p.r p.two p.two.phase;
  })

  must : (b : Bool) → (b ≡ false → ⊥) → b ≡ true
  must true impossible = refl
  must false impossible = absurd (impossible refl)

  pub refuses_where_held : RefusesWhereHeld (Kept agree fixed)
  refuses_where_held s t l r w before after is = (
    (λ now other. must r.has (λ off. other ((between t w r after now).left_refused off ∙
        sym ((between s l r before is).left_refused off)))),
    (λ now other. must l.has (λ off. other ((between t l w after now).right_refused off ∙
        sym ((between s l r before is).right_refused off)))),
  )
