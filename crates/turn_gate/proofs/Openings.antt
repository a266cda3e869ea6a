-- The steps before a gate is open keep its rule.
use Rattle.std.proofs.Common.{◌≡◌, ◌⊎◌, ℕ, List, [], ◌∷◌, ◌++◌, get_or, set, sym, refl, ap, ◌∙◌}
use Rattle.std.proofs.Common.{subst, inl, inr, Some, None}
use mathlib.Core.Option.{some, none}
use lib.ListN.{get_elem?}
use lib.Seq.{set-get_or}
use Rattle.atomic_table.specs.Table.{Step, step, Act, takes, gives, Valid, rest}
use Rattle.atomic_table.specs.Table.{carried_after, stepped, Allows, Splits}
use Rattle.turn_gate.specs.declared.board.Entries.{Entries}
use Rattle.turn_gate.specs.declared.board.Shelf.{Shelf}
use Rattle.turn_gate.specs.declared.board.Side.{Side}
use Rattle.turn_gate.specs.declared.board.Side.TheVariants.{Vacant, Filling, Whole, Left, Right}
use Rattle.turn_gate.specs.declared.board.View.{View}
use Rattle.turn_gate.specs.Gate.{alone, Holds, free, Opening, vacant, filling, whole, Kept, began}
use Rattle.turn_gate.specs.Gate.{filled, left_part, right_part}
use Rattle.turn_gate.proofs.Steps.{at_two, lone}
use Rattle.turn_gate.proofs.Names.{GateState, Homes, Knows, Slot}

module _ {S L R F : Type 0} (agree : S → List L → List R → Type 0) (fixed : S → F) where
  abbrev V : Type 0
  V = View L R F

  abbrev St : Type 0
  St = GateState S L R F

  abbrev Rule : St → Type 0
  Rule = Kept agree fixed

  abbrev st₀ : Step (Slot S L R)
  st₀ = step 0 0 0 0 none

  -- a seat that is no end yet is the only one
  opening : (s : St) (id : ℕ) (v : V) → get_elem? s.views id ≡ some v → (v.side ≡ Left → ⊥) →
      (v.side ≡ Right → ⊥) → Rule s → Opening agree fixed s
  opening s id v at no_left no_right (inl a) = a
  opening s id v at no_left no_right (inr p) = absurd (go
      (at_two p.l p.r v id (subst (λ (vs : List V). get_elem? vs id ≡ some v) p.two.views at)))
    where
      go : (id ≡ 0) × (p.l ≡ v) ⊎ (id ≡ 1) × (p.r ≡ v) → ⊥
      go (inl e) = no_left (sym (ap (λ (z : V). z.side) e.1) ∙ p.two.left)
      go (inr e) = no_right (sym (ap (λ (z : V). z.side) e.1) ∙ p.two.right)

  -- it is in one stage of the opening, which its side names
  stage : (id : ℕ) (a b : Side) (f g : F) (vs : List V) → get_elem? vs id ≡ some (alone a f) →
      vs ≡ alone b g ∷ [] → b ≡ a
  stage id a b f g vs at e = ap (λ (z : V). z.side) (lone agree fixed id (alone a f) (alone b g) vs
      at e).1

  seat_zero : (id : ℕ) (a : Side) (f g : F) (vs : List V) → get_elem? vs id ≡ some (alone a f) →
      vs ≡ alone a g ∷ [] → (id ≡ 0) × (g ≡ f)
  seat_zero id a f g vs at e = let x = lone agree fixed id (alone a f) (alone a g) vs at e in
      (x.0, ap (λ (z : V). z.fixed) x.1)

  placed : (id : ℕ) (v w : V) (vs : List V) → id ≡ 0 → vs ≡ v ∷ [] → set vs id w ≡ w ∷ []
  placed id v w vs e is = ap (λ (i : ℕ). set vs i w) e ∙ ap (λ (zs : List V). set zs 0 w) is

  abbrev Steps : ℕ → Knows S L R F → (ℕ → ℕ) → (ℕ → Knows S L R F → Type 0) → St → Type 0
  Steps id me f then s = (w : V) × (a : Act (Slot S L R)) × Valid s.homes me.1 a × Rule
      (stepped s 0 (f (get_or s.words 0 0)) id me.1 w a) × then (get_or s.words 0 0)
      (w, carried_after me.1 a)

  -- the vacant slot comes to the first seat
  vacant_taken : (id : ℕ) (f : F) (s : St) → get_elem? s.views id ≡ some (alone Vacant f) →
      Opening agree fixed s → Steps id (alone Vacant f, []) (λ n. n)
      (began st₀ (alone Vacant f, [])) s
  vacant_taken id f s at (vacant g views word home) = let e =
      seat_zero id Vacant f g s.views at views in (
        alone Filling f,
        takes 0 None,
        ap (λ (hs : Homes S L R). get_elem? hs 0) home,
        inl (filling f (placed id (alone Vacant g) (alone Filling f) s.views e.0 views)
            (set-get_or s.words 0 0 ∙ word) (ap (λ (hs : Homes S L R). set hs 0 none) home)),
        refl,
      )
  vacant_taken id f s at (filling g views word home) = absurd
      (let x : Filling ≡ Vacant = stage id Vacant Filling f g s.views at views in cc)
  vacant_taken id f s at (whole g views word c home x) =
      absurd (let y : Whole ≡ Vacant = stage id Vacant Whole f g s.views at views in cc)

  pub begins : (slots id : ℕ) (me : Knows S L R F) (f : F) → me ≡ (alone Vacant f, []) →
      Allows Rule slots id me 0 (λ n. n) (began st₀ me)
  begins slots id me f is = subst
      (λ (m : Knows S L R F). Allows Rule slots id m 0 (λ n. n) (began st₀ m))
      (sym is)
      (λ s k _ at _. vacant_taken id f s at (opening s id (alone Vacant f) at
      (λ (e : Vacant ≡ Left). cc) (λ (e : Vacant ≡ Right). cc) k))

  -- the slot goes home with the state
  slot_filled : (id : ℕ) (f : F) (c : Shelf S L R) → Holds agree fixed c [] [] f → (s : St) →
      get_elem? s.views id ≡ some (alone Filling f) → Opening agree fixed s
      → Steps id (alone Filling f, (0, Some c) ∷ []) (λ _. 0)
      (λ _. filled st₀ (alone Filling f, (0, Some c) ∷ []) 0) s
  slot_filled id f c h s at (filling g views word home) = let e =
      seat_zero id Filling f g s.views at views in (
        alone Whole f,
        gives,
        tt,
        inl (whole f (placed id (alone Filling g) (alone Whole f) s.views e.0 views)
            (ap (λ (ws : List ℕ). set ws 0 0) word) c (ap (λ (hs : Homes S L R).
            set hs 0 (some (Some c))) home) h),
        refl,
      )
  slot_filled id f c h s at (vacant g views word home) =
      absurd (let x : Vacant ≡ Filling = stage id Filling Vacant f g s.views at views in cc)
  slot_filled id f c h s at (whole g views word c' home x) =
      absurd (let y : Whole ≡ Filling = stage id Filling Whole f g s.views at views in cc)

  pub fills : (slots id n : ℕ) (me : Knows S L R F) (f : F) (c : Shelf S L R) →
      me ≡ (alone Filling f, (0, Some c) ∷ []) → c.entries.value ≡ record
      { left = []; right = [] } → fixed c.state.value ≡ f
      → agree c.state.value [] [] → n ≡ 0 → Allows Rule slots id me 0 (λ _. n)
      (λ _. filled st₀ me n)
  fills slots id n me f c is en fx ag zero_is = subst (λ (x : ℕ × Knows S L R F).
      Allows Rule slots id x.1 0 (λ _. x.0) (λ _. filled st₀ x.1 x.0))
      (λ j. (sym zero_is j, sym is j))
      (λ s k _ at _. slot_filled id f c record {
        entries = en;
        fixed_is = fx;
        agrees =
            subst (λ (z : Entries L R). agree c.state.value z.left z.right) (sym en) ag;
      } s at
      (opening s id (alone Filling f) at (λ (e : Filling ≡ Left). cc) (λ (e : Filling ≡ Right). cc)
      k))

  -- the seat with the first state in its slot
  pub filling_seat : (f : F) (m₀ m₁ m₂ : Knows S L R F) (c : Shelf S L R) →
      m₀ ≡ (alone Vacant f, []) →
      m₁ ≡ (record m₀.0 { side = Filling }, (0, None) ∷ []) → m₂ ≡ (m₁.0, (0, Some c) ∷ rest m₁.1)
      → m₂ ≡ (alone Filling f, (0, Some c) ∷ [])
  filling_seat f m₀ m₁ m₂ c e₀ e₁ e₂ =
      e₂ ∙ ap (λ (m : Knows S L R F). (m.0, (0, Some c) ∷ rest m.1))
      (e₁ ∙ ap (λ (m : Knows S L R F). (record m.0 { side = Filling }, (0, None) ∷ [])) e₀)

  -- the split: both ends have no entries, and neither has the turn
  whole_split : (id : ℕ) (f : F) (s : St) → get_elem? s.views id ≡ some (alone Whole f) →
      Opening agree fixed s
      → Rule record {
        words = s.words;
        homes = s.homes;
        views =
            set s.views id (alone Left f) ++ alone Right f ∷ [];
      }
  whole_split id f s at (whole g views word c home x) = let e =
      seat_zero id Whole f g s.views at views in inr record {
        l = alone Left f;
        r = alone Right f;
        two = record {
          views = ap (λ (vs : List V). vs ++ alone Right f ∷ [])
              (placed id (alone Whole g) (alone Left f) s.views e.0 views);
          left = refl;
          right = refl;
          same = refl;
          left_found = ([], refl);
          right_found = ([], refl);
          phase = free refl refl word c home record {
            entries = x.entries;
            fixed_is = x.fixed_is ∙ e.1;
            agrees = x.agrees;
          } refl refl;
        };
      }
  whole_split id f s at (vacant g views word home) = absurd
      (let x : Vacant ≡ Whole = stage id Whole Vacant f g s.views at views in cc)
  whole_split id f s at (filling g views word home) = absurd
      (let x : Filling ≡ Whole = stage id Whole Filling f g s.views at views in cc)

  pub divides : (id : ℕ) (v : V) (f : F) → v ≡ alone Whole f →
      Splits Rule id v (left_part v) (right_part v)
  divides id v f is = subst (λ (z : V). Splits Rule id z (left_part z) (right_part z)) (sym is)
      (λ s k at. whole_split id f s at (opening s id (alone Whole f) at (λ (e : Whole ≡ Left). cc)
      (λ (e : Whole ≡ Right). cc) k))
