-- A stable sort has one answer, which inserting the elements one by one gives.
use Rattle.std.proofs.Common.{◌≡◌, ◌≤◌, ◌<◌, ℕ, suc, Bool, true, false, List, [], ◌∷◌, length}
use Rattle.std.proofs.Common.{get_or, cond, refl, ap, sym, ◌∙◌, arith}
use Rattle.std.specs.Prelude.{filter, not, ◌&&◌}
use Rattle.std.specs.Cmp.{IsStrictWeakOrder}
use Rattle.std.specs.List.Sorted.{IsSortedBy, IsStableBy, ties}
use Rattle.std.proofs.lemmas.List.Sorted.{sorted_far}

-- an element, in front of the first one that is not below it
abbrev pub insert_by : {X : Type 0} → (X → X → Bool) → X → List X → List X
insert_by lt x [] = x ∷ []
insert_by lt x (y ∷ ys) = cond (lt y x) (y ∷ insert_by lt x ys) (x ∷ y ∷ ys)

abbrev pub sort_by : {X : Type 0} → (X → X → Bool) → List X → List X
sort_by lt [] = []
sort_by lt (x ∷ xs) = insert_by lt x (sort_by lt xs)

-- no element is below x
abbrev NoneBelow : {X : Type 0} → (X → X → Bool) → X → List X → Type 0
NoneBelow lt x [] = Unit {0}
NoneBelow lt x (y ∷ ys) = (lt y x ≡ false) × NoneBelow lt x ys

abbrev Ascends : {X : Type 0} → (X → X → Bool) → List X → Type 0
Ascends lt [] = Unit {0}
Ascends lt (x ∷ xs) = NoneBelow lt x xs × Ascends lt xs

module _ {X : Type 0} (lt : X → X → Bool) (o : IsStrictWeakOrder lt) where
  not_itself_by : (x : X) (b : Bool) → lt x x ≡ b → lt x x ≡ false
  not_itself_by x true h = o.one_way x x h
  not_itself_by x false h = h

  not_itself : (x : X) → lt x x ≡ false
  not_itself x = not_itself_by x (lt x x) refl

  tied : (x y : X) → lt x y ≡ false → lt y x ≡ false → ties lt x y ≡ true
  tied x y h k = ap (λ b. not b && not (lt y x)) h ∙ ap (λ b. not b) k

  below_no : (a b : Bool) → (not a && not b) ≡ true → (a ≡ false) × (b ≡ false)
  below_no true b h = let no : false ≡ true = h in absurd (cc)
  below_no false true h = let no : false ≡ true = h in absurd (cc)
  below_no false false h = (refl, refl)

  none_chain : (x y : X) (ys : List X) → NoneBelow lt y ys → lt y x ≡ false → NoneBelow lt x ys
  none_chain x y [] none h = tt
  none_chain x y (z ∷ ys) none h = (o.chain z y x none.0 h, none_chain x y ys none.1 h)

  none_by : (z x y : X) (ys : List X) (b : Bool) → lt x z ≡ false → lt y z ≡ false →
      NoneBelow lt z ys →
      NoneBelow lt z (insert_by lt x ys) → NoneBelow lt z
      (cond b (y ∷ insert_by lt x ys) (x ∷ y ∷ ys))
  none_by z x y ys true hx hy none more = (hy, more)
  none_by z x y ys false hx hy none more = (hx, (hy, none))

  none_insert : (z x : X) (ys : List X) → lt x z ≡ false → NoneBelow lt z ys →
      NoneBelow lt z (insert_by lt x ys)
  none_insert z x [] h none = (h, tt)
  none_insert z x (y ∷ ys) h none =
      none_by z x y ys (lt y x) h none.0 none.1 (none_insert z x ys h none.1)

  ascends_by : (x y : X) (ys : List X) (b : Bool) → lt y x ≡ b → NoneBelow lt y ys → Ascends lt ys →
      Ascends lt (insert_by lt x ys) → Ascends lt (cond b (y ∷ insert_by lt x ys) (x ∷ y ∷ ys))
  ascends_by x y ys true h none up more = (none_insert y x ys (o.one_way y x h) none, more)
  ascends_by x y ys false h none up more = ((h, none_chain x y ys none h), (none, up))

  ascends_insert : (x : X) (ys : List X) → Ascends lt ys → Ascends lt (insert_by lt x ys)
  ascends_insert x [] up = (tt, tt)
  ascends_insert x (y ∷ ys) up =
      ascends_by x y ys (lt y x) refl up.0 up.1 (ascends_insert x ys up.1)

  pub sort_ascends : (xs : List X) → Ascends lt (sort_by lt xs)
  sort_ascends [] = tt
  sort_ascends (x ∷ xs) = ascends_insert x (sort_by lt xs) (sort_ascends xs)

  -- of two that tie with a third neither is below the other
  swap_by : (x y : X) (fs more : List X) (a b : Bool) → (a ≡ true → b ≡ true → false ≡ true) →
      more ≡ cond b (x ∷ fs) fs →
      cond a (y ∷ more) more ≡ cond b (x ∷ cond a (y ∷ fs) fs) (cond a (y ∷ fs) fs)
  swap_by x y fs more true true never h = let wrong : false ≡ true = never refl refl in absurd (cc)
  swap_by x y fs more true false never h = ap (λ l. y ∷ l) h
  swap_by x y fs more false b never h = h

  keeps_by : (z x y : X) (ys : List X) (b : Bool) → lt y x ≡ b →
      filter (ties lt z) (insert_by lt x ys) ≡ filter (ties lt z) (x ∷ ys) →
      filter (ties lt z) (cond b (y ∷ insert_by lt x ys) (x ∷ y ∷ ys)) ≡ filter (ties lt z)
      (x ∷ y ∷ ys)
  keeps_by z x y ys true h more =
      swap_by x y (filter (ties lt z) ys) (filter (ties lt z) (insert_by lt x ys)) (ties lt z y)
      (ties lt z x)
      (λ ty tx. sym (o.chain y z x (below_no (lt z y) (lt y z) ty).1
      (below_no (lt z x) (lt x z) tx).0) ∙ h)
      more
  keeps_by z x y ys false h more = refl

  keeps_insert : (z x : X) (ys : List X) →
      filter (ties lt z) (insert_by lt x ys) ≡ filter (ties lt z) (x ∷ ys)
  keeps_insert z x [] = refl
  keeps_insert z x (y ∷ ys) = keeps_by z x y ys (lt y x) refl (keeps_insert z x ys)

  keeps_cons : (z x : X) (xs ys : List X) → filter (ties lt z) xs ≡ filter (ties lt z) ys →
      filter (ties lt z) (x ∷ xs) ≡ filter (ties lt z) (x ∷ ys)
  keeps_cons z x xs ys h = ap (λ l. cond (ties lt z x) (x ∷ l) l) h

  pub sort_keeps : (z : X) (xs : List X) → filter (ties lt z) (sort_by lt xs) ≡ filter (ties lt z)
      xs
  sort_keeps z [] = refl
  sort_keeps z (x ∷ xs) =
      keeps_insert z x (sort_by lt xs) ∙ keeps_cons z x (sort_by lt xs) xs (sort_keeps z xs)

  -- what ties with y stands among these, of which none is below z: so y isn't below z
  among_by : (y z e : X) (es rest : List X) (w : X) (b : Bool) → ties lt y e ≡ b → lt e z ≡ false →
      (filter (ties lt y) es ≡ w ∷ rest → lt y z ≡ false) →
      cond b (e ∷ filter (ties lt y) es) (filter (ties lt y) es) ≡ w ∷ rest → lt y z ≡ false
  among_by y z e es rest w true t h more f = o.chain y e z (below_no (lt y e) (lt e y) t).0 h
  among_by y z e es rest w false t h more f = more f

  among : (y z w : X) (es rest : List X) → NoneBelow lt z es → filter (ties lt y) es ≡ w ∷ rest →
      lt y z ≡ false
  among y z w [] rest none f = absurd (cc)
  among y z w (e ∷ es) rest none f =
      among_by y z e es rest w (ties lt y e) refl none.0 (among y z w es rest none.1) f

  -- the first of a list ties with itself
  first_kept : (x : X) (xs : List X) → filter (ties lt x) (x ∷ xs) ≡ x ∷ filter (ties lt x) xs
  first_kept x xs =
      ap (λ b. cond b (x ∷ filter (ties lt x) xs) (filter (ties lt x) xs))
      (tied x x (not_itself x) (not_itself x))

  first_tied : (y z : X) (zs : List X) → ties lt y z ≡ true →
      filter (ties lt y) (z ∷ zs) ≡ z ∷ filter (ties lt y) zs
  first_tied y z zs t = ap (λ b. cond b (z ∷ filter (ties lt y) zs) (filter (ties lt y) zs)) t

  rest_by : (y : X) (es fs : List X) (b : Bool) → cond b (y ∷ es) es ≡ cond b (y ∷ fs) fs → es ≡ fs
  rest_by y es fs true h = cc
  rest_by y es fs false h = h

  same_first : (y z : X) (ys zs : List X) → ties lt y z ≡ true →
      filter (ties lt y) (y ∷ ys) ≡ filter (ties lt y) (z ∷ zs) → y ≡ z
  same_first y z ys zs t h =
      let e : y ∷ filter (ties lt y) ys ≡ z ∷ filter (ties lt y) zs = sym (first_kept y ys) ∙ h ∙
      first_tied y z zs t in
      cc

  pub one_order : (ys zs : List X) → Ascends lt ys → Ascends lt zs →
      ((x : X) → filter (ties lt x) ys ≡ filter (ties lt x) zs) → ys ≡ zs
  one_order [] [] up vp f = refl
  one_order [] (z ∷ zs) up vp f =
      let no : [] ≡ z ∷ filter (ties lt z) zs = f z ∙ first_kept z zs in absurd (cc)
  one_order (y ∷ ys) [] up vp f =
      let no : [] ≡ y ∷ filter (ties lt y) ys = sym (f y) ∙ first_kept y ys in absurd (cc)
  one_order (y ∷ ys) (z ∷ zs) up vp f =
      let yz = among y z y (z ∷ zs) (filter (ties lt y) ys) (not_itself z, vp.0)
      (sym (f y) ∙ first_kept y ys) in
      let zy = among z y z (y ∷ ys) (filter (ties lt z) zs) (not_itself y, up.0)
      (f z ∙ first_kept z zs) in
      let e = same_first y z ys zs (tied y z yz zy) (f y) in
      let rest = one_order ys zs up.1 vp.1
      (λ x. rest_by y (filter (ties lt x) ys) (filter (ties lt x) zs) (ties lt x y)
      (f x ∙ ap (λ w. cond (ties lt x w) (w ∷ filter (ties lt x) zs) (filter (ties lt x) zs))
      (sym e))) in
      cc

  abbrev Far : List X → Type 0
  Far xs = (i j : ℕ) (d : X) → i ≤ j → j < length xs → lt (get_or xs j d) (get_or xs i d) ≡ false

  far_tail : (x : X) (xs : List X) → Far (x ∷ xs) → Far xs
  far_tail x xs far i j d l h = far (suc i) (suc j) d (omega arith) (omega arith)

  none_far : (x : X) (ys : List X) → ((j : ℕ) → j < length ys → lt (get_or ys j x) x ≡ false) →
      NoneBelow lt x ys
  none_far x [] at = tt
  none_far x (y ∷ ys) at = (at 0 (omega arith), none_far x ys (λ j h. at (suc j) (omega arith)))

  ascends_far : (xs : List X) → Far xs → Ascends lt xs
  ascends_far [] far = tt
  ascends_far (x ∷ xs) far = (
    none_far x xs (λ j h. far 0 (suc j) x (omega arith) (omega arith)),
    ascends_far xs (far_tail x xs far),
  )

  pub sorted_is : (xs ys : List X) → IsSortedBy lt ys → IsStableBy lt xs ys → ys ≡ sort_by lt xs
  sorted_is xs ys up stable =
      one_order ys (sort_by lt xs) (ascends_far ys (λ i j d l h. sorted_far lt o ys up i j d l h))
      (sort_ascends xs)
      (λ x. stable x ∙ sym (sort_keeps x xs))
