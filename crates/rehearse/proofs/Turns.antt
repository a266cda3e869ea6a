-- A turn that nothing puts off makes the six numbers fall.
use Rattle.std.proofs.Common.{◌≡◌, ◌≤◌, ◌<◌, ◌-◌, ◌⊎◌, inl, inr, ℕ, List, [], ◌∷◌, ◌++◌, refl}
use Rattle.std.proofs.Common.{ap, sym, subst, ◌∙◌, arith, length, map, append-nil}
use Rattle.std.specs.Prelude.{Option, None, Some, IfSome}
use Rattle.channel.specs.Views.{View}
use Rattle.channel.specs.declared.types.Window.{Window}
use Rattle.outside.specs.Net.{NetState}
use Rattle.poll_loop.specs.Lists.{EachIs}
use Rattle.poll_loop.specs.NoIdle.{Asks, Case, Serves, Serving, kept, views, with_kept}
use Rattle.poll_loop.specs.Seat.{Eyes}
use Rattle.rehearse.specs.Falling.{Falls, Flows, IsFree, TurnsFall, arrived, measure}
use Rattle.rehearse.specs.Falling.{sum_of, units_left}
use Rattle.rehearse.proofs.Channels.{IsAtMost, IsLess, Left, active, left_of, less_by, less_plus}

-- what some channels have left together
abbrev total : List View → Left
total vs = record {
  arrived = sum_of arrived vs;
  units = sum_of units_left vs;
  steps = sum_of (λ v. v.shown.left) vs;
  output = sum_of (λ v. v.shown.output) vs;
}

-- fewer channels, or as many and this
abbrev FewerOr : List View → List View → Type 0 → Type 0
FewerOr news olds P = (length news < length olds) ⊎ ((length news ≡ length olds) × P)

more_then : (news olds : List View) (v : View) → length news < length olds →
    length news < length (v ∷ olds)
more_then news olds v h = omega (arith, h)

one_more : (news olds : List View) (v : View) → length news ≡ length olds →
    length news < length (v ∷ olds)
one_more news olds v h = omega (arith, h)

both_more : (news olds : List View) (u v : View) → length news < length olds →
    length (u ∷ news) < length (v ∷ olds)
both_more news olds u v h = omega (arith, h)

as_many : (news olds : List View) (u v : View) → length news ≡ length olds →
    length (u ∷ news) ≡ length (v ∷ olds)
as_many news olds u v h = omega (arith, h)

weaker : (news olds : List View) → FewerOr news olds (IsLess (total news) (total olds)) →
    FewerOr news olds (IsAtMost (total news) (total olds))
weaker news olds h = elim h [ inl l ↦ inl l | inr e ↦ inr (e.0, inl e.1) ]

module _ (now : ℕ) (w : Window) where
  one_case : (c : Case) (n : Option View) (news olds : List View) → c.new ≡ n → Asks now w c →
      IsFree w c →
      FewerOr news olds (IsAtMost (total news) (total olds)) →
      FewerOr (with_kept n news) (c.old ∷ olds)
      (IsLess (total (with_kept n news)) (total (c.old ∷ olds)))
  one_case c None news olds e asks free h = elim h [
    | inl l ↦ inl (more_then news olds c.old l)
    | inr k ↦ inl (one_more news olds c.old k.0)
  ]
  one_case c (Some new) news olds e asks free h =
      let s : Serves now w c.ready c.old new =
      subst (λ o. IfSome o (λ v. Serves now w c.ready c.old v)) e asks.serves in
      let f : Flows w c.old new = subst (λ o. IfSome o (λ v. Flows w c.old v)) e free.flows in
      let a = active now w c.ready c.old new asks.wants asks.stirs free.read free.write s f in
      elim h [
        | inl l ↦ inl (both_more news olds new c.old l)
        | inr k ↦ inr (
          as_many news olds new c.old k.0,
          less_plus (left_of new) (left_of c.old)
              (total news) (total olds) (less_by c.old new s.moves s.goes a) k.1,
        )
      ]

  all_cases : (cs : List Case) → EachIs (Asks now w) cs → EachIs (IsFree w) cs →
      FewerOr (kept cs) (map (λ c. c.old) cs)
      (IsAtMost (total (kept cs)) (total (map (λ c. c.old) cs)))
  all_cases [] a f = inr (refl, inr (refl, refl, refl, refl))
  all_cases (c ∷ cs) a f = weaker (kept (c ∷ cs)) (map (λ c. c.old) (c ∷ cs))
      (one_case c c.new (kept cs) (map (λ c. c.old) cs) refl a.0 f.0 (all_cases cs a.1 f.1))

  -- one is open at least
  some_case : (cs : List Case) → 0 < length cs → EachIs (Asks now w) cs → EachIs (IsFree w) cs →
      FewerOr (kept cs) (map (λ c. c.old) cs)
      (IsLess (total (kept cs)) (total (map (λ c. c.old) cs)))
  some_case [] h a f = absurd (let h' : 0 < 0 = h in omega (arith, h'))
  some_case (c ∷ cs) h a f = one_case c c.new (kept cs) (map (λ c. c.old) cs) refl a.0 f.0
      (all_cases cs a.1 f.1)

empty : {X : Type 0} (xs : List X) → length xs ≤ 0 → xs ≡ []
empty [] h = refl
empty (x ∷ xs) h = absurd (grind (arith, h))

length_map : (cs : List Case) → length (map (λ c. c.old) cs) ≡ length cs
length_map [] = refl
length_map (c ∷ cs) = let e = length_map cs in grind (arith, e)

less_unread : (whole whole' a b : ℕ) → whole' ≡ whole → a < b → b ≤ whole' → whole' - b < whole - a
less_unread whole whole' a b same h k = omega (arith, same, h, k)

-- with as many comers left
same_waiting : (waiting waiting' whole whole' : ℕ) (news olds : List View) → waiting' ≡ waiting →
    (length news ≡ length olds → whole' ≡ whole) → sum_of arrived news ≤ whole' →
    FewerOr news olds (IsLess (total news) (total olds)) →
    Falls (measure waiting' whole' news) (measure waiting whole olds)
same_waiting waiting waiting' whole whole' news olds same whole_same bound h =
    inr (
      same,
      elim h [
        | inl l ↦ inl l
        | inr e ↦ inr (
          e.0,
          (
              let g : whole' ≡ whole = whole_same e.0 in
              elim e.1 [
                | inl more ↦ inl (less_unread whole whole' (sum_of arrived olds)
                    (sum_of arrived news) g more bound)
                | inr k ↦ inr (ap (λ n. n - sum_of arrived news) g ∙ ap (λ n. whole - n) k.0, k.1)
              ]),
        )
      ],
    )

pub turns_fall : {L P A R : Type 0} (e : Eyes L P) (before now : Serving L A R) (nobody : Type 0)
    (old new : NetState L P) → TurnsFall e before now nobody old new
turns_fall e before now nobody old new n waiting waiting' whole whole' f =
    elim (none_or (length n.since)) [
      | inr h ↦ (let comers = f.comers in inl (omega (arith, comers, h)))
      | inl none ↦ (
          let comers = f.comers in
          let same : waiting' ≡ waiting = omega (arith, comers, none) in
          let few = n.few in
          let none_came : n.came ≡ [] = empty n.came (omega (arith, few, none)) in
          let open_now : views e now ≡ kept n.cases =
          n.are ∙ (ap (λ xs. kept n.cases ++ xs) none_came ∙ append-nil (kept n.cases)) in
          let m = length_map n.cases in
          let l : length (map (λ c. c.old) n.cases) ≡ length (views e before) = ap length n.were in
          let s = f.some same in
          let one : 0 < length n.cases = omega (arith, m, l, s) in
          let less = some_case n.poll.turn.now before.settings.window n.cases one n.each f.free in
          let less' : FewerOr (views e now) (views e before)
          (IsLess (total (views e now)) (total (views e before))) =
          subst (λ xs. FewerOr xs (views e before) (IsLess (total xs) (total (views e before))))
          (sym open_now)
          (subst (λ xs. FewerOr (kept n.cases) xs (IsLess (total (kept n.cases)) (total xs))) n.were
          less) in
          same_waiting waiting waiting' whole whole' (views e now) (views e before) same
          (f.kept same) f.bound less')
    ]
  where
    none_or : (k : ℕ) → (k ≡ 0) ⊎ (0 < k)
    none_or k = grind (arith)
