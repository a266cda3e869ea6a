-- A channel that nothing puts off has less left behind a turn, or as much; one that was asked
-- something has less.
use Rattle.std.proofs.Common.{◌≡◌, ◌≤◌, ◌<◌, ◌+◌, ◌⊎◌, inl, inr, ℕ, Bool, true, false, IsTrue}
use Rattle.std.proofs.Common.{refl, ap, sym, ◌∙◌, arith, length, nat_lt, nat_le, ◌&&◌, ◌||◌}
use Rattle.std.specs.Prelude.{is_none, is_some}
use Rattle.channel.specs.Views.{Heard, LinkGoes, Moves, Spoke, Steps, Stirs, View}
use Rattle.channel.specs.Views.{is_done, is_readable, is_working, is_writable, want_of}
use Rattle.channel.specs.declared.types.Window.{Window}
use Rattle.outside.specs.Causes.{Rose}
use Rattle.outside.specs.Net.{asked_of}
use Rattle.outside.specs.declared.types.Want.{Want}
use Rattle.poll_loop.specs.NoIdle.{Serves}
use Rattle.rehearse.specs.Falling.{Flows, arrived, units_left}

-- what a channel has left; the bytes that arrived rise
pub record Left : Type 0 where
  pub arrived : ℕ
  pub units : ℕ
  pub steps : ℕ
  pub output : ℕ

abbrev pub left_of : View → Left
left_of v = record {
  arrived = arrived v;
  units = units_left v;
  steps = v.shown.left;
  output =
      v.shown.output;
}

abbrev pub plus : Left → Left → Left
plus a b = record {
  arrived = a.arrived + b.arrived;
  units = a.units + b.units;
  steps = a.steps + b.steps;
  output = a.output + b.output;
}

-- more arrived, or as much arrived and fewer units are left, and so on
abbrev pub IsLess : Left → Left → Type 0
IsLess new old = (old.arrived < new.arrived) ⊎ ((new.arrived ≡ old.arrived) ×
    ((new.units < old.units)
    ⊎ ((new.units ≡ old.units) × ((new.steps < old.steps) ⊎ ((new.steps ≡ old.steps) ×
    (new.output < old.output))))))

abbrev pub IsAtMost : Left → Left → Type 0
IsAtMost new old = IsLess new old
    ⊎ ((new.arrived ≡ old.arrived) × (new.units ≡ old.units) × (new.steps ≡ old.steps) ×
    (new.output ≡ old.output))

pub less_plus : (a b c d : Left) → IsLess a b → IsAtMost c d → IsLess (plus a c) (plus b d)
less_plus a b c d h k = grind (arith, h, k)

pub equal_or_less : (a b : ℕ) → a ≤ b → (b ≡ a) ⊎ (a < b)
equal_or_less a b h = grind (arith, h)

unfed : (p q a b : ℕ) → (p < q → a < b) → b ≡ a → q ≤ p
unfed p q a b f e = grind (arith, f, e)

-- as much arrived, so no unit was put; a unit that began or was answered leaves fewer
record SameArrivals (old new : View) : Type 0 where
  fewer : units_left new ≤ units_left old
  begun : units_left new ≡ units_left old → new.shown.begun ≡ old.shown.begun
  answered : units_left new ≡ units_left old → new.shown.answered ≡ old.shown.answered

same_arrivals : (old new : View) → Moves old.shown new.shown → LinkGoes old new →
    arrived new ≡ arrived old → SameArrivals old new
same_arrivals old new m g same =
    let put : new.shown.put ≤ old.shown.put =
    unfed old.shown.put new.shown.put (arrived old) (arrived new) g.fed same in
    let u = m.units in
    let b = m.begun in
    let a = m.answered in
    record {
      fewer = omega (arith, put, u, b, a);
      begun = λ k. omega (arith, put, u, b, a, k);
      answered = λ k. omega (arith, put, u, b, a, k);
    }

outputs : (old new : View) → LinkGoes old new → new.shown.begun ≡ old.shown.begun →
    new.shown.answered ≡ old.shown.answered →
    new.shown.left ≡ old.shown.left → new.shown.output ≤ old.shown.output
outputs old new g b a l =
    let le : old.shown.left ≤ new.shown.left = omega (arith, l) in
    let o = g.bytes b a le in
    let s = g.sent in
    omega (arith, o, s)

pub less_or_same : (old new : View) → Moves old.shown new.shown → LinkGoes old new →
    IsAtMost (left_of new) (left_of old)
less_or_same old new m g = elim (equal_or_less (arrived old) (arrived new) g.came) [
  | inr h ↦ inl (inl h)
  | inl same ↦ (
      let s = same_arrivals old new m g same in
      elim (equal_or_less (units_left new) (units_left old) s.fewer) [
        | inr h ↦ inl (inr (same, inl h))
        | inl units ↦ (
            let b = s.begun (sym units) in
            let a = s.answered (sym units) in
            elim (equal_or_less new.shown.left old.shown.left (m.left b)) [
              | inr h ↦ inl (inr (same, inr (sym units, inl h)))
              | inl left ↦ elim (equal_or_less new.shown.output old.shown.output
                  (outputs old new g b a (sym left))) [
                    | inr h ↦ inl (inr (same, inr (sym units, inr (sym left, h))))
                    | inl output ↦ inr (same, sym units, sym left, sym output)
                  ]
            ])
      ])
]

-- something came or was taken, or a step was made
abbrev pub IsActive : View → View → Type 0
IsActive old new = (arrived old < arrived new) ⊎
    ((length old.link.sent < length new.link.sent) ⊎ Steps old.shown new.shown)

still : (old new : View) → LinkGoes old new → IsActive old new → new.shown.begun ≡ old.shown.begun →
    new.shown.answered ≡ old.shown.answered →
    arrived new ≡ arrived old → new.shown.left ≡ old.shown.left →
    new.shown.output ≡ old.shown.output → ⊥
still old new g active b a arrivals left output =
    let le : old.shown.left ≤ new.shown.left = omega (arith, left) in
    let o = g.bytes b a le in
    elim active [
      | inl h ↦ omega (arith, h, arrivals)
      | inr q ↦ elim q [
        | inl h ↦ omega (arith, h, o, output)
        | inr s ↦ elim s [
          | inl h ↦ omega (arith, h, b)
          | inr t ↦ elim t [
            | inl h ↦ omega (arith, h, a)
            | inr h ↦ omega (arith, h, left)
          ]
        ]
      ]
    ]

-- a channel that was active has less left
pub less_by : (old new : View) → Moves old.shown new.shown → LinkGoes old new → IsActive old new →
    IsLess (left_of new) (left_of old)
less_by old new m g active = elim (less_or_same old new m g) [
  | inl h ↦ h
  | inr k ↦ absurd (
      let s = same_arrivals old new m g k.0 in
      still old new g active (s.begun k.1) (s.answered k.1) k.0 k.2 k.3)
]

-- ---- what a turn does to a channel that nothing puts off

unfaulty : (a b : ℕ) → a ≡ 0 → b ≡ a → Rose a b → ⊥
unfaulty a b e k r = grind (arith, e, k, r)

more_came : (w : Window) (old new : View) → IsTrue (is_readable w old.shown) → Heard old new →
    Flows w old new → new.faults ≡ old.faults → arrived old < arrived new
more_came w old new readable h f same = elim h.1 [
  | inl p ↦ f.recv readable p
  | inr q ↦ elim q [
    | inl r ↦ absurd (unfaulty old.faults new.faults f.faultless same r)
    | inr s ↦ elim s [
      | inl l ↦ l
      | inr e ↦ absurd (ends new.link.ended f.goes_on e)
    ]
  ]
]
  where
    ends : (b : Bool) → b ≡ false → IsTrue b → ⊥
    ends true e h = cc
    ends false e h = cc

more_sent : (w : Window) (old new : View) → Spoke old new → Flows w old new →
    new.faults ≡ old.faults → length old.link.sent < length new.link.sent
more_sent w old new h f same = elim h.1 [
  | inl p ↦ absurd (f.send p)
  | inr q ↦ elim q [
    | inl r ↦ absurd (unfaulty old.faults new.faults f.faultless same r)
    | inr l ↦ l
  ]
]

works_by : (readable writable working dead over : Bool) → readable ≡ false → writable ≡ false →
    dead ≡ false → over ≡ false →
    IsTrue (readable || (writable || (working || (dead || over)))) → working ≡ true
works_by false false true false false a b c d h = refl
works_by false false false false false a b c d h = cc
works_by true writable working dead over a b c d h = cc
works_by false true working dead over a b c d h = cc
works_by false false working true over a b c d h = cc
works_by false false working false true a b c d h = cc

small : (output mark : ℕ) → nat_lt 0 output ≡ false → nat_le output mark ≡ true
small output mark h = grind (arith, h)

due_by : (alive working few : Bool) → alive ≡ true → working ≡ true → few ≡ true →
    IsTrue (alive && working && few)
due_by true true true a b c = refl
due_by false working few a b c = cc
due_by true false few a b c = cc
due_by true true false a b c = cc

pub active : (now : ℕ) (w : Window) (ready : Want) (old new : View) →
    asked_of ready ≡ want_of w old → Stirs w old.shown →
    ready.may_read ≡ ready.read → ready.may_write ≡ ready.write → Serves now w ready old new →
    Flows w old new → IsActive old new
active now w ready old new asks stirs may_read may_write s f =
    by (is_readable w old.shown) (is_writable old.shown) refl refl
  where
    reads : ready.read ≡ is_readable w old.shown
    reads = ap (λ a. a.1) asks

    writes : ready.write ≡ is_writable old.shown
    writes = ap (λ a. a.2) asks

    by : (r x : Bool) → is_readable w old.shown ≡ r → is_writable old.shown ≡ x → IsActive old new
    by true x e k = inl (more_came w old new e (s.heard (reads ∙ e) (may_read ∙ (reads ∙ e))) f
        s.faultless)
    by false true e k = inr (inl (more_sent w old new
        (s.spoke (writes ∙ k) (may_write ∙ (writes ∙ k))) f s.faultless))
    by false false e k =
        let working : is_working old.shown ≡ true =
        works_by (is_readable w old.shown) (is_writable old.shown) (is_working old.shown)
        (is_some old.shown.dead) (is_done old.shown) e k (ap is_some s.was_alive) s.was_undone
        stirs in
        let alive : is_none old.shown.dead ≡ true = ap is_none s.was_alive in
        inr (inr (s.stepped (due_by (is_none old.shown.dead) (is_working old.shown)
        (nat_le old.shown.output w.high_watermark) alive working
        (small old.shown.output w.high_watermark k))))
