-- What a call does, by what its recv or send came to and how the call concluded.
use Rattle.std.proofs.Common.{◌≡◌, ◌≤◌, ◌<◌, ◌+◌, ℕ, Bool, true, false, IsTrue, List, [], ◌++◌}
use Rattle.std.proofs.Common.{length, Option, Some, None, refl, sym, ap, subst, ◌∙◌, arith}
use Rattle.std.proofs.Common.{append-nil, length-append, IsSome, inl, inr, true≢false, ltb-true}
use Rattle.std.proofs.Common.{ltb-false, eqb-true}
use Rattle.std.specs.Prelude.{◌||◌, ◌&&◌, ◌⊎◌, not, is_some, is_none, nat_lt, nat_le, nat_eq}
use Rattle.std.proofs.lemmas.List.{length-map}
use Rattle.outside.specs.Causes.{Rose, raised}
use Rattle.outside.specs.Link.{LinkState, stamped}
use Rattle.outside.specs.declared.types.End.{End}
use Rattle.outside.specs.declared.types.End.TheVariants as over
use Rattle.channel.specs.Happening.{CheckCalls, Concludes, DrainCalls, FaultsBy, Gives}
use Rattle.channel.specs.Happening.{HearsSome, IfAsked, LinkHeard, LinkSaid, ReadCalls, SaysSome}
use Rattle.channel.specs.Happening.{ShowsHeard, ShowsSaid, Takes, as_acted, dies_at, end_of}
use Rattle.channel.specs.Happening.{over_or}
use Rattle.channel.specs.Views.{Calls, CheckCause, Checks, DrainCause, Drains, Heard, IsOver}
use Rattle.channel.specs.Views.{LinkGoes}
use Rattle.channel.specs.Views.{MakesNoStep, Moves, ReadCause, Reads, Shown, Spoke, Stamps}
use Rattle.channel.specs.Views.{StaysDead, StaysOpen, UnlessOver, View, current_of, is_done, is_due}
use Rattle.channel.specs.Views.{is_late, is_readable, is_working, is_writable, over_by, over_of}
use Rattle.channel.specs.Views.{units_of}
use Rattle.channel.specs.declared.near.Moved.{Moved}
use Rattle.channel.specs.declared.near.Moved.TheVariants as moved
use Rattle.channel.specs.declared.types.Acted.{Acted}
use Rattle.channel.specs.declared.types.Acted.TheVariants as acted
use Rattle.channel.specs.declared.types.Window.{Window}

-- ---- plain facts

pub over_is : (o : Option End) (what : Moved) (act : Acted) → act ≡ over_or o what → IsOver act o
over_is o what act e = subst (λ (a : Acted). IsOver a o) (sym e) (by o what)
  where
    by : (o : Option End) (what : Moved) → IsOver (over_or o what) o
    by (Some end) what = refl
    by None moved.Idle = refl
    by None moved.PutOff = refl
    by None moved.Got = refl
    by None moved.Ended = refl
    by None moved.Took = refl
    by None moved.Failed = refl
    by None moved.Broke = refl
    by None moved.NoMemory = refl

unless_over : (P : Type 0) (act : Acted) (o : Option End) → IsOver act o → (o ≡ None → P) →
    UnlessOver act P
unless_over P (acted.Over end) o is p = tt
unless_over P acted.Did o is p = p is
unless_over P acted.Held o is p = absurd is
unless_over P acted.Nothing o is p = p is

-- over by the end that it met, or because all is done
over_so : (P : End → Type 0) (dead : Option End) (done : Bool) (end : End) →
    over_by dead done ≡ Some end → (dead ≡ Some end → P end) → P over.Done → P end
over_so P (Some x) done end e met at_done = met e
over_so P None true end e met at_done = let is : over.Done ≡ end = cc in subst P is at_done
over_so P None false end e met at_done = cc

-- what is as another channel has made as few steps as that one
same_steps : (o m n : Shown) → n ≡ m → m.begun ≡ o.begun → m.answered ≡ o.answered →
    m.left ≡ o.left → MakesNoStep o n
same_steps o m n e begun answered left = record {
  begun = ap (λ (s : Shown). s.begun) e ∙ begun;
  answered = ap (λ (s : Shown). s.answered) e ∙ answered;
  left = ap (λ (s : Shown). s.left) e ∙ left;
}

and_first : (a b : Bool) → (a && b) ≡ true → a ≡ true
and_first true b e = refl
and_first false b e = cc

no_some : {X : Type 0} (o : Option X) → o ≡ None → IsSome o → ⊥
no_some None e f = cc
no_some (Some x) e f = cc

is_alive : (dead : Option End) (done : Bool) → over_by dead done ≡ None →
    (dead ≡ None) × (done ≡ false)
is_alive (Some x) done e = cc
is_alive None true e = cc
is_alive None false e = (refl, refl)

raised_le : (n : ℕ) → n ≤ raised n
raised_le n = grind arith

rose_le : (n m : ℕ) → Rose n m → n ≤ m
rose_le n m r = omega (arith, r, raised_le n)

faults_le : (m : Moved) (old new : ℕ) → FaultsBy m old new → old ≤ new
faults_le moved.Idle old new e = omega (arith, e)
faults_le moved.PutOff old new e = omega (arith, e)
faults_le moved.Got old new e = omega (arith, e)
faults_le moved.Ended old new e = omega (arith, e)
faults_le moved.Took old new e = omega (arith, e)
faults_le moved.Failed old new e = rose_le old new e
faults_le moved.Broke old new e = omega (arith, e)
faults_le moved.NoMemory old new e = omega (arith, e)

faultless : (m : Moved) (old new : ℕ) → FaultsBy m old new → end_of m ≡ None → new ≡ old
faultless moved.Idle old new e n = e
faultless moved.PutOff old new e n = e
faultless moved.Got old new e n = e
faultless moved.Ended old new e n = e
faultless moved.Took old new e n = e
faultless moved.Failed old new e n = cc
faultless moved.Broke old new e n = e
faultless moved.NoMemory old new e n = e

-- ---- whether the link was asked

or_else : (a b : Bool) → (a || not b) ≡ true → a ≡ false → b ≡ false
or_else true b e f = cc
or_else false true e f = cc
or_else false false e f = refl

none_is : {X : Type 0} (o : Option X) → o ≡ None → is_some o ≡ false
none_is o e = ap is_some e

unasked : (ask : Bool) (m : Moved) (dead : Option End) → IfAsked ask m dead → IsSome dead →
    m ≡ moved.Idle
unasked ask moved.Idle dead p d = refl
unasked ask moved.PutOff dead p d = absurd (no_some dead p.0 d)
unasked ask moved.Got dead p d = absurd (no_some dead p.0 d)
unasked ask moved.Ended dead p d = absurd (no_some dead p.0 d)
unasked ask moved.Took dead p d = absurd (no_some dead p.0 d)
unasked ask moved.Failed dead p d = absurd (no_some dead p.0 d)
unasked ask moved.Broke dead p d = absurd (no_some dead p.0 d)
unasked ask moved.NoMemory dead p d = absurd (no_some dead p.0 d)

-- of a channel that isn't dead: it was asked, or it was not to be asked
asked_or : (ask : Bool) (m : Moved) (dead : Option End) → IfAsked ask m dead → dead ≡ None →
    (IsTrue ask × (m ≡ moved.Idle → ⊥)) ⊎ ((ask ≡ false) × (m ≡ moved.Idle))
asked_or ask moved.Idle dead p d = inr (or_else (is_some dead) ask p (none_is dead d), refl)
asked_or ask moved.PutOff dead p d = inl (p.1, λ e. cc)
asked_or ask moved.Got dead p d = inl (p.1, λ e. cc)
asked_or ask moved.Ended dead p d = inl (p.1, λ e. cc)
asked_or ask moved.Took dead p d = inl (p.1, λ e. cc)
asked_or ask moved.Failed dead p d = inl (p.1, λ e. cc)
asked_or ask moved.Broke dead p d = inl (p.1, λ e. cc)
asked_or ask moved.NoMemory dead p d = inl (p.1, λ e. cc)

-- ---- what is shown

-- units were put and ready, the output is no longer, and what else no step changes
moves_at : (old : Shown) (p y o : ℕ) (f n : Bool) (t : ℕ) (d : Option End) →
    p + old.ready ≡ old.put + y → old.ready ≤ y → o ≤ old.output →
    (IsSome old.dead → d ≡ old.dead) →
    Moves old (record old {
      put = p;
      ready = y;
      output = o;
      finished = f;
      ended = n;
      touched = t;
      dead = d;
    })
moves_at old p y o f n t d counted grown less dead = record {
  put = omega (arith, counted, grown);
  begun = omega arith;
  answered = omega arith;
  units = omega (arith, counted, grown);
  left = λ e. omega arith;
  output = λ a b c. less;
  dead = dead;
}

moves_same : (s : Shown) (o : ℕ) (d : Option End) → o ≤ s.output → (IsSome s.dead → d ≡ s.dead) →
    Moves s (record s { output = o; dead = d })
moves_same s o d less dead = moves_at s s.put s.ready o s.finished s.ended s.touched d refl
    (omega arith) less dead

no_death : (dead : Option End) (d : Option End) → dead ≡ None → IsSome dead → d ≡ dead
no_death dead d e f = absurd (no_some dead e f)

moves_heard : (now : ℕ) (ask : Bool) (m : Moved) (old new : Shown) → IfAsked ask m old.dead →
    ShowsHeard now m old new → Moves old new
moves_heard now ask moved.Idle old new p e = subst (λ (s : Shown). Moves old s) (sym e)
    (moves_same old old.output old.dead (omega arith) (λ d. refl))
moves_heard now ask moved.PutOff old new p e = subst (λ (s : Shown). Moves old s) (sym e)
    (moves_same old old.output old.dead (omega arith) (λ d. refl))
moves_heard now ask moved.Got old new p e = subst (λ (s : Shown). Moves old s) (sym e.shown)
    (moves_at old new.put new.ready old.output new.finished old.ended now old.dead e.counted e.grown
    (omega arith) (λ d. refl))
moves_heard now ask moved.Ended old new p e = subst (λ (s : Shown). Moves old s) (sym e)
    (moves_at old old.put old.ready old.output old.finished true old.touched old.dead refl
    (omega arith) (omega arith) (λ d. refl))
moves_heard now ask moved.Took old new p e = absurd e
moves_heard now ask moved.Failed old new p e = subst (λ (s : Shown). Moves old s) (sym e)
    (moves_same old old.output (Some over.LinkFault) (omega arith)
    (no_death old.dead (Some over.LinkFault) p.0))
moves_heard now ask moved.Broke old new p e = subst (λ (s : Shown). Moves old s) (sym e)
    (moves_at old old.put old.ready old.output new.finished old.ended now
    (Some over.SpillFault) refl (omega arith) (omega arith)
    (no_death old.dead (Some over.SpillFault) p.0))
moves_heard now ask moved.NoMemory old new p e = subst (λ (s : Shown). Moves old s) (sym e)
    (moves_at old old.put old.ready old.output new.finished old.ended now (Some over.NoMemory) refl
    (omega arith) (omega arith) (no_death old.dead (Some over.NoMemory) p.0))

moves_said : (now : ℕ) (ask : Bool) (m : Moved) (old new : Shown) → IfAsked ask m old.dead →
    ShowsSaid now m old new → Moves old new
moves_said now ask moved.Idle old new p e = subst (λ (s : Shown). Moves old s) (sym e)
    (moves_same old old.output old.dead (omega arith) (λ d. refl))
moves_said now ask moved.PutOff old new p e = subst (λ (s : Shown). Moves old s) (sym e)
    (moves_same old old.output old.dead (omega arith) (λ d. refl))
moves_said now ask moved.Got old new p e = absurd e
moves_said now ask moved.Ended old new p e = absurd e
moves_said now ask moved.Took old new p e = subst (λ (s : Shown). Moves old s) (sym e.shown)
    (moves_at old old.put old.ready new.output old.finished old.ended now old.dead refl
    (omega arith) (omega (arith, e.less)) (λ d. refl))
moves_said now ask moved.Failed old new p e = subst (λ (s : Shown). Moves old s) (sym e)
    (moves_same old old.output (Some over.LinkFault) (omega arith)
    (no_death old.dead (Some over.LinkFault) p.0))
moves_said now ask moved.Broke old new p e = subst (λ (s : Shown). Moves old s) (sym e.shown)
    (moves_same old new.output (Some over.SpillFault) e.less
    (no_death old.dead (Some over.SpillFault) p.0))
moves_said now ask moved.NoMemory old new p e = absurd e

-- behind a conclusion
moves_on : (old mid new : View) → Moves old.shown mid.shown → Concludes mid new →
    Moves old.shown new.shown
moves_on old mid new moves c = subst (λ (v : View). Moves old.shown v.shown) (sym c.same) (record {
  put = moves.put;
  begun = moves.begun;
  answered = moves.answered;
  units = moves.units;
  left = moves.left;
  output = λ a b d. omega (arith, moves.output a b d, c.less);
  dead = moves.dead;
})

-- which end it brings
dead_heard : (now : ℕ) (m : Moved) (old new : Shown) → ShowsHeard now m old new → old.dead ≡ None →
    new.dead ≡ end_of m
dead_heard now moved.Idle old new e d = ap (λ (s : Shown). s.dead) e ∙ d
dead_heard now moved.PutOff old new e d = ap (λ (s : Shown). s.dead) e ∙ d
dead_heard now moved.Got old new e d = ap (λ (s : Shown). s.dead) e.shown ∙ d
dead_heard now moved.Ended old new e d = ap (λ (s : Shown). s.dead) e ∙ d
dead_heard now moved.Took old new e d = absurd e
dead_heard now moved.Failed old new e d = ap (λ (s : Shown). s.dead) e
dead_heard now moved.Broke old new e d = ap (λ (s : Shown). s.dead) e
dead_heard now moved.NoMemory old new e d = ap (λ (s : Shown). s.dead) e

dead_said : (now : ℕ) (m : Moved) (old new : Shown) → ShowsSaid now m old new → old.dead ≡ None →
    new.dead ≡ end_of m
dead_said now moved.Idle old new e d = ap (λ (s : Shown). s.dead) e ∙ d
dead_said now moved.PutOff old new e d = ap (λ (s : Shown). s.dead) e ∙ d
dead_said now moved.Got old new e d = absurd e
dead_said now moved.Ended old new e d = absurd e
dead_said now moved.Took old new e d = ap (λ (s : Shown). s.dead) e.shown ∙ d
dead_said now moved.Failed old new e d = ap (λ (s : Shown). s.dead) e
dead_said now moved.Broke old new e d = ap (λ (s : Shown). s.dead) e.shown
dead_said now moved.NoMemory old new e d = absurd e

-- when it was touched
touched_heard : (now : ℕ) (m : Moved) (old new : Shown) → ShowsHeard now m old new →
    (new.touched ≡ old.touched) ⊎ (new.touched ≡ now)
touched_heard now moved.Idle old new e = inl (ap (λ (s : Shown). s.touched) e)
touched_heard now moved.PutOff old new e = inl (ap (λ (s : Shown). s.touched) e)
touched_heard now moved.Got old new e = inr (ap (λ (s : Shown). s.touched) e.shown)
touched_heard now moved.Ended old new e = inl (ap (λ (s : Shown). s.touched) e)
touched_heard now moved.Took old new e = absurd e
touched_heard now moved.Failed old new e = inl (ap (λ (s : Shown). s.touched) e)
touched_heard now moved.Broke old new e = inr (ap (λ (s : Shown). s.touched) e)
touched_heard now moved.NoMemory old new e = inr (ap (λ (s : Shown). s.touched) e)

touched_said : (now : ℕ) (m : Moved) (old new : Shown) → ShowsSaid now m old new →
    (new.touched ≡ old.touched) ⊎ (new.touched ≡ now)
touched_said now moved.Idle old new e = inl (ap (λ (s : Shown). s.touched) e)
touched_said now moved.PutOff old new e = inl (ap (λ (s : Shown). s.touched) e)
touched_said now moved.Got old new e = absurd e
touched_said now moved.Ended old new e = absurd e
touched_said now moved.Took old new e = inr (ap (λ (s : Shown). s.touched) e.shown)
touched_said now moved.Failed old new e = inl (ap (λ (s : Shown). s.touched) e)
touched_said now moved.Broke old new e = inl (ap (λ (s : Shown). s.touched) e.shown)
touched_said now moved.NoMemory old new e = absurd e

touched_on : (now : ℕ) (old : Shown) (mid new : View) → (mid.shown.touched ≡ old.touched)
    ⊎ (mid.shown.touched ≡ now) → Concludes mid new → (new.shown.touched ≡ old.touched)
    ⊎ (new.shown.touched ≡ now)
touched_on now old mid new (inl e) c = inl (ap (λ (v : View). v.shown.touched) c.same ∙ e)
touched_on now old mid new (inr e) c = inr (ap (λ (v : View). v.shown.touched) c.same ∙ e)

-- a link that failed is told of first
link_goes_first : (m : Moved) (act : Acted) (old mid new : View) →
    FaultsBy m old.faults mid.faults → Concludes mid new →
    (m ≡ moved.Failed → mid.shown.dead ≡ Some over.LinkFault) →
    act ≡ over_or (over_of new.shown) m →
    (new.faults ≡ old.faults) ⊎ (act ≡ acted.Over over.LinkFault)
link_goes_first m act old mid new f c failed is = by m f failed is
  where
    same_faults : new.faults ≡ mid.faults
    same_faults = ap (λ (v : View). v.faults) c.same

    by : (m : Moved) → FaultsBy m old.faults mid.faults →
        (m ≡ moved.Failed → mid.shown.dead ≡ Some over.LinkFault) →
        act ≡ over_or (over_of new.shown) m → (new.faults ≡ old.faults)
        ⊎ (act ≡ acted.Over over.LinkFault)
    by moved.Idle f failed is = inl (same_faults ∙ f)
    by moved.PutOff f failed is = inl (same_faults ∙ f)
    by moved.Got f failed is = inl (same_faults ∙ f)
    by moved.Ended f failed is = inl (same_faults ∙ f)
    by moved.Took f failed is = inl (same_faults ∙ f)
    by moved.Failed f failed is =
        inr (is ∙ ap (λ d. over_or (over_by d (is_done new.shown)) moved.Failed)
        (ap (λ (v : View). v.shown.dead) c.same ∙ failed refl))
    by moved.Broke f failed is = inl (same_faults ∙ f)
    by moved.NoMemory f failed is = inl (same_faults ∙ f)

failed_heard : (now : ℕ) (m : Moved) (old new : Shown) → ShowsHeard now m old new →
    m ≡ moved.Failed → new.dead ≡ Some over.LinkFault
failed_heard now m old new s e = let shown = subst (λ (x : Moved). ShowsHeard now x old new) e s in
    ap (λ (x : Shown). x.dead) shown

failed_said : (now : ℕ) (m : Moved) (old new : Shown) → ShowsSaid now m old new → m ≡ moved.Failed →
    new.dead ≡ Some over.LinkFault
failed_said now m old new s e = let shown = subst (λ (x : Moved). ShowsSaid now x old new) e s in
    ap (λ (x : Shown). x.dead) shown

-- ---- what the link tells

abbrev heard_link : LinkState → ℕ → List ℕ → Bool → ℕ → ℕ → ℕ → LinkState
heard_link old now bytes ended touched asked off = record old {
  arrivals = old.arrivals ++ stamped now bytes;
  ended = ended;
  touched = touched;
  asked = asked;
  recv_put_off = off;
}

-- what a told link did in a recv
record HeardAs (now : ℕ) (old new : LinkState) : Type 0 where
  bytes : List ℕ
  ended : Bool
  touched : ℕ
  asked : ℕ
  off : ℕ
  is : new ≡ heard_link old now bytes ended touched asked off
  ends : IsTrue old.ended → IsTrue ended
  moment : (touched ≡ old.touched) ⊎ (touched ≡ now)
  more_asked : old.asked ≤ asked
  more_off : old.recv_put_off ≤ off

same_arrivals : (old : LinkState) (ended : Bool) (asked off : ℕ) →
    record old { ended = ended; asked = asked; recv_put_off = off }
    ≡ heard_link old 0 [] ended old.touched asked off
same_arrivals old ended asked off = ap (λ (xs : List (ℕ × ℕ)). record old {
  arrivals = xs;
  ended =
      ended;
  asked = asked;
  recv_put_off = off;
}) (sym (append-nil old.arrivals))

heard_none : (now : ℕ) (old new : LinkState) (ended : Bool) (asked off : ℕ) →
    new ≡ record old { ended = ended; asked = asked; recv_put_off = off } →
    (IsTrue old.ended → IsTrue ended) → old.asked ≤ asked → old.recv_put_off ≤ off →
    HeardAs now old new
heard_none now old new ended asked off e ends a o = record {
  bytes = [];
  ended = ended;
  touched = old.touched;
  asked = asked;
  off = off;
  is = e ∙ same_arrivals old ended asked off;
  ends = ends;
  moment = inl refl;
  more_asked = a;
  more_off = o;
}

abbrev heard_some : (now : ℕ) (old new : LinkState) → Gives now old new → HeardAs now old new
heard_some now old new g = record {
  bytes = g.bytes;
  ended = old.ended;
  touched = now;
  asked = raised old.asked;
  off = old.recv_put_off;
  is = g.link;
  ends = λ e. e;
  moment = inr refl;
  more_asked = raised_le old.asked;
  more_off = omega arith;
}

heard_as : (now : ℕ) (m : Moved) (old new : LinkState) → LinkHeard now m old new →
    HeardAs now old new
heard_as now moved.Idle old new e = heard_none now old new old.ended old.asked old.recv_put_off e
    (λ x. x) (omega arith) (omega arith)
heard_as now moved.PutOff old new e = heard_none now old new old.ended (raised old.asked)
    (raised old.recv_put_off) e (λ x. x) (raised_le old.asked) (raised_le old.recv_put_off)
heard_as now moved.Got old new e = heard_some now old new e
heard_as now moved.Ended old new e = heard_none now old new true
    (raised old.asked) old.recv_put_off e (λ x. refl) (raised_le old.asked) (omega arith)
heard_as now moved.Took old new e = absurd e
heard_as now moved.Failed old new e = heard_none now old new old.ended
    (raised old.asked) old.recv_put_off e (λ x. x) (raised_le old.asked) (omega arith)
heard_as now moved.Broke old new e = heard_some now old new e
heard_as now moved.NoMemory old new e = heard_some now old new e

stamps_heard : (now : ℕ) (old new : LinkState) → HeardAs now old new → Stamps now old new
stamps_heard now old new h = record {
  bytes = h.bytes;
  arrivals = ap (λ (s : LinkState). s.arrivals) h.is;
  touched = by (ap (λ (s : LinkState). s.touched) h.is) h.moment;
}
  where
    by : {t : ℕ} → new.touched ≡ t → (t ≡ old.touched) ⊎ (t ≡ now) → (new.touched ≡ old.touched)
        ⊎ (new.touched ≡ now)
    by e (inl f) = inl (e ∙ f)
    by e (inr f) = inr (e ∙ f)

more_came : (now : ℕ) (old new : LinkState) (h : HeardAs now old new) → length new.arrivals
    ≡ length old.arrivals + length h.bytes
more_came now old new h = ap (λ (s : LinkState). length s.arrivals) h.is
    ∙ (length-append old.arrivals (stamped now h.bytes)
    ∙ ap (λ n. length old.arrivals + n) (length-map h.bytes (λ byte. (now, byte))))

-- units are put only where bytes came
fed_heard : (now : ℕ) (m : Moved) (old new : View) → ShowsHeard now m old.shown new.shown →
    LinkHeard now m old.link new.link → old.shown.put < new.shown.put →
    length old.link.arrivals < length new.link.arrivals
fed_heard now moved.Idle old new e l p = absurd (let same = ap (λ (s : Shown). s.put) e in
    omega (arith, same, p))
fed_heard now moved.PutOff old new e l p = absurd (let same = ap (λ (s : Shown). s.put) e in
    omega (arith, same, p))
fed_heard now moved.Got old new e l p =
    let more : length new.link.arrivals ≡ length old.link.arrivals + length l.bytes =
    more_came now old.link new.link (heard_some now old.link new.link l) in
    let some : 0 < length l.bytes = l.some in omega (arith, more, some)
fed_heard now moved.Ended old new e l p = absurd (let same = ap (λ (s : Shown). s.put) e in
    omega (arith, same, p))
fed_heard now moved.Took old new e l p = absurd e
fed_heard now moved.Failed old new e l p = absurd (let same = ap (λ (s : Shown). s.put) e in
    omega (arith, same, p))
fed_heard now moved.Broke old new e l p = absurd (let same = ap (λ (s : Shown). s.put) e in
    omega (arith, same, p))
fed_heard now moved.NoMemory old new e l p = absurd (let same = ap (λ (s : Shown). s.put) e in
    omega (arith, same, p))

output_heard : (now : ℕ) (m : Moved) (old new : Shown) → ShowsHeard now m old new →
    new.output ≡ old.output
output_heard now moved.Idle old new e = ap (λ (s : Shown). s.output) e
output_heard now moved.PutOff old new e = ap (λ (s : Shown). s.output) e
output_heard now moved.Got old new e = ap (λ (s : Shown). s.output) e.shown
output_heard now moved.Ended old new e = ap (λ (s : Shown). s.output) e
output_heard now moved.Took old new e = absurd e
output_heard now moved.Failed old new e = ap (λ (s : Shown). s.output) e
output_heard now moved.Broke old new e = ap (λ (s : Shown). s.output) e
output_heard now moved.NoMemory old new e = ap (λ (s : Shown). s.output) e

goes_heard : (now : ℕ) (m : Moved) (old new : View) → ShowsHeard now m old.shown new.shown →
    LinkHeard now m old.link new.link → LinkGoes old new
goes_heard now m old new e l =
    let h = heard_as now m old.link new.link l in
    let sent : length new.link.sent ≡ length old.link.sent =
    ap (λ (s : LinkState). length s.sent) h.is in
    let asked : new.link.asked ≡ h.asked = ap (λ (s : LinkState). s.asked) h.is in
    let off : new.link.recv_put_off ≡ h.off = ap (λ (s : LinkState). s.recv_put_off) h.is in
    let other : new.link.send_put_off ≡ old.link.send_put_off =
    ap (λ (s : LinkState). s.send_put_off) h.is in
    let more_asked = h.more_asked in
    let more_off = h.more_off in
    let came = more_came now old.link new.link h in
    let output = output_heard now m old.shown new.shown e in
    record {
      came = omega (arith, came);
      sent = omega (arith, sent);
      asked = omega (arith, asked, more_asked);
      recv_put_off = omega (arith, off, more_off);
      send_put_off = omega (arith, other);
      ended = λ x. ap (λ (s : LinkState). s.ended) h.is ∙ h.ends x;
      fed = fed_heard now m old new e l;
      bytes = λ a b c. omega (arith, output, sent);
    }

-- what a told link did in a send
record SaidAs (now : ℕ) (old new : LinkState) : Type 0 where
  bytes : List ℕ
  touched : ℕ
  asked : ℕ
  off : ℕ
  is : new ≡ record old {
    sent = old.sent ++ bytes;
    touched = touched;
    choked = new.choked;
    asked =
        asked;
    send_put_off = off;
  }
  moment : (touched ≡ old.touched) ⊎ (touched ≡ now)
  more_asked : old.asked ≤ asked
  more_off : old.send_put_off ≤ off

said_none : (now : ℕ) (old new : LinkState) (asked off : ℕ) →
    new ≡ record old { choked = new.choked; asked = asked; send_put_off = off } →
    old.asked ≤ asked → old.send_put_off ≤ off → SaidAs now old new
said_none now old new asked off e a o = record {
  bytes = [];
  touched = old.touched;
  asked = asked;
  off = off;
  is = e ∙ ap (λ (xs : List ℕ). record old {
    sent = xs;
    choked = new.choked;
    asked = asked;
    send_put_off = off;
  }) (sym (append-nil old.sent));
  moment = inl refl;
  more_asked = a;
  more_off = o;
}

choke_is : (old new : LinkState) (b : Bool) (asked off : ℕ) →
    new ≡ record old { choked = b; asked = asked; send_put_off = off } →
    new ≡ record old { choked = new.choked; asked = asked; send_put_off = off }
choke_is old new b asked off e = e ∙ ap (λ (c : Bool). record old {
  choked = c;
  asked = asked;
  send_put_off = off;
}) (sym (ap (λ (s : LinkState). s.choked) e))

said_as : (now : ℕ) (m : Moved) (old new : View) → LinkSaid now m old new →
    SaidAs now old.link new.link
said_as now moved.Idle old new e = said_none now old.link new.link old.link.asked
    old.link.send_put_off (choke_is old.link new.link old.link.choked old.link.asked
    old.link.send_put_off e) (omega arith) (omega arith)
said_as now moved.PutOff old new e = said_none now old.link new.link (raised old.link.asked)
    (raised old.link.send_put_off) (choke_is old.link new.link true (raised old.link.asked)
    (raised old.link.send_put_off) e) (raised_le old.link.asked) (raised_le old.link.send_put_off)
said_as now moved.Got old new e = absurd e
said_as now moved.Ended old new e = absurd e
said_as now moved.Took old new e = record {
  bytes = e.bytes;
  touched = now;
  asked = raised old.link.asked;
  off = old.link.send_put_off;
  is = e.link;
  moment = inr refl;
  more_asked = raised_le old.link.asked;
  more_off = omega arith;
}
said_as now moved.Failed old new e = said_none now old.link new.link
    (raised old.link.asked) old.link.send_put_off (choke_is old.link new.link false
    (raised old.link.asked) old.link.send_put_off e) (raised_le old.link.asked) (omega arith)
said_as now moved.Broke old new e = said_none now old.link new.link old.link.asked
    old.link.send_put_off (choke_is old.link new.link old.link.choked old.link.asked
    old.link.send_put_off e) (omega arith) (omega arith)
said_as now moved.NoMemory old new e = absurd e

stamps_said : (now : ℕ) (old new : LinkState) → SaidAs now old new → Stamps now old new
stamps_said now old new h = record {
  bytes = [];
  arrivals = ap (λ (s : LinkState). s.arrivals) h.is ∙ sym (append-nil old.arrivals);
  touched = by (ap (λ (s : LinkState). s.touched) h.is) h.moment;
}
  where
    by : {t : ℕ} → new.touched ≡ t → (t ≡ old.touched) ⊎ (t ≡ now) → (new.touched ≡ old.touched)
        ⊎ (new.touched ≡ now)
    by e (inl f) = inl (e ∙ f)
    by e (inr f) = inr (e ∙ f)

put_said : (now : ℕ) (m : Moved) (old new : Shown) → ShowsSaid now m old new → new.put ≡ old.put
put_said now moved.Idle old new e = ap (λ (s : Shown). s.put) e
put_said now moved.PutOff old new e = ap (λ (s : Shown). s.put) e
put_said now moved.Got old new e = absurd e
put_said now moved.Ended old new e = absurd e
put_said now moved.Took old new e = ap (λ (s : Shown). s.put) e.shown
put_said now moved.Failed old new e = ap (λ (s : Shown). s.put) e
put_said now moved.Broke old new e = ap (λ (s : Shown). s.put) e.shown
put_said now moved.NoMemory old new e = absurd e

bytes_same : (o p s t : ℕ) → o ≤ p → s ≡ t → o + s ≤ p + t
bytes_same o p s t less e = omega (arith, less, e)

bytes_said : (now : ℕ) (m : Moved) (old new : View) → ShowsSaid now m old.shown new.shown →
    LinkSaid now m old new → new.shown.output + length new.link.sent ≤ old.shown.output
    + length old.link.sent
bytes_said now moved.Idle old new e l = bytes_same _ _ _ _ (let same =
    ap (λ (s : Shown). s.output) e in omega (arith, same)) (ap (λ (s : LinkState). length s.sent) l)
bytes_said now moved.PutOff old new e l = bytes_same _ _ _ _ (let same =
    ap (λ (s : Shown). s.output) e in omega (arith, same)) (ap (λ (s : LinkState). length s.sent) l)
bytes_said now moved.Got old new e l = absurd e
bytes_said now moved.Ended old new e l = absurd e
bytes_said now moved.Took old new e l =
    let sent : length new.link.sent ≡ length old.link.sent + length l.bytes =
    ap (λ (s : LinkState). length s.sent) l.link ∙ length-append old.link.sent l.bytes in
    let size = l.size in omega (arith, sent, size)
bytes_said now moved.Failed old new e l = bytes_same _ _ _ _ (let same =
    ap (λ (s : Shown). s.output) e in omega (arith, same)) (ap (λ (s : LinkState). length s.sent) l)
bytes_said now moved.Broke old new e l = bytes_same _ _ _ _ e.less
    (ap (λ (s : LinkState). length s.sent) l)
bytes_said now moved.NoMemory old new e l = absurd e

goes_said : (now : ℕ) (m : Moved) (old new : View) → ShowsSaid now m old.shown new.shown →
    LinkSaid now m old new → LinkGoes old new
goes_said now m old new e l =
    let h = said_as now m old new l in
    let came : length new.link.arrivals ≡ length old.link.arrivals =
    ap (λ (s : LinkState). length s.arrivals) h.is in
    let sent : length new.link.sent ≡ length old.link.sent + length h.bytes =
    ap (λ (s : LinkState). length s.sent) h.is ∙ length-append old.link.sent h.bytes in
    let asked : new.link.asked ≡ h.asked = ap (λ (s : LinkState). s.asked) h.is in
    let off : new.link.send_put_off ≡ h.off = ap (λ (s : LinkState). s.send_put_off) h.is in
    let other : new.link.recv_put_off ≡ old.link.recv_put_off =
    ap (λ (s : LinkState). s.recv_put_off) h.is in
    let more_asked = h.more_asked in
    let more_off = h.more_off in
    let unput = put_said now m old.shown new.shown e in
    record {
      came = omega (arith, came);
      sent = omega (arith, sent);
      asked = omega (arith, asked, more_asked);
      recv_put_off = omega (arith, other);
      send_put_off = omega (arith, off, more_off);
      ended = λ x. ap (λ (s : LinkState). s.ended) h.is ∙ x;
      fed = λ p. absurd (omega (arith, unput, p));
      bytes = λ a b c. bytes_said now m old new e l;
    }

-- behind a conclusion
goes_on : (old mid new : View) → LinkGoes old mid → Concludes mid new → LinkGoes old new
goes_on old mid new goes c = subst (λ (v : View). LinkGoes old v) (sym c.same) (record {
  came = goes.came;
  sent = goes.sent;
  asked = goes.asked;
  recv_put_off = goes.recv_put_off;
  send_put_off = goes.send_put_off;
  ended = goes.ended;
  fed = goes.fed;
  bytes = λ a b d. let before = goes.bytes a b d in omega (arith, before, c.less);
})

stamps_on : (now : ℕ) (old : LinkState) (mid new : View) → Stamps now old mid.link →
    Concludes mid new → Stamps now old new.link
stamps_on now old mid new s c = subst (λ (v : View). Stamps now old v.link) (sym c.same)
    (record { bytes = s.bytes; arrivals = s.arrivals; touched = s.touched })

-- ---- what all calls have in common

dead_stays : (old mid new : View) → mid ≡ old → Concludes mid new → StaysDead old new
dead_stays old mid new e c = subst (λ (v : View). StaysDead v new) e
    (record { output = new.shown.output; same = c.same })

-- a channel that isn't over was alive, and its conclusion did nothing
alive_mid : (mid new : View) → Concludes mid new → over_of new.shown ≡ None →
    (mid.shown.dead ≡ None) × ((is_done mid.shown ≡ false) × (new ≡ mid))
alive_mid mid new c none =
    let parts = is_alive new.shown.dead (is_done new.shown) none in
    let dead : mid.shown.dead ≡ None = sym (ap (λ (v : View). v.shown.dead) c.same) ∙ parts.0 in
    let same = c.alive dead in
    (dead, (sym (ap (λ (v : View). is_done v.shown) same) ∙ parts.1, same))

old_alive : (ask : Bool) (m : Moved) (old mid : View) → IfAsked ask m old.shown.dead →
    (m ≡ moved.Idle → mid ≡ old) → mid.shown.dead ≡ None → old.shown.dead ≡ None
old_alive ask m old mid p idle e = by old.shown.dead refl
  where
    by : (d : Option End) → old.shown.dead ≡ d → old.shown.dead ≡ None
    by None f = f
    by (Some x) f = absurd (no_some mid.shown.dead e
        (ap (λ (v : View). is_some v.shown.dead) (idle
        (unasked ask m old.shown.dead p (ap is_some f))) ∙ ap is_some f))

open_of : (ask : Bool) (m : Moved) (old mid new : View) → IfAsked ask m old.shown.dead →
    (IsTrue ask → is_done old.shown ≡ false) → (m ≡ moved.Idle → mid ≡ old) →
    FaultsBy m old.faults mid.faults → (old.shown.dead ≡ None → mid.shown.dead ≡ end_of m) →
    Concludes mid new → over_of new.shown ≡ None → StaysOpen old new
open_of ask m old mid new p undone idle faults dead c none =
    let parts = alive_mid mid new c none in
    let alive = old_alive ask m old mid p idle parts.0 in
    let over = is_alive new.shown.dead (is_done new.shown) none in
    record {
      was_alive = alive;
      was_undone = by (asked_or ask m old.shown.dead p alive);
      alive = over.0;
      undone = over.1;
      faultless = ap (λ (v : View). v.faults) parts.1.1
          ∙ faultless m old.faults mid.faults faults (sym (dead alive) ∙ parts.0);
    }
  where
    by : (IsTrue ask × (m ≡ moved.Idle → ⊥)) ⊎ ((ask ≡ false) × (m ≡ moved.Idle)) →
        is_done old.shown ≡ false
    by (inl x) = undone x.0
    by (inr x) = sym (ap (λ (v : View). is_done v.shown) (idle x.1))
        ∙ (alive_mid mid new c none).1.0

readable_undone : (w : Window) (s : Shown) → IsTrue (is_readable w s) → is_done s ≡ false
readable_undone w s e = by s.closing s.finished s.ended (nat_le (units_of s) w.lookahead)
    (nat_eq s.output 0) (is_working s) e
  where
    by : (c f n l o k : Bool) → (not c && not f && not n && l && o) ≡ true →
        (not k && (o && (c || n))) ≡ false
    by c f n l o true e = refl
    by true f n l o false e = cc
    by false true n l o false e = cc
    by false false true l o false e = cc
    by false false false l true false e = refl
    by false false false l false false e = refl

some_output : (o : ℕ) → nat_lt 0 o ≡ true → nat_eq o 0 ≡ false
some_output o e = by (nat_eq o 0) refl
  where
    by : (b : Bool) → nat_eq o 0 ≡ b → nat_eq o 0 ≡ false
    by true f = let some = ltb-true 0 o e in let none = eqb-true o 0 f in
        absurd (omega (arith, some, none))
    by false f = f

writable_undone : (s : Shown) → IsTrue (is_writable s) → is_done s ≡ false
writable_undone s e = by (nat_eq s.output 0) (is_working s) (s.closing || s.ended)
    (some_output s.output e)
  where
    by : (o k m : Bool) → o ≡ false → (not k && (o && m)) ≡ false
    by true k m e = cc
    by false true m e = refl
    by false false m e = refl

module _ (tells : Bool) (now : ℕ) (w : Window) (what : Moved) (act : Acted) (old mid new : View)
    (h : HearsSome tells now w what old mid) (c : Concludes mid new) (is : act
    ≡ over_or (over_of new.shown) what) where
  heard_dead : old.shown.dead ≡ None → mid.shown.dead ≡ end_of what
  heard_dead d = dead_heard now what old.shown mid.shown h.hears.shown d

  heard_calls : Calls tells now act old new
  heard_calls =
      let same_faults : new.faults ≡ mid.faults = ap (λ (v : View). v.faults) c.same in
      let over = over_is (over_of new.shown) what act is in
      record {
        faults = let more = faults_le what old.faults mid.faults h.hears.faults in
            omega (arith, more, same_faults);
        over = over;
        stays_dead = λ d. dead_stays old mid new (h.hears.idle
            (unasked (is_readable w old.shown) what old.shown.dead h.asked d)) c;
        moves = moves_on old mid new (moves_heard now
            (is_readable w old.shown) what old.shown mid.shown h.asked h.hears.shown) c;
        goes = λ t. goes_on old mid new (goes_heard now what old mid h.hears.shown (h.hears.link t))
            c;
        stamps = λ t. stamps_on now old.link mid new
            (stamps_heard now old.link mid.link (heard_as now what old.link mid.link
            (h.hears.link t))) c;
        stays = unless_over (StaysOpen old new) act (over_of new.shown) over
            (open_of (is_readable w old.shown) what old mid new h.asked
            (readable_undone w old.shown) h.hears.idle h.hears.faults heard_dead c);
        link_first = link_goes_first what act old mid new h.hears.faults c
            (failed_heard now what old.shown mid.shown h.hears.shown) is;
        touches = touched_on now old.shown mid new
            (touched_heard now what old.shown mid.shown h.hears.shown) c;
      }

  due_heard : (m : Moved) (o n : Shown) → ShowsHeard now m o n → end_of m ≡ None →
      IsTrue (is_due w o) → IsTrue (is_due w n)
  due_heard moved.Idle o n e x d = subst (λ (s : Shown). IsTrue (is_due w s)) (sym e) d
  due_heard moved.PutOff o n e x d = subst (λ (s : Shown). IsTrue (is_due w s)) (sym e) d
  due_heard moved.Got o n e x d = subst (λ (s : Shown). IsTrue (is_due w s)) (sym e.shown)
      (by o.ready n.ready (current_of o) (is_none o.dead) (nat_le o.output w.high_watermark) e.grown
      d)
    where
      by : (r s k : ℕ) (a b : Bool) → r ≤ s → (a && nat_lt 0 (r + k) && b) ≡ true →
          (a && nat_lt 0 (s + k) && b) ≡ true
      by r s k a b less d = grind (arith, less, d)
  due_heard moved.Ended o n e x d = subst (λ (s : Shown). IsTrue (is_due w s)) (sym e) d
  due_heard moved.Took o n e x d = absurd e
  due_heard moved.Failed o n e x d = cc
  due_heard moved.Broke o n e x d = cc
  due_heard moved.NoMemory o n e x d = cc

  step_heard : (m : Moved) (o n : Shown) → ShowsHeard now m o n → MakesNoStep o n
  step_heard moved.Idle o n e = same_steps o _ n e refl refl refl
  step_heard moved.PutOff o n e = same_steps o _ n e refl refl refl
  step_heard moved.Got o n e = same_steps o _ n e.shown refl refl refl
  step_heard moved.Ended o n e = same_steps o _ n e refl refl refl
  step_heard moved.Took o n e = absurd e
  step_heard moved.Failed o n e = same_steps o _ n e refl refl refl
  step_heard moved.Broke o n e = same_steps o _ n e refl refl refl
  step_heard moved.NoMemory o n e = same_steps o _ n e refl refl refl

  asked_heard : (m : Moved) → (m ≡ moved.Idle → ⊥) → FaultsBy m old.faults mid.faults →
      LinkHeard now m old.link mid.link → Heard old mid
  asked_heard moved.Idle some f l = absurd (some refl)
  asked_heard moved.PutOff some f l =
      let one : mid.link.asked ≡ raised old.link.asked = ap (λ (s : LinkState). s.asked) l in
      let two : mid.link.recv_put_off ≡ raised old.link.recv_put_off =
      ap (λ (s : LinkState). s.recv_put_off) l in
      (omega (arith, one), inl (omega (arith, two)))
  asked_heard moved.Got some f l =
      let one : mid.link.asked ≡ raised old.link.asked = ap (λ (s : LinkState). s.asked) l.link in
      let more : length mid.link.arrivals ≡ length old.link.arrivals + length l.bytes =
      more_came now old.link mid.link (heard_some now old.link mid.link l) in
      let bytes : 0 < length l.bytes = l.some in
      (omega (arith, one), inr (inr (inl (omega (arith, more, bytes)))))
  asked_heard moved.Ended some f l =
      let one : mid.link.asked ≡ raised old.link.asked = ap (λ (s : LinkState). s.asked) l in
      (omega (arith, one), inr (inr (inr (ap (λ (s : LinkState). s.ended) l))))
  asked_heard moved.Took some f l = absurd l
  asked_heard moved.Failed some f l =
      let one : mid.link.asked ≡ raised old.link.asked = ap (λ (s : LinkState). s.asked) l in
      (omega (arith, one), inr (inl f))
  asked_heard moved.Broke some f l =
      let one : mid.link.asked ≡ raised old.link.asked = ap (λ (s : LinkState). s.asked) l.link in
      let more : length mid.link.arrivals ≡ length old.link.arrivals + length l.bytes =
      more_came now old.link mid.link (heard_some now old.link mid.link l) in
      let bytes : 0 < length l.bytes = l.some in
      (omega (arith, one), inr (inr (inl (omega (arith, more, bytes)))))
  asked_heard moved.NoMemory some f l =
      let one : mid.link.asked ≡ raised old.link.asked = ap (λ (s : LinkState). s.asked) l.link in
      let more : length mid.link.arrivals ≡ length old.link.arrivals + length l.bytes =
      more_came now old.link mid.link (heard_some now old.link mid.link l) in
      let bytes : 0 < length l.bytes = l.some in
      (omega (arith, one), inr (inr (inl (omega (arith, more, bytes)))))

  not_idle : old.shown.dead ≡ None → IsTrue (is_readable w old.shown) → what ≡ moved.Idle → ⊥
  not_idle alive wants = by (asked_or (is_readable w old.shown) what old.shown.dead h.asked alive)
    where
      by : (IsTrue (is_readable w old.shown) × (what ≡ moved.Idle → ⊥))
          ⊎ ((is_readable w old.shown ≡ false) × (what ≡ moved.Idle)) → what ≡ moved.Idle → ⊥
      by (inl x) = x.1
      by (inr x) = λ e. let no : true ≡ false = sym wants ∙ x.0 in cc

  reads_mid : mid.shown.dead ≡ None → Reads tells w old mid
  reads_mid none =
      let alive = old_alive (is_readable w old.shown) what old mid h.asked h.hears.idle none in
      record {
        heard = λ t wants. asked_heard what (not_idle alive wants) h.hears.faults (h.hears.link t);
        no_step = step_heard what old.shown mid.shown h.hears.shown;
        due = due_heard what old.shown mid.shown h.hears.shown (sym (heard_dead alive) ∙ none);
        output = output_heard now what old.shown mid.shown h.hears.shown;
      }

  read_open : (m : Moved) → what ≡ m → old.shown.dead ≡ None → end_of m ≡ None →
      ReadCause tells w (as_acted m) old mid
  read_open moved.Idle e alive n = inl (
    by (asked_or (is_readable w old.shown) what old.shown.dead
        h.asked alive),
    h.hears.idle e,
  )
    where
      by : (IsTrue (is_readable w old.shown) × (what ≡ moved.Idle → ⊥))
          ⊎ ((is_readable w old.shown ≡ false) × (what ≡ moved.Idle)) → is_readable w old.shown
          ≡ false
      by (inl x) = absurd (x.1 e)
      by (inr x) = x.0
  read_open moved.PutOff e alive n =
      let asked = subst (λ (m : Moved). IfAsked (is_readable w old.shown) m old.shown.dead) e
      h.asked in
      let link : IsTrue tells → LinkHeard now moved.PutOff old.link mid.link =
      λ t. subst (λ (m : Moved). LinkHeard now m old.link mid.link) e (h.hears.link t) in
      inr (
        asked.1,
        subst (λ (m : Moved). ShowsHeard now m old.shown mid.shown) e h.hears.shown,
        λ t. let two : mid.link.recv_put_off ≡ raised old.link.recv_put_off =
            ap (λ (s : LinkState). s.recv_put_off) (link t) in omega (arith, two),
      )
  read_open moved.Got e alive n =
      let asked = subst (λ (m : Moved). IfAsked (is_readable w old.shown) m old.shown.dead) e
      h.asked in
      let link : IsTrue tells → LinkHeard now moved.Got old.link mid.link =
      λ t. subst (λ (m : Moved). LinkHeard now m old.link mid.link) e (h.hears.link t) in (
        asked.1,
        λ t.
            let came = link t in
            let more : length mid.link.arrivals ≡ length old.link.arrivals + length came.bytes =
            more_came now old.link mid.link (heard_some now old.link mid.link came) in
            let bytes : 0 < length came.bytes = came.some in inl (omega (arith, more, bytes)),
      )
  read_open moved.Ended e alive n =
      let asked = subst (λ (m : Moved). IfAsked (is_readable w old.shown) m old.shown.dead) e
      h.asked in
      let link : IsTrue tells → LinkHeard now moved.Ended old.link mid.link =
      λ t. subst (λ (m : Moved). LinkHeard now m old.link mid.link) e (h.hears.link t) in
      (asked.1, λ t. inr (ap (λ (s : LinkState). s.ended) (link t)))
  read_open moved.Took e alive n = absurd (subst (λ
      (m : Moved). ShowsHeard now m old.shown mid.shown) e h.hears.shown)
  read_open moved.Failed e alive n = cc
  read_open moved.Broke e alive n = cc
  read_open moved.NoMemory e alive n = cc

  came_more : Gives now old.link mid.link → Concludes mid new →
      length old.link.arrivals < length new.link.arrivals
  came_more g k =
      let more : length mid.link.arrivals ≡ length old.link.arrivals + length g.bytes =
      more_came now old.link mid.link (heard_some now old.link mid.link g) in
      let some : 0 < length g.bytes = g.some in
      let same : length new.link.arrivals ≡ length mid.link.arrivals =
      ap (λ (v : View). length v.link.arrivals) k.same in omega (arith, more, some, same)

  -- by an end that this brought
  read_over : (m : Moved) (end : End) → end_of m ≡ Some end →
      IfAsked (is_readable w old.shown) m old.shown.dead → FaultsBy m old.faults mid.faults →
      ShowsHeard now m old.shown mid.shown → (IsTrue tells → LinkHeard now m old.link mid.link) →
      Concludes mid new → ReadCause tells w (acted.Over end) old new
  read_over moved.Idle end e a f s l k = cc
  read_over moved.PutOff end e a f s l k = cc
  read_over moved.Got end e a f s l k = cc
  read_over moved.Ended end e a f s l k = cc
  read_over moved.Took end e a f s l k = absurd s
  read_over moved.Failed over.LinkFault e a f s l k =
      subst (λ n. Rose old.faults n) (sym (ap (λ (v : View). v.faults) k.same)) f
  read_over moved.Failed over.Done e a f s l k = cc
  read_over moved.Failed over.SpillFault e a f s l k = cc
  read_over moved.Failed over.AppFault e a f s l k = cc
  read_over moved.Failed over.NoMemory e a f s l k = cc
  read_over moved.Failed (over.TimedOut t u) e a f s l k = cc
  read_over moved.Failed over.ShutDown e a f s l k = cc
  read_over moved.Broke over.SpillFault e a f s l k = (a.1, λ t. came_more (l t) k)
  read_over moved.Broke over.Done e a f s l k = cc
  read_over moved.Broke over.LinkFault e a f s l k = cc
  read_over moved.Broke over.AppFault e a f s l k = cc
  read_over moved.Broke over.NoMemory e a f s l k = cc
  read_over moved.Broke (over.TimedOut t u) e a f s l k = cc
  read_over moved.Broke over.ShutDown e a f s l k = cc
  read_over moved.NoMemory over.NoMemory e a f s l k = (a.1, λ t. came_more (l t) k)
  read_over moved.NoMemory over.Done e a f s l k = cc
  read_over moved.NoMemory over.LinkFault e a f s l k = cc
  read_over moved.NoMemory over.SpillFault e a f s l k = cc
  read_over moved.NoMemory over.AppFault e a f s l k = cc
  read_over moved.NoMemory (over.TimedOut t u) e a f s l k = cc
  read_over moved.NoMemory over.ShutDown e a f s l k = cc

  read_cause : old.shown.dead ≡ None → (o : Option End) → over_of new.shown ≡ o →
      ReadCause tells w (over_or o what) old new
  read_cause alive None e =
      let parts = alive_mid mid new c e in
      subst (λ (v : View). ReadCause tells w (as_acted what) old v) (sym parts.1.1)
      (read_open what refl alive (sym (heard_dead alive) ∙ parts.0))
  read_cause alive (Some end) e = over_so (λ end. ReadCause tells w (acted.Over end) old new)
      new.shown.dead (is_done new.shown) end e
      (λ is. read_over what end (sym (heard_dead alive)
      ∙ (sym (ap (λ (v : View). v.shown.dead) c.same) ∙ is)) h.asked h.hears.faults h.hears.shown
      h.hears.link c) tt

  pub read_calls : ReadCalls tells now w act old new
  read_calls = record {
    calls = heard_calls;
    reads = unless_over (Reads tells w old new) act (over_of new.shown)
        (over_is (over_of new.shown) what act is)
        (λ none. let parts = alive_mid mid new c none in
        subst (λ (v : View). Reads tells w old v) (sym parts.1.1) (reads_mid parts.0));
    cause = λ alive. subst (λ (a : Acted). ReadCause tells w a old new) (sym is)
        (read_cause alive (over_of new.shown) refl);
  }

-- ---- a drain

took_more : {now : ℕ} (old mid : View) → Takes now old mid →
    length old.link.sent < length mid.link.sent
took_more old mid l =
    let sent : length mid.link.sent ≡ length old.link.sent + length l.bytes =
    ap (λ (s : LinkState). length s.sent) l.link ∙ length-append old.link.sent l.bytes in
    let some = l.some in omega (arith, sent, some)

module _ (tells : Bool) (now : ℕ) (w : Window) (what : Moved) (old mid : View)
    (h : SaysSome tells now what old mid) where
  said_dead : old.shown.dead ≡ None → mid.shown.dead ≡ end_of what
  said_dead d = dead_said now what old.shown mid.shown h.says.shown d

  step_said : (m : Moved) (o n : Shown) → ShowsSaid now m o n → MakesNoStep o n
  step_said moved.Idle o n e = same_steps o _ n e refl refl refl
  step_said moved.PutOff o n e = same_steps o _ n e refl refl refl
  step_said moved.Got o n e = absurd e
  step_said moved.Ended o n e = absurd e
  step_said moved.Took o n e = same_steps o _ n e.shown refl refl refl
  step_said moved.Failed o n e = same_steps o _ n e refl refl refl
  step_said moved.Broke o n e = same_steps o _ n e.shown refl refl refl
  step_said moved.NoMemory o n e = absurd e

  units_said : (m : Moved) (o n : Shown) → ShowsSaid now m o n → units_of n ≡ units_of o
  units_said moved.Idle o n e = ap units_of e
  units_said moved.PutOff o n e = ap units_of e
  units_said moved.Got o n e = absurd e
  units_said moved.Ended o n e = absurd e
  units_said moved.Took o n e = ap units_of e.shown
  units_said moved.Failed o n e = ap units_of e
  units_said moved.Broke o n e = ap units_of e.shown
  units_said moved.NoMemory o n e = absurd e

  output_said : (m : Moved) (o n : Shown) → ShowsSaid now m o n → n.output ≤ o.output
  output_said moved.Idle o n e = let same = ap (λ (s : Shown). s.output) e in omega (arith, same)
  output_said moved.PutOff o n e = let same = ap (λ (s : Shown). s.output) e in omega (arith, same)
  output_said moved.Got o n e = absurd e
  output_said moved.Ended o n e = absurd e
  output_said moved.Took o n e = let less = e.less in omega (arith, less)
  output_said moved.Failed o n e = let same = ap (λ (s : Shown). s.output) e in omega (arith, same)
  output_said moved.Broke o n e = e.less
  output_said moved.NoMemory o n e = absurd e

  spoke_said : (m : Moved) → (m ≡ moved.Idle → ⊥) → end_of m ≡ None → LinkSaid now m old mid →
      Spoke old mid
  spoke_said moved.Idle some n l = absurd (some refl)
  spoke_said moved.PutOff some n l =
      let one : mid.link.asked ≡ raised old.link.asked = ap (λ (s : LinkState). s.asked) l in
      let two : mid.link.send_put_off ≡ raised old.link.send_put_off =
      ap (λ (s : LinkState). s.send_put_off) l in
      (omega (arith, one), inl (omega (arith, two)))
  spoke_said moved.Got some n l = absurd l
  spoke_said moved.Ended some n l = absurd l
  spoke_said moved.Took some n l =
      let one : mid.link.asked ≡ raised old.link.asked = ap (λ (s : LinkState). s.asked) l.link in
      (omega (arith, one), inr (inr (took_more old mid l)))
  spoke_said moved.Failed some n l = cc
  spoke_said moved.Broke some n l = cc
  spoke_said moved.NoMemory some n l = absurd l

  drains_mid : mid.shown.dead ≡ None → Drains tells w old mid
  drains_mid none =
      let alive = old_alive (is_writable old.shown) what old mid h.asked h.says.idle none in
      record {
        spoke = λ t wants. spoke_said what (not_silent alive wants) (sym (said_dead alive)
            ∙ none) (h.says.link t);
        no_step = step_said what old.shown mid.shown h.says.shown;
        units = units_said what old.shown mid.shown h.says.shown;
        output = output_said what old.shown mid.shown h.says.shown;
        nothing = λ none. by none (asked_or (is_writable old.shown) what old.shown.dead h.asked
            alive);
      }
    where
      by : is_writable old.shown ≡ false → (IsTrue (is_writable old.shown)
          × (what ≡ moved.Idle → ⊥)) ⊎ ((is_writable old.shown ≡ false) × (what ≡ moved.Idle)) →
          mid ≡ old
      by none (inl x) = absurd (true≢false (sym x.0 ∙ none))
      by none (inr x) = h.says.idle x.1

      not_silent : old.shown.dead ≡ None → IsTrue (is_writable old.shown) → what ≡ moved.Idle → ⊥
      not_silent alive wants = at (asked_or (is_writable old.shown) what old.shown.dead h.asked
          alive)
        where
          at : (IsTrue (is_writable old.shown) × (what ≡ moved.Idle → ⊥))
              ⊎ ((is_writable old.shown ≡ false) × (what ≡ moved.Idle)) → what ≡ moved.Idle → ⊥
          at (inl x) = x.1
          at (inr x) = λ e. true≢false (sym wants ∙ x.0)

  drain_open : (m : Moved) → what ≡ m → old.shown.dead ≡ None → end_of m ≡ None →
      DrainCause tells (as_acted m) old mid
  drain_open moved.Idle e alive n = inl (
    by (asked_or (is_writable old.shown) what old.shown.dead
        h.asked alive),
    h.says.idle e,
  )
    where
      by : (IsTrue (is_writable old.shown) × (what ≡ moved.Idle → ⊥))
          ⊎ ((is_writable old.shown ≡ false) × (what ≡ moved.Idle)) → is_writable old.shown ≡ false
      by (inl x) = absurd (x.1 e)
      by (inr x) = x.0
  drain_open moved.PutOff e alive n =
      let asked = subst (λ (m : Moved). IfAsked (is_writable old.shown) m old.shown.dead) e h.asked
      in
      let link : IsTrue tells → LinkSaid now moved.PutOff old mid =
      λ t. subst (λ (m : Moved). LinkSaid now m old mid) e (h.says.link t) in
      inr (
        asked.1,
        subst (λ (m : Moved). ShowsSaid now m old.shown mid.shown) e h.says.shown,
        λ t. let two : mid.link.send_put_off ≡ raised old.link.send_put_off =
            ap (λ (s : LinkState). s.send_put_off) (link t) in omega (arith, two),
      )
  drain_open moved.Got e alive n = absurd (subst (λ
      (m : Moved). ShowsSaid now m old.shown mid.shown) e h.says.shown)
  drain_open moved.Ended e alive n = absurd (subst
      (λ (m : Moved). ShowsSaid now m old.shown mid.shown) e h.says.shown)
  drain_open moved.Took e alive n =
      let asked = subst (λ (m : Moved). IfAsked (is_writable old.shown) m old.shown.dead) e h.asked
      in
      let shown = subst (λ (m : Moved). ShowsSaid now m old.shown mid.shown) e h.says.shown in
      let link : IsTrue tells → LinkSaid now moved.Took old mid =
      λ t. subst (λ (m : Moved). LinkSaid now m old mid) e (h.says.link t) in
      (asked.1, (shown.less, λ t. took_more old mid (link t)))
  drain_open moved.Failed e alive n = cc
  drain_open moved.Broke e alive n = cc
  drain_open moved.NoMemory e alive n = cc

  module _ (new : View) (c : Concludes mid new) where
    said_calls : (act : Acted) → act ≡ over_or (over_of new.shown) what →
        Calls tells now act old new
    said_calls act is =
        let over = over_is (over_of new.shown) what act is in
        let same_faults : new.faults ≡ mid.faults = ap (λ (v : View). v.faults) c.same in
        record {
          faults = let more = faults_le what old.faults mid.faults h.says.faults in
              omega (arith, more, same_faults);
          over = over;
          stays_dead = λ d. dead_stays old mid new
              (h.says.idle (unasked (is_writable old.shown) what old.shown.dead h.asked d)) c;
          moves = moves_on old mid new (moves_said now
              (is_writable old.shown) what old.shown mid.shown h.asked h.says.shown) c;
          goes = λ t. goes_on old mid new (goes_said now what old mid h.says.shown (h.says.link t))
              c;
          stamps = λ t. stamps_on now old.link mid new
              (stamps_said now old.link mid.link (said_as now what old mid (h.says.link t))) c;
          stays = unless_over (StaysOpen old new) act (over_of new.shown) over
              (open_of (is_writable old.shown) what old mid new h.asked
              (writable_undone old.shown) h.says.idle h.says.faults said_dead c);
          link_first = link_goes_first what act old mid new h.says.faults c
              (failed_said now what old.shown mid.shown h.says.shown) is;
          touches = touched_on now old.shown mid new
              (touched_said now what old.shown mid.shown h.says.shown) c;
        }

    drain_over : (m : Moved) (end : End) → end_of m ≡ Some end →
        IfAsked (is_writable old.shown) m old.shown.dead → FaultsBy m old.faults mid.faults →
        ShowsSaid now m old.shown mid.shown → DrainCause tells (acted.Over end) old new
    drain_over moved.Idle end e a f s = cc
    drain_over moved.PutOff end e a f s = cc
    drain_over moved.Got end e a f s = cc
    drain_over moved.Ended end e a f s = cc
    drain_over moved.Took end e a f s = cc
    drain_over moved.Failed over.LinkFault e a f s =
        subst (λ n. Rose old.faults n) (sym (ap (λ (v : View). v.faults) c.same)) f
    drain_over moved.Failed over.Done e a f s = cc
    drain_over moved.Failed over.SpillFault e a f s = cc
    drain_over moved.Failed over.AppFault e a f s = cc
    drain_over moved.Failed over.NoMemory e a f s = cc
    drain_over moved.Failed (over.TimedOut t u) e a f s = cc
    drain_over moved.Failed over.ShutDown e a f s = cc
    drain_over moved.Broke over.SpillFault e a f s = a.1
    drain_over moved.Broke over.Done e a f s = cc
    drain_over moved.Broke over.LinkFault e a f s = cc
    drain_over moved.Broke over.AppFault e a f s = cc
    drain_over moved.Broke over.NoMemory e a f s = cc
    drain_over moved.Broke (over.TimedOut t u) e a f s = cc
    drain_over moved.Broke over.ShutDown e a f s = cc
    drain_over moved.NoMemory end e a f s = absurd s

    drain_cause : old.shown.dead ≡ None → (o : Option End) → over_of new.shown ≡ o →
        DrainCause tells (over_or o what) old new
    drain_cause alive None e =
        let parts = alive_mid mid new c e in
        subst (λ (v : View). DrainCause tells (as_acted what) old v) (sym parts.1.1)
        (drain_open what refl alive (sym (said_dead alive) ∙ parts.0))
    drain_cause alive (Some end) e = over_so (λ end. DrainCause tells (acted.Over end) old new)
        new.shown.dead (is_done new.shown) end e
        (λ is. drain_over what end (sym (said_dead alive)
        ∙ (sym (ap (λ (v : View). v.shown.dead) c.same) ∙ is)) h.asked h.says.faults h.says.shown)
        tt

    unput_said : new.shown.put ≡ old.shown.put
    unput_said = ap (λ (v : View). v.shown.put) c.same
        ∙ put_said now what old.shown mid.shown h.says.shown

    pub drain_calls : (act : Acted) → act ≡ over_or (over_of new.shown) what →
        DrainCalls tells now w act old new
    drain_calls act is =
        let over = over_is (over_of new.shown) what act is in
        record {
          calls = said_calls act is;
          drains = unless_over (Drains tells w old new) act (over_of new.shown) over
              (λ none. let parts = alive_mid mid new c none in
              subst (λ (v : View). Drains tells w old v) (sym parts.1.1) (drains_mid parts.0));
          cause = λ alive. subst (λ (a : Acted). DrainCause tells a old new) (sym is)
              (drain_cause alive (over_of new.shown) refl);
          unput = unput_said;
        }

    -- ---- an idle check

    check_cause : (act : Acted) → DrainCause tells act old new → CheckCause tells now w act old new
    check_cause acted.Did p = p
    check_cause acted.Held p = p
    check_cause acted.Nothing p = p
    check_cause (acted.Over over.Done) p = tt
    check_cause (acted.Over over.LinkFault) p = p
    check_cause (acted.Over over.SpillFault) p = p
    check_cause (acted.Over over.AppFault) p = p
    check_cause (acted.Over over.NoMemory) p = p
    check_cause (acted.Over (over.TimedOut t u)) p = absurd p
    check_cause (acted.Over over.ShutDown) p = p

    -- in time, or over behind the send
    pub check_on_time : (act : Acted) → act ≡ over_or (over_of new.shown) what →
        (over_of mid.shown ≡ None → is_late now w mid.shown ≡ false) →
        CheckCalls tells now w act old new
    check_on_time act is on_time =
        let drained = drain_calls act is in
        let over = over_is (over_of new.shown) what act is in
        record {
          calls = drained.calls;
          checks = unless_over (Checks tells now w old new) act (over_of new.shown) over
              (λ none. let parts = alive_mid mid new c none in
              subst (λ (v : View). Checks tells now w old v) (sym parts.1.1)
              (record {
                on_time = on_time (sym (ap (λ (v : View). over_of v.shown) parts.1.1)
                    ∙ none);
                drains = drains_mid parts.0;
              }));
          cause = λ alive. check_cause act (drained.cause alive);
          unput = drained.unput;
        }

  -- what times out was idle, or its link is choked
  pub late_idle : over_of mid.shown ≡ None → IsTrue (is_late now w mid.shown) → IsTrue tells →
      mid.link.choked ≡ false → (units_of mid.shown ≡ 0) × (mid.shown.output ≡ 0)
  late_idle none late t free =
      let parts = is_alive mid.shown.dead (is_done mid.shown) none in
      let alive = old_alive (is_writable old.shown) what old mid h.asked h.says.idle parts.0 in
      by what refl alive (sym (said_dead alive) ∙ parts.0)
    where
      unlate : (t timeout : ℕ) (b : Bool) → t ≡ now → (nat_lt (t + timeout) now && b) ≡ true → ⊥
      unlate t timeout b e l = let no : now + timeout < now =
          ltb-true _ _ (and_first (nat_lt (now + timeout) now) b
          (subst (λ x. (nat_lt (x + timeout) now && b) ≡ true) e l)) in absurd (omega (arith, no))

      silent : (s : Shown) → is_writable s ≡ false → s.output ≡ 0
      silent s e = let no = ltb-false 0 s.output e in omega (arith, no)

      idle_units : (s : Shown) → s.output ≡ 0 → IsTrue (is_late now w s) → units_of s ≡ 0
      idle_units s none l = units_none (units_of s) (nat_lt (s.touched + w.timeout) now)
          (nat_lt w.high_watermark s.output) (subst (λ o. nat_lt w.high_watermark o ≡ false)
          (sym none) (above_none w.high_watermark)) l
        where
          above_none : (n : ℕ) → nat_lt n 0 ≡ false
          above_none n = grind arith

          idle_by : (k a b : Bool) → b ≡ false → (a && (not k || b)) ≡ true → k ≡ false
          idle_by true a true e l = cc
          idle_by true true false e l = cc
          idle_by true false false e l = cc
          idle_by false a b e l = refl

          units_none : (n : ℕ) (a b : Bool) → b ≡ false → (a && (not (nat_lt 0 n) || b)) ≡ true →
              n ≡ 0
          units_none n a b e l = let none = ltb-false 0 n (idle_by (nat_lt 0 n) a b e l) in
              omega (arith, none)

      quiet : (s : Shown) → is_writable s ≡ false → IsTrue (is_late now w s) → (units_of s ≡ 0)
          × (s.output ≡ 0)
      quiet s e l = let none = silent s e in (idle_units s none l, none)

      at_rest : what ≡ moved.Idle → (IsTrue (is_writable old.shown) × (what ≡ moved.Idle → ⊥))
          ⊎ ((is_writable old.shown ≡ false) × (what ≡ moved.Idle)) → (units_of mid.shown ≡ 0)
          × (mid.shown.output ≡ 0)
      at_rest e (inl x) = absurd (x.1 e)
      at_rest e (inr x) = quiet mid.shown (ap (λ (v : View). is_writable v.shown) (h.says.idle e)
          ∙ x.0) late

      by : (m : Moved) → what ≡ m → old.shown.dead ≡ None → end_of m ≡ None →
          (units_of mid.shown ≡ 0) × (mid.shown.output ≡ 0)
      by moved.Idle e alive n = at_rest e (asked_or (is_writable old.shown) what old.shown.dead
          h.asked alive)
      by moved.PutOff e alive n =
          let link = subst (λ (m : Moved). LinkSaid now m old mid) e (h.says.link t) in
          absurd (true≢false (sym (ap (λ (s : LinkState). s.choked) link) ∙ free))
      by moved.Got e alive n = absurd (subst (λ (m : Moved). ShowsSaid now m old.shown mid.shown) e
          h.says.shown)
      by moved.Ended e alive n = absurd (subst (λ (m : Moved). ShowsSaid now m old.shown mid.shown)
          e h.says.shown)
      by moved.Took e alive n =
          let shown = subst (λ (m : Moved). ShowsSaid now m old.shown mid.shown) e h.says.shown in
          absurd (unlate mid.shown.touched w.timeout (not (is_working mid.shown)
          || nat_lt w.high_watermark mid.shown.output)
          (ap (λ (s : Shown). s.touched) shown.shown) late)
      by moved.Failed e alive n = cc
      by moved.Broke e alive n = cc
      by moved.NoMemory e alive n = cc

  -- it times out
  pub check_late : (new : View) → new ≡ dies_at now mid → over_of mid.shown ≡ None →
      IsTrue (is_late now w mid.shown) → CheckCalls tells now w
      (acted.Over (over.TimedOut mid.shown.touched now)) old new
  check_late new e none late =
      let parts = is_alive mid.shown.dead (is_done mid.shown) none in
      let alive = old_alive (is_writable old.shown) what old mid h.asked h.says.idle parts.0 in
      subst (λ (v : View). CheckCalls tells now w (acted.Over (over.TimedOut mid.shown.touched now))
      old v) (sym e) (record {
        calls = record {
          faults = faults_le what old.faults mid.faults h.says.faults;
          over = refl;
          stays_dead = λ d. absurd (no_some old.shown.dead alive d);
          moves = let m = moves_said now (is_writable old.shown) what old.shown mid.shown h.asked
              h.says.shown in
              record {
                put = m.put;
                begun = m.begun;
                answered = m.answered;
                units = m.units;
                left =
                    m.left;
                output = m.output;
                dead = λ d. absurd (no_some old.shown.dead alive d);
              };
          goes = λ t. let g = goes_said now what old mid h.says.shown (h.says.link t) in
              record {
                came = g.came;
                sent = g.sent;
                asked = g.asked;
                recv_put_off = g.recv_put_off;
                send_put_off = g.send_put_off;
                ended = g.ended;
                fed = g.fed;
                bytes = g.bytes;
              };
          stamps = λ t. stamps_said now old.link mid.link
              (said_as now what old mid (h.says.link t));
          stays = tt;
          link_first = inl (faultless what old.faults mid.faults h.says.faults
              (sym (said_dead alive) ∙ parts.0));
          touches = touched_said now what old.shown mid.shown h.says.shown;
        };
        checks = tt;
        cause = λ a. record {
          touched_is = refl;
          at_is = refl;
          spoke = (drains_mid parts.0).spoke;
          late = late;
          undone = parts.1;
        };
        unput = put_said now what old.shown mid.shown h.says.shown;
      })
