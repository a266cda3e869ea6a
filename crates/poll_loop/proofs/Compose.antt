-- How what the calls of a turn do composes.
use Rattle.std.proofs.Common.{◌≡◌, ◌≤◌, ◌<◌, ◌+◌, ◌++◌, inl, inr, ℕ, [], Bool, IsSome, refl, ap}
use Rattle.std.proofs.Common.{sym, subst, ◌∙◌, arith, length, append_assoc}
use Rattle.std.proofs.lemmas.List.{map-append, append-nil}
use Rattle.outside.specs.Causes.{Rose}
use Rattle.outside.specs.Link.{LinkState, stamped}
use Rattle.channel.specs.Views.{Heard, LinkGoes, Moves, Seen, Shown, Spoke, Stamps, Steps, View}
use Rattle.poll_loop.specs.Seat.{Eyes, Follows, Goes, viewed}

-- ---- what a channel shows

-- numbers that only grow, and are the same at the end, were never more
between : (a b c : ℕ) → a ≤ b → b ≤ c → c ≡ a → b ≡ a
between a b c h k e = omega (arith, h, k, e)

outputs_trans : (a b c : Shown) → (x : Moves a b) → (y : Moves b c) → c.begun ≡ a.begun →
    c.answered ≡ a.answered → a.left ≤ c.left → c.output ≤ a.output
outputs_trans a b c x y begun ended left =
    let b1 : b.begun ≡ a.begun = between a.begun b.begun c.begun x.begun y.begun begun in
    let e1 : b.answered ≡ a.answered = between a.answered b.answered c.answered x.answered
    y.answered ended in
    let b2 : c.begun ≡ b.begun = begun ∙ sym b1 in
    let e2 : c.answered ≡ b.answered = ended ∙ sym e1 in
    let l1 : b.left ≤ a.left = x.left b1 in
    let l2 : c.left ≤ b.left = y.left b2 in
    let l3 : a.left ≤ b.left = omega (arith, left, l2) in
    let l4 : b.left ≤ c.left = omega (arith, left, l1) in
    let o1 : b.output ≤ a.output = x.output b1 e1 l3 in
    let o2 : c.output ≤ b.output = y.output b2 e2 l4 in
    omega (arith, o1, o2)

lefts_trans : (a b c : Shown) → (x : Moves a b) → (y : Moves b c) → c.begun ≡ a.begun →
    c.left ≤ a.left
lefts_trans a b c x y begun =
    let b1 : b.begun ≡ a.begun = between a.begun b.begun c.begun x.begun y.begun begun in
    let b2 : c.begun ≡ b.begun = begun ∙ sym b1 in
    let l1 : b.left ≤ a.left = x.left b1 in
    let l2 : c.left ≤ b.left = y.left b2 in
    omega (arith, l1, l2)

pub moves_none : (s : Shown) → Moves s s
moves_none s = record {
  put = omega arith;
  begun = omega arith;
  answered = omega arith;
  units = omega arith;
  left = λ _. omega arith;
  output = λ _ _ _. omega arith;
  dead = λ _. refl;
}

pub moves_trans : (a b c : Shown) → Moves a b → Moves b c → Moves a c
moves_trans a b c x y =
    let p1 = x.put in
    let p2 = y.put in
    let b1 = x.begun in
    let b2 = y.begun in
    let e1 = x.answered in
    let e2 = y.answered in
    let u1 = x.units in
    let u2 = y.units in
    record {
      put = omega (arith, p1, p2);
      begun = omega (arith, b1, b2);
      answered = omega (arith, e1, e2);
      units = omega (arith, u1, u2);
      left = lefts_trans a b c x y;
      output = outputs_trans a b c x y;
      dead = λ h. let d : b.dead ≡ a.dead = x.dead h in y.dead (subst (λ o. IsSome o) (sym d) h) ∙
          d;
    }

-- ---- what a link tells

fed_trans : (a b c : View) → LinkGoes a b → LinkGoes b c → a.shown.put < c.shown.put →
    length a.link.arrivals < length c.link.arrivals
fed_trans a b c x y h = grind (arith, x.fed, y.fed, x.came, y.came, h)

bytes_trans : (a b c : View) → (m : Moves a.shown b.shown) → (n : Moves b.shown c.shown) →
    LinkGoes a b → LinkGoes b c → c.shown.begun ≡ a.shown.begun →
    c.shown.answered ≡ a.shown.answered → a.shown.left ≤ c.shown.left →
    c.shown.output + length c.link.sent ≤ a.shown.output + length a.link.sent
bytes_trans a b c m n x y begun ended left =
    let b1 : b.shown.begun ≡ a.shown.begun = between a.shown.begun b.shown.begun c.shown.begun
    m.begun n.begun begun in
    let e1 : b.shown.answered ≡ a.shown.answered = between a.shown.answered b.shown.answered
    c.shown.answered m.answered n.answered ended in
    let b2 : c.shown.begun ≡ b.shown.begun = begun ∙ sym b1 in
    let e2 : c.shown.answered ≡ b.shown.answered = ended ∙ sym e1 in
    let l1 : b.shown.left ≤ a.shown.left = m.left b1 in
    let l2 : c.shown.left ≤ b.shown.left = n.left b2 in
    let l3 : a.shown.left ≤ b.shown.left = omega (arith, left, l2) in
    let l4 : b.shown.left ≤ c.shown.left = omega (arith, left, l1) in
    let o1 = x.bytes b1 e1 l3 in
    let o2 = y.bytes b2 e2 l4 in
    omega (arith, o1, o2)

pub goes_trans : (a b c : View) → Moves a.shown b.shown → Moves b.shown c.shown → LinkGoes a b →
    LinkGoes b c → LinkGoes a c
goes_trans a b c m n x y =
    let c1 = x.came in
    let c2 = y.came in
    let s1 = x.sent in
    let s2 = y.sent in
    let a1 = x.asked in
    let a2 = y.asked in
    let r1 = x.recv_put_off in
    let r2 = y.recv_put_off in
    let p1 = x.send_put_off in
    let p2 = y.send_put_off in
    record {
      came = omega (arith, c1, c2);
      sent = omega (arith, s1, s2);
      asked = omega (arith, a1, a2);
      recv_put_off = omega (arith, r1, r2);
      send_put_off = omega (arith, p1, p2);
      ended = λ h. y.ended (x.ended h);
      fed = fed_trans a b c x y;
      bytes = bytes_trans a b c m n x y;
    }

-- where the link is as before, no unit is put
pub same_link : (old new : View) → Moves old.shown new.shown → new.link ≡ old.link →
    new.shown.put ≡ old.shown.put → LinkGoes old new
same_link old new moves link put =
    let arrivals : length new.link.arrivals ≡ length old.link.arrivals =
    ap (λ l. length l.arrivals) link in
    let sent : length new.link.sent ≡ length old.link.sent = ap (λ l. length l.sent) link in
    let asked : new.link.asked ≡ old.link.asked = ap (λ l. l.asked) link in
    let recv : new.link.recv_put_off ≡ old.link.recv_put_off = ap (λ l. l.recv_put_off) link in
    let send : new.link.send_put_off ≡ old.link.send_put_off = ap (λ l. l.send_put_off) link in
    record {
      came = omega (arith, arrivals);
      sent = omega (arith, sent);
      asked = omega (arith, asked);
      recv_put_off = omega (arith, recv);
      send_put_off = omega (arith, send);
      ended = λ h. ap (λ l. l.ended) link ∙ h;
      fed = λ h. grind (arith, put, h);
      bytes = λ b e l. let o = moves.output b e l in omega (arith, o, sent);
    }

pub stamps_trans : (now : ℕ) (a b c : LinkState) → Stamps now a b → Stamps now b c → Stamps now a c
stamps_trans now a b c x y = record {
  bytes = x.bytes ++ y.bytes;
  arrivals = y.arrivals ∙ ap (λ l. l ++ stamped now y.bytes) x.arrivals
      ∙ append_assoc a.arrivals (stamped now x.bytes) (stamped now y.bytes)
      ∙ ap (λ l. a.arrivals ++ l) (sym (map-append (λ byte. (now, byte)) x.bytes y.bytes));
  touched = elim y.touched [
    | inl same ↦ elim x.touched [
      | inl e ↦ inl (same ∙ e)
      | inr e ↦ inr (same ∙ e)
    ]
    | inr e ↦ inr e
  ];
}

pub stamps_none : (now : ℕ) (old new : LinkState) → new ≡ old → Stamps now old new
stamps_none now old new link = record {
  bytes = [];
  arrivals = ap (λ l. l.arrivals) link ∙ sym (append-nil old.arrivals);
  touched = inl (ap (λ l. l.touched) link);
}

-- ---- calls of one moment

pub follows_trans : (tells : Bool) (now : ℕ) (a b c : View) → Follows tells now a b →
    Follows tells now b c → Follows tells now a c
follows_trans tells now a b c x y = record {
  key = y.key ∙ x.key;
  moves = moves_trans a.shown b.shown c.shown x.moves y.moves;
  goes = λ t. goes_trans a b c x.moves y.moves (x.goes t) (y.goes t);
  stamps = λ t. stamps_trans now a.link b.link c.link (x.stamps t) (y.stamps t);
}

pub go_on : {L P A : Type 0} (e : Eyes L P) (now : ℕ) (a b c : Seen L A) → Goes e now a b →
    Goes e now b c → Goes e now a c
go_on e now a b c x y = record {
  same = record {
    peer = y.same.peer ∙ x.same.peer;
    fixed = y.same.fixed ∙ x.same.fixed;
    plan = y.same.plan ∙ x.same.plan;
  };
  follows = follows_trans e.tells now (viewed e a) (viewed e b) (viewed e c) x.follows y.follows;
}

-- steps go on so, since they leave the link as it is
pub goes_by_steps : {L P A : Type 0} (e : Eyes L P) (now : ℕ) (old new : Seen L A) →
    new.link ≡ old.link → new.peer ≡ old.peer → new.fixed ≡ old.fixed → Moves old.shown new.shown →
    new.shown.put ≡ old.shown.put → Goes e now old new
goes_by_steps e now old new link peer fixed moves put = record {
  same = record {
    peer = peer;
    fixed = fixed;
    plan = ap e.plan link;
  };
  follows = record {
    key = ap e.key link;
    moves = moves;
    goes = λ _. same_link (viewed e old) (viewed e new) moves (ap e.state link) put;
    stamps = λ _. stamps_none now (e.state old.link) (e.state new.link) (ap e.state link);
  };
}

pub go_nowhere : {L P A : Type 0} (e : Eyes L P) (now : ℕ) (lane : Seen L A) → Goes e now lane lane
go_nowhere e now lane = goes_by_steps e now lane lane refl refl refl (moves_none lane.shown) refl

-- ---- what a link was asked

rose_later : (a b c : ℕ) → Rose a b → b ≤ c → Rose a c
rose_later a b c h k = omega (arith, h, k)

rose_earlier : (a b c : ℕ) → a ≤ b → Rose b c → Rose a c
rose_earlier a b c h k = grind (arith, h, k)

longer_later : (a b c : ℕ) → a < b → b ≤ c → a < c
longer_later a b c h k = omega (arith, h, k)

longer_earlier : (a b c : ℕ) → a ≤ b → b < c → a < c
longer_earlier a b c h k = omega (arith, h, k)

same_rose : (a b c : ℕ) → Rose a b → c ≡ b → Rose a c
same_rose a b c h e = subst (λ n. Rose a n) (sym e) h

pub heard_then : (a b c : View) → Heard a b → LinkGoes b c → c.faults ≡ b.faults → Heard a c
heard_then a b c h y faultless = (
  rose_later a.link.asked b.link.asked c.link.asked h.0 y.asked,
  elim h.1 [
    | inl p ↦ inl (rose_later a.link.recv_put_off b.link.recv_put_off c.link.recv_put_off p
        y.recv_put_off)
    | inr q ↦ inr (elim q [
      | inl f ↦ inl (same_rose a.faults b.faults c.faults f faultless)
      | inr r ↦ inr (elim r [
        | inl l ↦ inl (longer_later (length a.link.arrivals) (length b.link.arrivals)
            (length c.link.arrivals) l y.came)
        | inr e ↦ inr (y.ended e)
      ])
    ])
  ],
)

pub spoke_behind : (a b c : View) → LinkGoes a b → b.faults ≡ a.faults → Spoke b c → Spoke a c
spoke_behind a b c x faultless h = (
  rose_earlier a.link.asked b.link.asked c.link.asked x.asked h.0,
  elim h.1 [
    | inl p ↦ inl (rose_earlier a.link.send_put_off b.link.send_put_off c.link.send_put_off
        x.send_put_off p)
    | inr q ↦ inr (elim q [
      | inl f ↦ inl (subst (λ n. Rose n c.faults) faultless f)
      | inr l ↦ inr (longer_earlier (length a.link.sent) (length b.link.sent) (length c.link.sent)
          x.sent l)
    ])
  ],
)

-- ---- steps among what makes none

pub steps_within : (a b c d : Shown) → b.begun ≡ a.begun → b.answered ≡ a.answered →
    b.left ≡ a.left →
    d.begun ≡ c.begun → d.answered ≡ c.answered → d.left ≡ c.left → Steps b c → Steps a d
steps_within a b c d begun answered left begun' answered' left' s = elim s [
  | inl h ↦ inl (omega (arith, begun, begun', h))
  | inr q ↦ inr (elim q [
    | inl h ↦ inl (omega (arith, answered, answered', h))
    | inr h ↦ inr (omega (arith, left, left', h))
  ])
]
