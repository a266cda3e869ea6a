-- What was sent is a front of the answers to what came, and at the end it is all of them.
use Rattle.std.proofs.Common.{◌≡◌, ◌+◌, ℕ, Bool, true, false, IsTrue, List, [], ◌∷◌, ◌++◌, length}
use Rattle.std.proofs.Common.{take, drop, Option, Some, None, refl, sym, ap, subst, ◌∙◌}
use Rattle.std.proofs.Common.{append_assoc, append-nil, arith, cond}
use Rattle.std.specs.Prelude.{◌||◌, ◌&&◌, not, if◌then◌else◌, is_some, map, nat_eq, nat_lt}
use Rattle.std.specs.Prelude.{option_to_list}
use Rattle.std.specs.Option.{ForSome}
use Rattle.std.proofs.lemmas.Bool.{eqb-true}
use Rattle.std.proofs.lemmas.List.{map-append, take-append-drop}
use Rattle.std.proofs.lemmas.List.Folds.{list_any-append}
use Rattle.outside.specs.declared.types.End.{End}
use Rattle.outside.specs.declared.types.End.TheVariants as over
use Rattle.outside.specs.declared.types.Peer.{Peer}
use Rattle.request_stream.specs.Asks.{asks}
use Rattle.request_stream.specs.Units.{Asked, units}
use Rattle.request_stream.specs.declared.types.Unit.{Unit as AUnit}
use Rattle.spill_buffer.specs.Buffer.{Buffered}
use Rattle.task_core.specs.Answer.{Answer}
use Rattle.wsgi.specs.declared.site.Site.{Site}
use Rattle.channel.specs.Acting.{is_done, length_of, over_of}
use Rattle.channel.specs.Views.{over_by}
use Rattle.channel.specs.Agreement.{Agrees, Known, death_of}
use Rattle.channel.specs.Histories.{Current, LeftPast, RightPast, unit_of, written_of}
use Rattle.channel.specs.Output.{IsPrefix, Script, any_closes, answer_for, answers_for, has_closed}
use Rattle.channel.specs.Output.{joined, responses}
use Rattle.channel.specs.Sides.{IsIdle, KeepsSide, Side, is_killer, loses_units}
use Rattle.channel.specs.State.{State}
use Rattle.channel.specs.declared.types.Cause.{Cause}
use Rattle.channel.specs.declared.types.Cause.TheVariants as cause
use Rattle.channel.proofs.Texts.{joined-append}

prefix_within : (a b c : List ℕ) → IsPrefix a b → IsPrefix b c → IsPrefix a c
prefix_within a b c p q = record {
  rest = p.rest ++ q.rest;
  whole = q.whole ∙ (ap (λ x. x ++ q.rest) p.whole ∙ append_assoc a p.rest q.rest);
}

prefix_behind : (a b c : List ℕ) → IsPrefix b c → IsPrefix (a ++ b) (a ++ c)
prefix_behind a b c p = record {
  rest = p.rest;
  whole = ap (λ x. a ++ x) p.whole
      ∙ sym (append_assoc a b p.rest);
}

split_at : {X : Type 0} (n : ℕ) (xs ys : List X) → take n ys ≡ xs → ys ≡ xs ++ drop n ys
split_at n xs ys e = sym (take-append-drop n ys) ∙ ap (λ f. f ++ drop n ys) e

prefix_of : (xs ys : List ℕ) → take (length xs) ys ≡ xs → IsPrefix xs ys
prefix_of xs ys e = record { rest = drop (length xs) ys; whole = split_at (length xs) xs ys e }

later : (a b : Bool) → (a || b) ≡ true → a ≡ false → b ≡ true
later true b e f = cc
later false b e f = e

stop : (b : Bool) (t r s : List ℕ) → (b ≡ false → r ≡ s) → cond b t (t ++ r) ≡ cond b t (t ++ s)
stop true t r s h = refl
stop false t r s h = ap (λ k. t ++ k) (h refl)

-- behind an answer that closes none follows
pub joined-closed : (xs ys : List Answer) → any_closes xs ≡ true → joined (xs ++ ys) ≡ joined xs
unfolding joined
joined-closed [] ys some = cc
joined-closed (x ∷ xs) ys some = stop x.closes x.text (joined (xs ++ ys)) (joined xs)
    (λ unclosed. joined-closed xs ys (later x.closes (any_closes xs) some unclosed))

joined_front : (xs ys : List Answer) → IsPrefix (joined xs) (joined (xs ++ ys))
joined_front xs ys = by (any_closes xs) refl
  where
    by : (b : Bool) → any_closes xs ≡ b → IsPrefix (joined xs) (joined (xs ++ ys))
    by true e = record { rest = []; whole = joined-closed xs ys e ∙ sym (append-nil (joined xs)) }
    by false e = record { rest = joined ys; whole = joined-append xs ys e }

first_front : (a : Answer) (rest : List Answer) → IsPrefix a.text (joined (a ∷ rest))
unfolding joined
first_front a rest = by a.closes a.text (joined rest)
  where
    by : (b : Bool) (t r : List ℕ) → IsPrefix t (cond b t (t ++ r))
    by true t r = record { rest = []; whole = sym (append-nil t) }
    by false t r = record { rest = r; whole = refl }

unclosed : {X : Type 0} (closed : Bool) (x : X) → (closed ≡ true → Some x ≡ None) → closed ≡ false
unclosed true x last = let no = last refl in cc
unclosed false x last = refl

module _ (site : Site) (script : Script) (peer : Peer) {S : Type 0}
    (finished began : List (AUnit S)) (closed : Bool) (wrote : List ℕ) (more : List Asked)
    (closes : any_closes (answers_for site script peer (map asks finished)) ≡ closed) where
  -- what was written is a front of the answers to what began, whatever follows
  pub wrote_front : (current : Option (Current S)) →
      wrote ≡ joined (answers_for site script peer (map asks finished)) ++ written_of current →
      ForSome current (λ c. take (length c.written) (answer_for site script peer (asks c.unit)).text
      ≡ c.written) →
      began ≡ finished ++ map unit_of (option_to_list current) → (closed ≡ true → current ≡ None) →
      IsPrefix wrote (joined (answers_for site script peer (map asks began ++ more)))
  wrote_front None whole front began_is last =
      let all : answers_for site script peer (map asks began ++ more)
      ≡ answers_for site script peer (map asks finished) ++ answers_for site script peer more
      = ap (λ us. answers_for site script peer (map asks us ++ more)) (began_is
      ∙ append-nil finished) ∙ map-append (answer_for site script peer)
      (map asks finished) more in
      subst (λ answers. IsPrefix wrote (joined answers)) (sym all)
      (subst (λ xs. IsPrefix xs (joined (answers_for site script peer (map asks finished)
      ++ answers_for site script peer more))) (sym (whole ∙ append-nil _))
      (joined_front (answers_for site script peer (map asks finished))
      (answers_for site script peer more)))
  wrote_front (Some c) whole front began_is last =
      let asked : map asks began ++ more ≡ map asks finished ++ (asks c.unit ∷ more)
      = ap (λ us. map asks us ++ more) began_is ∙ (ap (λ us. us ++ more)
      (map-append asks finished (c.unit ∷ []))
      ∙ append_assoc (map asks finished) (asks c.unit ∷ []) more) in
      let all : joined (answers_for site script peer (map asks began ++ more))
      ≡ joined (answers_for site script peer (map asks finished))
      ++ joined (answers_for site script peer (asks c.unit ∷ more))
      = ap (λ us. joined (answers_for site script peer us)) asked
      ∙ (ap joined (map-append (answer_for site script peer) (map asks finished)
      (asks c.unit ∷ more))
      ∙ joined-append (answers_for site script peer (map asks finished))
      (answers_for site script peer (asks c.unit ∷ more)) (closes ∙ unclosed closed c last)) in
      subst (λ xs. IsPrefix wrote xs) (sym all)
      (subst (λ xs. IsPrefix xs (joined (answers_for site script peer (map asks finished))
      ++ joined (answers_for site script peer (asks c.unit ∷ more)))) (sym whole)
      (prefix_behind (joined (answers_for site script peer (map asks finished))) c.written
      (joined (answers_for site script peer (asks c.unit ∷ more)))
      (prefix_within c.written (answer_for site script peer (asks c.unit)).text
      (joined (answers_for site script peer (asks c.unit ∷ more)))
      (prefix_of c.written (answer_for site script peer (asks c.unit)).text (front c refl))
      (first_front (answer_for site script peer (asks c.unit))
      (answers_for site script peer more)))))

some_is : {X : Type 0} (x y : X) → Some x ≡ Some y → x ≡ y
some_is x y e = cc

-- nobody ended it, if it is done
nobody_by : (dead killed : Option End) (broke : Option Cause) (done : Bool) →
    dead ≡ death_of killed broke → ForSome killed (λ end. IsTrue (is_killer end)) →
    over_by dead done ≡ Some over.Done →
    (dead ≡ None) × ((killed ≡ None) × (done ≡ true))
nobody_by (Some end) (Some kill) broke done e kills is =
    let no : IsTrue (is_killer over.Done) = subst (λ (k : End). IsTrue (is_killer k))
    (some_is kill over.Done (sym e ∙ is)) (kills kill refl) in cc
nobody_by (Some end) None (Some cause.Spill) done e kills is = let no = sym e ∙ is in cc
nobody_by (Some end) None (Some cause.App) done e kills is = let no = sym e ∙ is in cc
nobody_by (Some end) None (Some cause.NoMemory) done e kills is = let no = sym e ∙ is in cc
nobody_by (Some end) None None done e kills is = cc
nobody_by None (Some kill) broke done e kills is = cc
nobody_by None None broke true e kills is = (refl, (refl, refl))
nobody_by None None broke false e kills is = cc

nil_by : {X : Type 0} (xs : List X) → length xs ≡ 0 → xs ≡ []
nil_by [] e = refl
nil_by (x ∷ xs) e = cc

both : (a b : Bool) → (a && b) ≡ true → (a ≡ true) × (b ≡ true)
both true b e = (refl, e)
both false b e = cc

-- what done says: nothing is ready or current, and the output is empty
done_parts : {S : Type 0} (ready : List (AUnit S)) (current : Bool) (output : Option (Buffered S))
    (more : Bool) →
    (not (nat_lt 0 (length ready + (if current then 1 else 0)))
    && (nat_eq (length_of output) 0 && more)) ≡ true →
    (ready ≡ []) × ((current ≡ false) × (length_of output ≡ 0))
done_parts ready current output more e =
    let parts = both (not (nat_lt 0 (length ready + (if current then 1 else 0))))
    (nat_eq (length_of output) 0 && more) e in
    let none : length ready + (if current then 1 else 0) ≡ 0 = unless_lt _ parts.0 in (
      nil_by ready (omega (arith, none)),
      (
        no_current current (length ready) none,
        eqb-true (length_of output) 0 (both (nat_eq (length_of output) 0) more parts.1).0,
      ),
    )
  where
    unless_lt : (n : ℕ) → not (nat_lt 0 n) ≡ true → n ≡ 0
    unless_lt n f = grind (arith, f)

    no_current : (b : Bool) (n : ℕ) → n + (if b then 1 else 0) ≡ 0 → b ≡ false
    no_current true n f = absurd (omega (arith, f))
    no_current false n f = refl

-- and that nothing more is to come
done_last : {S : Type 0} (ready : List (AUnit S)) (current : Bool) (output : Option (Buffered S))
    (more : Bool) →
    (not (nat_lt 0 (length ready + (if current then 1 else 0)))
    && (nat_eq (length_of output) 0 && more)) ≡ true → more ≡ true
done_last ready current output more e =
    (both (nat_eq (length_of output) 0) more (both
    (not (nat_lt 0 (length ready + (if current then 1 else 0)))) (nat_eq (length_of output) 0
    && more) e).1).1

idle_parts : {S : Type 0} (us : List (AUnit S)) (b : Bool) → length us + (if b then 1 else 0) ≡ 0 →
    (us ≡ []) × (b ≡ false)
idle_parts [] true e = absurd (omega (arith, e))
idle_parts [] false e = (refl, refl)
idle_parts (u ∷ us) b e = absurd (omega (arith, e))

or_true : (a : Bool) → (a || true) ≡ true
or_true true = refl
or_true false = refl

no_output : {S : Type 0} (output : Option (Buffered S)) → IsTrue (is_some output) → length_of output
    ≡ 0 → (b : Buffered S) × ((output ≡ Some b) × (b.bytes ≡ []))
no_output None there e = cc
no_output (Some b) there e = (b, (refl, nil_by b.bytes e))

none_by : {X : Type 0} (o : Option X) → false ≡ is_some o → o ≡ None
none_by None e = refl
none_by (Some x) e = cc

module _ {A R S : Type 0} (known : Known A R S) (state : State A R S) (left : LeftPast S)
    (right : RightPast S) (side : Side)
    (agrees : Agrees known state left right) (keeps : KeepsSide known.spill_tells
    state.fixed.value.limits state.fixed.value.window.timeout side left)
    (link_tells : IsTrue side.tells) (spill_tells : IsTrue known.spill_tells)
    (app_tells : IsTrue known.app_tells) where
  -- what was begun is a front of what the input asks for
  asked_behind : List Asked
  asked_behind = map asks (drop (length right.began) left.put) ++ drop (length left.put)
      (units state.fixed.value.limits side.story.fed)

  asked_is : units state.fixed.value.limits side.story.fed ≡ map asks right.began ++ asked_behind
  unfolding asked_behind
  asked_is =
      split_at (length left.put) (map asks left.put) (units state.fixed.value.limits side.story.fed)
      (sym (keeps.front.told spill_tells))
      ∙ (ap (λ us. map asks us ++ drop (length left.put)
      (units state.fixed.value.limits side.story.fed))
      (split_at (length right.began) right.began left.put agrees.order.front)
      ∙ (ap (λ us. us ++ drop (length left.put) (units state.fixed.value.limits side.story.fed))
      (map-append asks right.began (drop (length right.began) left.put))
      ∙ append_assoc (map asks right.began) (map asks (drop (length right.began) left.put))
      (drop (length left.put) (units state.fixed.value.limits side.story.fed))))

  drained_front : IsPrefix left.drained (responses state.fixed.value.limits state.fixed.value.site
      (known.script state.fixed.value.app) state.fixed.value.peer side.story.fed)
  unfolding responses
  drained_front =
      let texts = agrees.texts app_tells in
      let course = agrees.course in
      subst (λ us. IsPrefix left.drained (joined (answers_for state.fixed.value.site
      (known.script state.fixed.value.app) state.fixed.value.peer us))) (sym asked_is)
      (prefix_within left.drained right.wrote (joined
      (answers_for state.fixed.value.site (known.script state.fixed.value.app)
      state.fixed.value.peer (map asks right.began ++ asked_behind)))
      (prefix_of left.drained right.wrote (agrees.bytes.front spill_tells))
      (wrote_front state.fixed.value.site (known.script state.fixed.value.app)
      state.fixed.value.peer right.finished right.began right.closed right.wrote asked_behind
      texts.closes right.current texts.whole texts.front course.began_is course.last))

  pub sent_front : (site : Site) (script : Script) (peer : Peer) → state.fixed.value.site ≡ site →
      known.script state.fixed.value.app ≡ script → state.fixed.value.peer ≡ peer →
      IsPrefix side.link.sent (responses state.fixed.value.limits site script peer
      side.link.arrivals)
  sent_front site script peer site_is script_is peer_is =
      subst (λ x. IsPrefix side.link.sent (responses state.fixed.value.limits x script peer
      side.link.arrivals)) site_is
      (subst (λ x. IsPrefix side.link.sent (responses state.fixed.value.limits
      state.fixed.value.site x peer side.link.arrivals)) script_is
      (subst (λ x. IsPrefix side.link.sent (responses state.fixed.value.limits
      state.fixed.value.site (known.script state.fixed.value.app) x side.link.arrivals)) peer_is
      (subst (λ xs. IsPrefix xs (responses state.fixed.value.limits state.fixed.value.site
      (known.script state.fixed.value.app) state.fixed.value.peer side.link.arrivals))
      (sym (keeps.sent link_tells))
      (subst (λ x. IsPrefix left.drained (responses state.fixed.value.limits state.fixed.value.site
      (known.script state.fixed.value.app) state.fixed.value.peer x))
      (keeps.fed link_tells) drained_front))))

  -- What was drained are all answers, where nobody ended it, nothing is ready or current, and the
  -- output is empty.
  asked_open : loses_units left.killed ≡ false → state.ready ≡ [] → right.began ≡ right.finished →
      state.closing ≡ false → units state.fixed.value.limits side.story.fed
      ≡ map asks right.finished
  asked_open unlost ready began open' =
      sym ((keeps.asked unlost).told spill_tells) ∙ ap (λ us. map asks us) (agrees.order.going open'
      ∙ (ap (λ us. right.began ++ us) ready ∙ (append-nil right.began ∙ began)))

  answered_closed : right.began ≡ right.finished → state.closing ≡ true →
      joined (answers_for state.fixed.value.site (known.script state.fixed.value.app)
      state.fixed.value.peer (units state.fixed.value.limits side.story.fed))
      ≡ joined (answers_for state.fixed.value.site
      (known.script state.fixed.value.app) state.fixed.value.peer (map asks right.finished))
  answered_closed began closed =
      ap (λ us. joined (answers_for state.fixed.value.site
      (known.script state.fixed.value.app) state.fixed.value.peer us)) (asked_is
      ∙ ap (λ us. map asks us ++ asked_behind) began)
      ∙ (ap joined (map-append (answer_for state.fixed.value.site
      (known.script state.fixed.value.app) state.fixed.value.peer)
      (map asks right.finished) asked_behind)
      ∙ joined-closed (answers_for state.fixed.value.site
      (known.script state.fixed.value.app) state.fixed.value.peer (map asks right.finished))
      (answers_for state.fixed.value.site (known.script state.fixed.value.app)
      state.fixed.value.peer asked_behind)
      ((agrees.texts app_tells).closes ∙ (sym agrees.course.closing_is ∙ closed)))

  finished_whole : (closing : Bool) → state.closing ≡ closing → loses_units left.killed ≡ false →
      state.ready ≡ [] → right.began ≡ right.finished →
      joined (answers_for state.fixed.value.site (known.script state.fixed.value.app)
      state.fixed.value.peer (map asks right.finished))
      ≡ joined (answers_for state.fixed.value.site
      (known.script state.fixed.value.app) state.fixed.value.peer
      (units state.fixed.value.limits side.story.fed))
  finished_whole true closed unlost ready began = sym (answered_closed began closed)
  finished_whole false open' unlost ready began =
      ap (λ us. joined (answers_for state.fixed.value.site
      (known.script state.fixed.value.app) state.fixed.value.peer us))
      (sym (asked_open unlost ready began open'))

  drained_whole : loses_units left.killed ≡ false → state.ready ≡ [] → state.current ≡ false →
      (b : Buffered S) × ((state.output ≡ Some b) × (b.bytes ≡ [])) →
      left.drained ≡ responses state.fixed.value.limits state.fixed.value.site
      (known.script state.fixed.value.app) state.fixed.value.peer side.story.fed
  unfolding responses
  drained_whole unlost ready current output =
      let texts = agrees.texts app_tells in
      let none : right.current ≡ None = none_by right.current (sym current
      ∙ agrees.course.current_is) in
      let began : right.began ≡ right.finished = agrees.course.began_is
      ∙ (ap (λ (o : Option (Current S)). right.finished ++ map unit_of (option_to_list o)) none
      ∙ append-nil right.finished) in
      let wrote : left.drained ≡ right.wrote = sym
      (agrees.bytes.whole spill_tells output.0 output.1.0
      ∙ (ap (λ xs. left.drained ++ xs) output.1.1 ∙ append-nil left.drained)) in
      let finished : right.wrote ≡ joined (answers_for state.fixed.value.site
      (known.script state.fixed.value.app) state.fixed.value.peer (map asks right.finished))
      = texts.whole ∙ (ap (λ (o : Option (Current S)). joined
      (answers_for state.fixed.value.site (known.script state.fixed.value.app)
      state.fixed.value.peer (map asks right.finished)) ++ written_of o) none ∙ append-nil _) in
      wrote ∙ (finished ∙ finished_whole state.closing refl unlost ready began)

  -- at the end all answers to what came were sent
  pub sent_whole : (site : Site) (script : Script) (peer : Peer) → state.fixed.value.site ≡ site →
      known.script state.fixed.value.app ≡ script → state.fixed.value.peer ≡ peer → (ended : Bool) →
      over_of state ended ≡ Some over.Done →
      side.link.sent ≡ responses state.fixed.value.limits site script peer side.link.arrivals
  sent_whole site script peer site_is script_is peer_is ended is =
      let alive = nobody_by state.dead left.killed right.broke
      (is_done state ended) agrees.death.dead_is keeps.killer is in
      let parts = done_parts state.ready state.current state.output (state.closing
      || ended) alive.1.1 in
      keeps.sent link_tells ∙ (drained_whole (ap loses_units alive.1.0) parts.0 parts.1.0
      (no_output state.output (agrees.death.stands alive.0) parts.1.1)
      ∙ (ap (responses state.fixed.value.limits state.fixed.value.site
      (known.script state.fixed.value.app) state.fixed.value.peer) (keeps.fed link_tells)
      ∙ (ap (λ x. responses state.fixed.value.limits x
      (known.script state.fixed.value.app) state.fixed.value.peer side.link.arrivals) site_is
      ∙ (ap (λ x. responses state.fixed.value.limits site x state.fixed.value.peer
      side.link.arrivals) script_is
      ∙ ap (λ x. responses state.fixed.value.limits site script x side.link.arrivals) peer_is))))

  -- all answers to what came were sent, where it is idle
  pub drained_idle : loses_units left.killed ≡ false → IsIdle state →
      side.link.sent ≡ responses state.fixed.value.limits state.fixed.value.site
      (known.script state.fixed.value.app) state.fixed.value.peer side.link.arrivals
  drained_idle unlost idle =
      let parts = idle_parts state.ready state.current idle.no_units in
      keeps.sent link_tells ∙ (drained_whole unlost parts.0 parts.1
      (no_output state.output idle.stands idle.no_output)
      ∙ ap (responses state.fixed.value.limits state.fixed.value.site
      (known.script state.fixed.value.app) state.fixed.value.peer) (keeps.fed link_tells))

  -- where one of the answers to what came closes, and the channel closes
  closed_whole : state.ready ≡ [] → state.current ≡ false → state.closing ≡ true →
      has_closed state.fixed.value.limits state.fixed.value.site
      (known.script state.fixed.value.app) state.fixed.value.peer side.story.fed ≡ true
  unfolding has_closed
  closed_whole ready current closed =
      let none : right.current ≡ None = none_by right.current (sym current
      ∙ agrees.course.current_is) in
      let began : right.began ≡ right.finished = agrees.course.began_is
      ∙ (ap (λ (o : Option (Current S)). right.finished ++ map unit_of (option_to_list o)) none
      ∙ append-nil right.finished) in
      let last : any_closes (answers_for state.fixed.value.site
      (known.script state.fixed.value.app) state.fixed.value.peer (map asks right.finished))
      ≡ true
      = (agrees.texts app_tells).closes ∙ (sym agrees.course.closing_is ∙ closed) in
      ap (λ us. any_closes (answers_for state.fixed.value.site
      (known.script state.fixed.value.app) state.fixed.value.peer us)) (asked_is
      ∙ ap (λ us. map asks us ++ asked_behind) began)
      ∙ (ap any_closes (map-append (answer_for state.fixed.value.site
      (known.script state.fixed.value.app) state.fixed.value.peer)
      (map asks right.finished) asked_behind)
      ∙ (list_any-append (λ a. a.closes) (answers_for state.fixed.value.site
      (known.script state.fixed.value.app) state.fixed.value.peer (map asks right.finished))
      (answers_for state.fixed.value.site (known.script state.fixed.value.app)
      state.fixed.value.peer asked_behind)
      ∙ ap (λ b. b || any_closes (answers_for state.fixed.value.site
      (known.script state.fixed.value.app) state.fixed.value.peer asked_behind)) last))

  pub closes_whole : over_of state side.ended ≡ Some over.Done →
      (side.link.ended || has_closed state.fixed.value.limits state.fixed.value.site
      (known.script state.fixed.value.app) state.fixed.value.peer side.link.arrivals) ≡ true
  closes_whole is =
      let alive = nobody_by state.dead left.killed right.broke
      (is_done state side.ended) agrees.death.dead_is keeps.killer is in
      let parts = done_parts state.ready state.current state.output (state.closing
      || side.ended) alive.1.1 in
      by state.closing side.ended refl (sym (keeps.ended link_tells))
      (done_last state.ready state.current state.output (state.closing || side.ended) alive.1.1)
      parts.0 parts.1.0
    where
      by : (c e : Bool) → state.closing ≡ c → side.link.ended ≡ e → (c || e) ≡ true →
          state.ready ≡ [] → state.current ≡ false →
          (side.link.ended || has_closed state.fixed.value.limits state.fixed.value.site
          (known.script state.fixed.value.app) state.fixed.value.peer side.link.arrivals) ≡ true
      by true e ec ee either ready current =
          ap (λ b. side.link.ended || b) (ap (has_closed state.fixed.value.limits
          state.fixed.value.site (known.script state.fixed.value.app) state.fixed.value.peer)
          (sym (keeps.fed link_tells)) ∙ closed_whole ready current ec)
          ∙ or_true side.link.ended
      by false true ec ee either ready current = ap (λ b. b
          || has_closed state.fixed.value.limits state.fixed.value.site
          (known.script state.fixed.value.app) state.fixed.value.peer side.link.arrivals) ee
      by false false ec ee either ready current = cc
