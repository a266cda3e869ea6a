-- What a poll leaves, and a turn with its poll.
use Rattle.std.proofs.Common.{◌≡◌, ◌≤◌, ◌||◌, inl, inr, ℕ, Bool, true, false, List}
use Rattle.std.proofs.Common.{[], ◌∷◌, ◌++◌, Option, None, Some, refl, ap, sym, subst, ◌∙◌, arith}
use Rattle.std.proofs.Common.{length, map, take, drop}
use Rattle.std.specs.Prelude.{unwrap_or, Result, Ok, Err, OnOk, is_err}
use Rattle.std.specs.List.{list_any}
use Rattle.std.proofs.lemmas.List.{drop-map, map-append, take-append-drop, take-map}
use Rattle.std.proofs.Math.Seq.{drop-append_seam, take-append_seam}
use Rattle.outside.specs.Causes.{Rose, raised}
use Rattle.outside.specs.Net.{NetState, Poll, TellsTurn, asked_of, last_moment}
use Rattle.outside.specs.declared.retired.Retired.{Retired}
use Rattle.outside.specs.declared.types.Peer.{Peer}
use Rattle.outside.specs.declared.types.Turn.{Turn}
use Rattle.outside.specs.declared.types.Want.{Want}
use Rattle.channel.specs.Views.{is_due}
use Rattle.channel.specs.declared.types.Window.{Window}
use Rattle.poll_loop.specs.Accounts.{Accounts, Books, LastKnows, TimeGoesOn, books}
use Rattle.poll_loop.specs.Connections.{CameMore, Gathers, IsAsked, IsNow, works}
use Rattle.poll_loop.specs.Lists.{EachIs}
use Rattle.poll_loop.specs.NoIdle.{AsksNothing, Hosts, NoIdle, Nudges, Serving, is_accepting}
use Rattle.poll_loop.specs.NoIdle.{is_some_due, views}
use Rattle.poll_loop.specs.Seat.{Eyes, MarkHolds, SeatRests, viewed}
use Rattle.poll_loop.specs.Server.{Carries, Steps}
use Rattle.poll_loop.specs.declared.seat.Mark.{Mark}
use Rattle.poll_loop.specs.declared.seat.Mark.TheVariants as mark
use Rattle.poll_loop.specs.declared.seat.Seat.{Seat}
use Rattle.poll_loop.specs.declared.settings.ServeFault.{ServeFault}
use Rattle.poll_loop.specs.declared.turning.Why.TheVariants as why
use Rattle.poll_loop.proofs.Books.{accounts_none, accounts_refl}
use Rattle.poll_loop.proofs.Working.{hosted_room, hosted_timely, hosts_seats, timely_goes_on}

more_none : (limit : Option ℕ) (a x : ℕ) → CameMore limit a a x x
more_none None a x = tt
more_none (Some limit) a x = refl

raised_more : (n : ℕ) → n ≤ raised n
raised_more n = omega arith

-- a poll that told a turn
module _ {L P : Type 0} (wants : List Want) (accepting : Bool) (turn : Turn)
    (old new : NetState L P) (told : TellsTurn wants accepting turn old new) where
  abbrev poll_is : Poll P
  poll_is = record {
    wants = wants;
    accepting = accepting;
    turn = turn;
    given = old.given;
    live =
        old.live;
  }

  last_is : new.last ≡ Some poll_is
  last_is = ap (λ n. n.last) told.state

  pub time_polled : TimeGoesOn old new
  time_polled = record {
    first = λ m h. ap (λ n. n.first) told.state ∙ ap (λ o. Some (unwrap_or o turn.now)) h;
    later = let l = ap (λ p. last_moment p) last_is in let t = told.later in omega (arith, l, t);
  }

  pub knows_polled : LastKnows new
  knows_polled = record {
    poll = poll_is;
    last = last_is;
    accepted = let g = ap (λ n. length n.given) told.state in omega (arith, g);
    open' = let l = ap (λ n. n.live) told.state in omega (arith, l);
  }

  pub now_polled : IsNow new turn.now
  now_polled = record {
    last = ap (λ p. last_moment p) last_is;
    within = record {
      first = unwrap_or old.first turn.now;
      began = ap (λ n. n.first) told.state;
      since = told.after_first;
      until = let l = ap (λ p. last_moment p) last_is in omega (arith, l);
    };
  }

module _ {L P : Type 0} (Holds : NetState L P → Retired L → Type 0) (plan : L → P)
    (limit : Option ℕ) (accepted : ℕ) where
  -- nothing was done
  pub steps_none : (b : Books L P) (fault : ServeFault) →
      Steps (Some (why.Failed fault)) Holds plan limit accepted accepted b b
  steps_none b fault = record {
    accounts = accounts_refl Holds plan b;
    knows = record { still = λ k. k; either = inl (refl, refl) };
    ends = λ h. h;
    came_more = more_none limit accepted (length b.net.given);
  }

  -- a poll failed
  pub steps_failed : (old new : NetState L P) (x f : ℕ) (who : List (Peer × P))
      (fault : ServeFault) → new ≡ record old { polls = raised old.polls } →
      Steps (Some (why.Failed fault)) Holds plan limit accepted accepted (books old x f who)
      (books new x f who)
  steps_failed old new x f who fault e =
      let first = ap (λ n. n.first) e in
      let last = ap (λ n. n.last) e in
      let live = ap (λ n. n.live) e in
      let given = ap (λ n. n.given) e in
      record {
        accounts = accounts_none Holds plan _ _ (ap (λ n. n.closed) e) given refl live refl refl
            (ap (λ n. n.bound) e) (ap (λ n. n.quiet) e)
            (let p = ap (λ n. n.polls) e in let r = raised_more old.polls in omega (arith, p, r))
            (record {
              first = λ m h. first ∙ h;
              later = let l =
                  ap (λ p. last_moment p) last in omega (arith, l);
            });
        knows = record {
          still = λ k. record {
            poll = k.poll;
            last = last ∙ k.last;
            accepted = let g = ap length given in let a = k.accepted in omega (arith, g, a);
            open' = let g = ap length given in let o = k.open' in omega (arith, g, o, live);
          };
          either = inl (ap (λ n. n.closed) e, refl);
        };
        ends = λ h. sym (ap (λ n. n.stopped) e) ∙ h;
        came_more = subst (λ n. CameMore limit accepted accepted (length old.given) n)
            (sym (ap length given)) (more_none limit accepted (length old.given));
      }

  module _ (wants : List Want) (accepting : Bool) (turn : Turn) (old new : NetState L P)
      (told : TellsTurn wants accepting turn old new) where
    accounts_polled : (x f : ℕ) (who : List (Peer × P)) →
        Accounts Holds plan (books old x f who) (books new x f who)
    accounts_polled x f who = accounts_none Holds plan _ _ (ap (λ n. n.closed) told.state)
        (ap (λ n. n.given) told.state) refl (ap (λ n. n.live) told.state) refl refl
        (ap (λ n. n.bound) told.state) (ap (λ n. n.quiet) told.state)
        (let p = ap (λ n. n.polls) told.state in let r =
        raised_more old.polls in omega (arith, p, r))
        (time_polled wants accepting turn old new told)

    -- a poll told to stop
    pub steps_stopped : (x f : ℕ) (who : List (Peer × P)) → turn.stop ≡ true →
        Steps (Some why.Stopped) Holds plan limit accepted accepted (books old x f who)
        (books new x f who)
    steps_stopped x f who stop = record {
      accounts = accounts_polled x f who;
      knows = record {
        still = λ _. knows_polled wants accepting turn old new told;
        either =
            inr (knows_polled wants accepting turn old new told);
      };
      ends = record {
        stopped = ap (λ n. n.stopped) told.state ∙ stop;
        polled = let p = ap (λ n. n.polls) told.state in omega (arith, p);
        poll = poll_is wants accepting turn old new told;
        last = last_is wants accepting turn old new told;
        told = stop;
        given = ap (λ n. n.given) told.state;
        empty = λ q. told.quiet q stop;
      };
      came_more = subst (λ n. CameMore limit accepted accepted (length old.given) n)
          (sym (ap (λ n. length n.given) told.state)) (more_none limit accepted (length old.given));
    }

-- the connections stay hosted
pub hosts_polled : {L P A S R : Type 0} (e : Eyes L P) (old new : NetState L P)
    (seats : List (Seat L A S P R)) → new.live ≡ old.live → TimeGoesOn old new →
    Hosts e old (map (λ seat. seat.lane) seats) → Hosts e new (map (λ seat. seat.lane) seats)
hosts_polled e old new seats live time h =
    hosts_seats e new seats (let r = hosted_room e old seats h in omega (arith, r, live))
    (timely_goes_on e old new seats time (hosted_timely e old seats h))

-- ---- the wants of a poll

module _ {L A S P R : Type 0} (seats : List (Seat L A S P R)) (asked : ℕ) (before after : List Want)
    (count : asked ≡ length seats) (gathers : Gathers seats before)
    (same : map asked_of after ≡ map asked_of before) where
  asked_are : map asked_of after ≡ map (λ seat. asked_of seat.want) seats ++ map asked_of
      gathers.nudge
  asked_are = same ∙ ap (map asked_of) gathers.are ∙ map-append asked_of
      (map (λ seat. seat.want) seats) gathers.nudge
      ∙ ap (λ xs. xs ++ map asked_of gathers.nudge) (Rattle.poll_loop.proofs.Working.map_twice
      asked_of (λ seat. seat.want) seats)

  many : asked ≡ length (map (λ seat. asked_of seat.want) seats)
  many = count ∙ sym (Rattle.poll_loop.proofs.Working.map_length (λ seat. asked_of seat.want) seats)

  pub is_asked : IsAsked seats asked after
  is_asked = record {
    all = count;
    asks = sym (take-map asked_of asked after) ∙ ap (take asked) asked_are
        ∙ subst (λ n. take n (map (λ seat. asked_of seat.want) seats ++ map asked_of gathers.nudge)
        ≡ map (λ seat. asked_of seat.want) seats) (sym many) (take-append_seam _ _);
  }

  rest_are : map asked_of (drop asked after) ≡ map asked_of gathers.nudge
  rest_are = sym (drop-map asked_of asked after) ∙ ap (drop asked) asked_are
      ∙ subst (λ n. drop n (map (λ seat. asked_of seat.want) seats ++ map asked_of gathers.nudge) ≡
      map asked_of gathers.nudge) (sym many) (drop-append_seam
      (map (λ seat. asked_of seat.want) seats) (map asked_of gathers.nudge))

  pub nudged : (due : Bool) → list_any (λ seat. works seat.mark) seats ≡ due →
      Nudges due (drop asked after)
  nudged due is = nudges_as due gathers.nudge (drop asked after) (sym rest_are)
      (subst (λ b. Nudges b gathers.nudge) is gathers.nudges)
    where
      nothing_as : (a b : Want) → asked_of b ≡ asked_of a → AsksNothing a → AsksNothing b
      nothing_as a b e h = (ap (λ x. x.1) e ∙ h.0, ap (λ x. x.2) e ∙ h.1)

      each_as : (xs ys : List Want) → map asked_of ys ≡ map asked_of xs → EachIs AsksNothing xs →
          EachIs AsksNothing ys
      each_as [] [] e h = tt
      each_as [] (y ∷ ys) e h = cc
      each_as (x ∷ xs) [] e h = cc
      each_as (x ∷ xs) (y ∷ ys) e h = (nothing_as x y (heads e) h.0, each_as xs ys (tails e) h.1)
        where
          heads : {X : Type 0} {a b : X} {ks ls : List X} → a ∷ ks ≡ b ∷ ls → a ≡ b
          heads e = cc

          tails : {X : Type 0} {a b : X} {ks ls : List X} → a ∷ ks ≡ b ∷ ls → ks ≡ ls
          tails e = cc

      nudges_as : (due : Bool) (xs ys : List Want) → map asked_of xs ≡ map asked_of ys →
          Nudges due xs → Nudges due ys
      nudges_as true xs ys e h =
          let a = ap length e in
          let b = Rattle.poll_loop.proofs.Working.map_length asked_of xs in
          let c = Rattle.poll_loop.proofs.Working.map_length asked_of ys in
          let d = h.0 in
          (omega (arith, a, b, c, d), each_as xs ys (sym e) h.1)
      nudges_as false xs ys e h =
          let a = ap length e in
          let b = Rattle.poll_loop.proofs.Working.map_length asked_of ys in
          let c = ap length h in
          Rattle.poll_loop.proofs.Carrying.none_left ys (let d : length (map asked_of xs) ≡ length
          xs = Rattle.poll_loop.proofs.Working.map_length asked_of xs in omega
          (arith, a, b, c, d))

marked_due : (w : Window) (m : Mark) (s : Rattle.channel.specs.Views.Shown) → MarkHolds w m s →
    works m ≡ is_due w s
marked_due w mark.Rests s h = sym h
marked_due w mark.Works s h = sym h
marked_due w (mark.Over end) s h = absurd h

pub due_by_marks : {L P A S R : Type 0} (e : Eyes L P) (w : Window)
    (seats : List (Seat L A S P R)) → EachIs (SeatRests e w) seats →
    list_any (λ seat. works seat.mark) seats ≡ is_some_due w
    (map (viewed e) (map (λ seat. seat.lane) seats))
due_by_marks e w [] h = refl
due_by_marks e w (s ∷ ss) h =
    ap (λ b. b || list_any (λ seat. works seat.mark) ss)
    (marked_due w s.mark s.lane.shown h.0.holds.marked) ∙
    ap (λ b. is_due w s.lane.shown || b) (due_by_marks e w ss h.1)

-- ---- a turn

pub no_idle_by : {L P A R : Type 0} (e : Eyes L P) (before now : Serving L A R) (wants : List Want)
    (asked : ℕ) (accepting : Bool) (turn : Turn) (nobody : Type 0) (old mid new : NetState L P) →
    TellsTurn wants accepting turn old mid →
    Carries e (take asked wants) turn before now nobody mid new →
    turn.stop ≡ false → accepting ≡ is_accepting before →
    Nudges (is_some_due before.settings.window (views e before)) (drop asked wants) →
    NoIdle e before now nobody old new
no_idle_by {L} {P} e before now wants asked accepting turn nobody old mid new told c unstopped
    accepts nudges =
    let s = told.state in
    let poll : Poll P = record {
      wants = wants;
      accepting = accepting;
      turn = turn;
      given =
          old.given;
      live = old.live;
    } in
    record {
      polled = c.polls.polls ∙ ap (λ n. n.polls) s;
      poll = poll;
      last = c.polls.last ∙ ap (λ n. n.last) s;
      unstopped = unstopped;
      given = refl;
      live = refl;
      accepting = accepts;
      cases = c.cases;
      were = c.were;
      nudge = drop asked wants;
      asked = sym (ap (λ xs. xs ++ drop asked wants) c.asked ∙ take-append-drop asked wants);
      nudges = nudges;
      each = c.each;
      came = c.came;
      are = c.are;
      fresh = c.fresh;
      since = c.since;
      given_since = c.given_since ∙ ap (λ g. g ++ c.since) (ap (λ n. n.given) s);
      few = c.few;
      answers = λ come. let a = c.answers come in (
        subst (λ k. Rose k new.asked) (ap (λ n. n.asked) s) a.0,
        elim a.1 [
          | inl p ↦ inl (subst (λ k. Rose k new.put_off) (ap (λ n. n.put_off) s) p)
          | inr h ↦ inr (let x = ap (λ n. length n.closed) s in let y =
              ap (λ n. n.live) s in omega (arith, h, x, y))
        ],
      );
      all = c.all;
      uncalled = λ none. c.uncalled none ∙ ap (λ n. n.given) s;
      on_time = c.on_time;
      checked = c.checked;
      within = c.within;
      unmet = c.unmet;
    }

-- all wants were gathered
pub on_gathered : {L A S P R X E : Type 0} (r : Result X E) (seen seats : List (Seat L A S P R))
    (wants : List Want) → seen ≡ seats → is_err r ≡ false → OnOk r (Gathers seen wants) →
    Gathers seats wants
on_gathered (Ok x) seen seats wants same e h = subst (λ ss. Gathers ss wants) same h
on_gathered (Err x) seen seats wants same e h = cc
