-- Retiring those that are over, one after the other.
use Rattle.std.proofs.Common.{◌≡◌, ◌≤◌, ◌<◌, ◌+◌, ◌-◌, ℕ, Bool, true, false, IsTrue, List, [], ◌∷◌}
use Rattle.std.proofs.Common.{◌++◌, Option, None, Some, refl, ap, sym, subst, ◌∙◌, arith, length}
use Rattle.std.proofs.Common.{slice_index_or, append_assoc, append-nil, length-append}
use Rattle.std.specs.Prelude.{filter, remove}
use Rattle.std.proofs.lemmas.List.{map-append}
use Rattle.std.proofs.lemmas.List.Edits.{remove-append_right}
use Rattle.std.proofs.lemmas.List.Elements.{filter-append}
use Rattle.std.proofs.Math.Seq.{get_or-append_seam}
use Rattle.channel.specs.declared.types.Window.{Window}
use Rattle.outside.specs.Net.{NetState, last_moment}
use Rattle.outside.specs.declared.retired.Retired.{Retired}
use Rattle.outside.specs.declared.types.End.{End}
use Rattle.outside.specs.declared.types.Peer.{Peer}
use Rattle.outside.specs.declared.types.Want.{Want}
use Rattle.poll_loop.specs.Accounts.{Accounts, TimeGoesOn, books}
use Rattle.poll_loop.specs.Connections.{Counted, OnlyRetires, SeatIsTimely, is_kept, seated}
use Rattle.poll_loop.specs.Entries.{IsTimely}
use Rattle.poll_loop.specs.Lists.{EachIs}
use Rattle.poll_loop.specs.Retiring.{EndsAt}
use Rattle.poll_loop.specs.Seat.{BearsMoment, Eyes, IsOverAt, OverOrHolds, SeatOut, is_open, viewed}
use Rattle.poll_loop.specs.declared.seat.Mark.{Mark}
use Rattle.poll_loop.specs.declared.seat.Mark.TheVariants as mark
use Rattle.poll_loop.specs.declared.seat.Seat.{Seat}
use Rattle.poll_loop.proofs.Entries.{each_back, timely_goes_on}
use Rattle.poll_loop.proofs.Retired.{accounts_join, accounts_none}

-- ---- marks

over_closed : (m : Mark) (end : End) → EndsAt m (Some end) → is_open m ≡ false
over_closed (mark.Over other) end e = refl
over_closed mark.Rests end e = cc
over_closed mark.Works end e = cc

none_open : (m : Mark) → EndsAt m None → is_open m ≡ true
none_open (mark.Over other) e = cc
none_open mark.Rests e = refl
none_open mark.Works e = refl

over_at : {L P A S R : Type 0} (e : Eyes L P) (now : ℕ) (w : Window) (seat : Seat L A S P R)
    (want : Want) (m : Mark) (end : End) →
    OverOrHolds now w want m (viewed e seat.lane) (Unit {0}) → EndsAt m (Some end) →
    IsOverAt now end seat.lane.shown
over_at e now w seat want (mark.Over other) end h k = let same : other ≡ end =
    cc in subst (λ x. IsOverAt now x seat.lane.shown) same h
over_at e now w seat want mark.Rests end h k = cc
over_at e now w seat want mark.Works end h k = cc

-- ---- lists

filter_out : {X : Type 0} (p : X → Bool) (x : X) → p x ≡ false → filter p (x ∷ []) ≡ []
filter_out p x e = grind (arith, e)

filter_in : {X : Type 0} (p : X → Bool) (x : X) → p x ≡ true → filter p (x ∷ []) ≡ x ∷ []
filter_in p x e = grind (arith, e)

pub no_items : {X : Type 0} (xs : List X) → length xs ≤ 0 → xs ≡ []
no_items [] h = refl
no_items (x ∷ xs) h = absurd (grind (arith, h))

pub seated_length : {L P A S R : Type 0} (e : Eyes L P) (seats : List (Seat L A S P R)) →
    length (seated e seats) ≡ length seats
seated_length e [] = refl
seated_length e (x ∷ xs) = let h = seated_length e xs in grind (arith, h)

-- ---- the net

retires_trans : {L P : Type 0} (a b c : NetState L P) → OnlyRetires a b → OnlyRetires b c →
    OnlyRetires a c
retires_trans {L} {P} a b c t u = record {
  same = let f : NetState L P → NetState L P = λ n. record n { closed = c.closed; live = c.live } in
      u.same ∙ ap f t.same;
  fewer = let x = t.fewer in let y = u.fewer in omega (arith, x, y);
}

pub retires_last : {L P : Type 0} (a b : NetState L P) → OnlyRetires a b →
    last_moment b.last ≡ last_moment a.last
retires_last a b t = ap (λ n. last_moment n.last) t.same

-- ---- counts

-- one more went, and none is left out
pub counted_one : (limit : Option ℕ) (accepted retired more now fewer : ℕ) →
    Counted limit accepted retired now → fewer + 1 ≡ now →
    (retired < accepted → more ≡ retired + 1) →
    Counted limit accepted more fewer
counted_one None accepted retired more now fewer h e m = tt
counted_one (Some limit) accepted retired more now fewer h e m =
    let k = h.1 in
    let below : retired < accepted = omega (arith, k, e) in
    let is = m below in
    (h.0, omega (arith, k, e, is))

-- ---- the loop

-- So many of the first were looked at, and i of these kept.
pub record Sifts {L P A S R : Type 0} (tells : Bool) (e : Eyes L P)
    (Holds : NetState L P → Retired L → Type 0)
    (olds nows : List (Seat L A S P R)) (i : ℕ) (old new : NetState L P)
    (spills spills' fallen fallen' : ℕ) : Type 0 where
  pub looked : List (Seat L A S P R)
  pub rest : List (Seat L A S P R)
  pub were : olds ≡ looked ++ rest
  pub now : nows ≡ filter is_kept looked ++ rest
  pub place : i ≡ length (filter is_kept looked)
  pub accounts : IsTrue tells → Accounts Holds e.plan (books old spills fallen (seated e looked))
      (books new spills' fallen' (seated e (filter is_kept looked)))
  pub net : IsTrue tells → OnlyRetires old new

-- the same, with one that wasn't looked at yet
pub record SiftsAt {L P A S R : Type 0} (tells : Bool) (e : Eyes L P)
    (Holds : NetState L P → Retired L → Type 0)
    (olds nows : List (Seat L A S P R)) (i : ℕ) (old new : NetState L P)
    (spills spills' fallen fallen' : ℕ) : Type 0 where
  pub looked : List (Seat L A S P R)
  pub seat : Seat L A S P R
  pub rest : List (Seat L A S P R)
  pub were : olds ≡ looked ++ seat ∷ rest
  pub now : nows ≡ filter is_kept looked ++ seat ∷ rest
  pub place : i ≡ length (filter is_kept looked)
  pub accounts : IsTrue tells → Accounts Holds e.plan (books old spills fallen (seated e looked))
      (books new spills' fallen' (seated e (filter is_kept looked)))
  pub net : IsTrue tells → OnlyRetires old new

module _ {L P A S R : Type 0} (tells : Bool) (e : Eyes L P)
    (Holds : NetState L P → Retired L → Type 0) (olds : List (Seat L A S P R)) (old : NetState L P)
    (spills fallen : ℕ) where
  -- nothing was looked at
  pub sifts_none : Sifts tells e Holds olds olds 0 old old spills spills fallen fallen
  sifts_none = record {
    looked = [];
    rest = olds;
    were = refl;
    now = refl;
    place = refl;
    accounts = λ _. accounts_none Holds e.plan old spills fallen [];
    net = λ _. record { same = refl; fewer = omega arith };
  }

  module _ (nows : List (Seat L A S P R)) (i : ℕ) (new : NetState L P) (spills' fallen' : ℕ) where
    seat_at : (looked rest : List (Seat L A S P R)) → olds ≡ looked ++ rest →
        nows ≡ filter is_kept looked ++ rest → i ≡ length (filter is_kept looked) →
        (IsTrue tells → Accounts Holds e.plan (books old spills fallen (seated e looked))
        (books new spills' fallen' (seated e (filter is_kept looked)))) →
        (IsTrue tells → OnlyRetires old new) → i < length nows →
        SiftsAt tells e Holds olds nows i old new spills spills' fallen fallen'
    seat_at looked [] were now place accounts net below =
        let n = ap length (now ∙ append-nil (filter is_kept looked)) in
        absurd (omega (arith, n, place, below))
    seat_at looked (x ∷ rest) were now place accounts net below =
        record {
          looked = looked;
          seat = x;
          rest = rest;
          were = were;
          now = now;
          place = place;
          accounts = accounts;
          net = net;
        }

    pub sifts_at : Sifts tells e Holds olds nows i old new spills spills' fallen fallen' →
        i < length nows → SiftsAt tells e Holds olds nows i old new spills spills' fallen fallen'
    sifts_at s below = seat_at s.looked s.rest s.were s.now s.place s.accounts s.net below

    none_left : (s : Sifts tells e Holds olds nows i old new spills spills' fallen fallen') →
        length nows ≤ i → s.rest ≡ []
    none_left s h =
        let n = ap length s.now in
        let sum = length-append (filter is_kept s.looked) s.rest in
        let place = s.place in
        no_items s.rest (omega (arith, n, sum, place, h))

    -- all were looked at
    all_looked : (s : Sifts tells e Holds olds nows i old new spills spills' fallen fallen') →
        length nows ≤ i → olds ≡ s.looked
    all_looked s h = s.were ∙ (ap (λ r. s.looked ++ r) (none_left s h) ∙ append-nil s.looked)

    all_kept : (s : Sifts tells e Holds olds nows i old new spills spills' fallen fallen') →
        length nows ≤ i → nows ≡ filter is_kept s.looked
    all_kept s h = s.now ∙ (ap (λ r. filter is_kept s.looked ++ r) (none_left s h) ∙
        append-nil (filter is_kept s.looked))

    pub sifted : Sifts tells e Holds olds nows i old new spills spills' fallen fallen' →
        length nows ≤ i → nows ≡ filter is_kept olds
    sifted s h = all_kept s h ∙ ap (filter is_kept) (sym (all_looked s h))

    pub sifted_accounts : Sifts tells e Holds olds nows i old new spills spills' fallen fallen' →
        length nows ≤ i → IsTrue tells →
        Accounts Holds e.plan (books old spills fallen (seated e olds))
        (books new spills' fallen' (seated e nows))
    sifted_accounts s h t =
        subst (λ xs. Accounts Holds e.plan (books old spills fallen (seated e xs))
        (books new spills' fallen' (seated e nows))) (sym (all_looked s h))
        (subst (λ xs. Accounts Holds e.plan (books old spills fallen (seated e s.looked))
        (books new spills' fallen' (seated e xs))) (sym (all_kept s h)) (s.accounts t))

    module _ (s : SiftsAt tells e Holds olds nows i old new spills spills' fallen fallen') where
      pub here : (d : Seat L A S P R) → slice_index_or nows i d ≡ s.seat
      here d = ap (λ xs. slice_index_or xs i d) s.now ∙ (ap
          (λ n. slice_index_or (filter is_kept s.looked ++ s.seat ∷ s.rest) n d) s.place ∙
          get_or-append_seam (filter is_kept s.looked) s.seat s.rest d)

      -- what is so of each was so of this one
      pub of_each : (Q : Seat L A S P R → Type 0) → EachIs Q olds → Q s.seat
      of_each Q h = (each_back Q s.looked (s.seat ∷ s.rest) (subst (λ xs. EachIs Q xs) s.were h)).0

      one_more : olds ≡ (s.looked ++ s.seat ∷ []) ++ s.rest
      one_more = s.were ∙ sym (append_assoc s.looked (s.seat ∷ []) s.rest)

      -- one is open at least
      pub one_open : length olds ≤ old.live → IsTrue tells → 1 ≤ new.live
      one_open few t =
          let l = (s.accounts t).live in
          let a = seated_length e s.looked in
          let b = seated_length e (filter is_kept s.looked) in
          let n = ap length s.were in
          let m = length-append s.looked (s.seat ∷ s.rest) in
          let one : length (s.seat ∷ s.rest) ≡ length s.rest + 1 = grind (arith) in
          omega (arith, l, a, b, n, m, one, few)

      removed : remove nows i ≡ filter is_kept s.looked ++ s.rest
      removed =
          let p = s.place in
          let le : length (filter is_kept s.looked) ≤ i = omega (arith, p) in
          let zero_is : i - length (filter is_kept s.looked) ≡ 0 = omega (arith, p) in
          ap (λ xs. remove xs i) s.now ∙ (remove-append_right (filter is_kept s.looked)
          (s.seat ∷ s.rest) (length (filter is_kept s.looked)) i refl le
          ∙ ap (λ n. filter is_kept s.looked ++ remove (s.seat ∷ s.rest) n) zero_is)

      pub one_fewer : (left : List (Seat L A S P R)) → left ≡ remove nows i →
          length left + 1 ≡ length nows
      one_fewer left is =
          let a = ap length (is ∙ removed) in
          let b = ap length s.now in
          let c = length-append (filter is_kept s.looked) s.rest in
          let d = length-append (filter is_kept s.looked) (s.seat ∷ s.rest) in
          let one : length (s.seat ∷ s.rest) ≡ length s.rest + 1 = grind (arith) in
          omega (arith, a, b, c, d, one)

      marked : (seen : Seat L A S P R) (ends : Option End) → seen ≡ slice_index_or nows i seen →
          EndsAt seen.mark ends → EndsAt s.seat.mark ends
      marked seen ends is h = subst (λ (x : Seat L A S P R). EndsAt x.mark ends) (is ∙ here seen) h

      -- the seat that was taken out is over so
      pub over_there : (now : ℕ) (w : Window) (seen taken : Seat L A S P R) (end : End) →
          seen ≡ slice_index_or nows i seen → EndsAt seen.mark (Some end) →
          taken ≡ slice_index_or nows i taken → EachIs (SeatOut e now w) olds →
          IsOverAt now end taken.lane.shown
      over_there now w seen taken end is m was out =
          subst (λ (x : Seat L A S P R). IsOverAt now end x.lane.shown) (sym (was ∙ here taken))
          (over_at e now w s.seat s.seat.want s.seat.mark end (of_each (SeatOut e now w) out).is
          (marked seen (Some end) is m))

      pub bears_there : (now : ℕ) (w : Window) (seen taken : Seat L A S P R) (end : End) →
          seen ≡ slice_index_or nows i seen → EndsAt seen.mark (Some end) →
          taken ≡ slice_index_or nows i taken → EachIs (SeatOut e now w) olds → IsTrue tells →
          last_moment old.last ≡ now → BearsMoment (last_moment new.last) end
      bears_there now w seen taken end is m was out t last =
          subst (λ n. BearsMoment n end) (sym (retires_last old new (s.net t) ∙ last))
          (over_there now w seen taken end is m was out).moment

      pub so_there : (Q : Seat L A S P R → Type 0) (taken : Seat L A S P R) →
          taken ≡ slice_index_or nows i taken → EachIs Q olds → Q taken
      so_there Q taken was h = subst Q (sym (was ∙ here taken)) (of_each Q h)

      pub timely_there : (taken : Seat L A S P R) → taken ≡ slice_index_or nows i taken →
          EachIs (SeatIsTimely e old) olds → IsTrue tells → IsTrue e.tells →
          IsTimely new (e.state taken.lane.link)
      timely_there taken was h t link = timely_goes_on old new (e.state taken.lane.link)
          (s.accounts t).time (so_there (SeatIsTimely e old) taken was h link)

      seated_more : (xs : List (Seat L A S P R)) → seated e (xs ++ s.seat ∷ []) ≡ seated e xs ++
          (s.seat.lane.peer, e.plan s.seat.lane.link) ∷ []
      seated_more xs = map-append (λ (x : Seat L A S P R). (x.lane.peer, e.plan x.lane.link)) xs
          (s.seat ∷ [])

      -- it is kept
      pub keep_at : ((entry : Retired L) → TimeGoesOn new new → Holds new entry → Holds new entry) →
          (seen : Seat L A S P R) → seen ≡ slice_index_or nows i seen → EndsAt seen.mark None →
          Sifts tells e Holds olds nows (i + 1) old new spills spills' fallen fallen'
      keep_at goes seen is m =
          let kept = filter-append is_kept s.looked (s.seat ∷ []) ∙
          ap (λ ys. filter is_kept s.looked ++ ys) (filter_in is_kept s.seat
          (none_open s.seat.mark (marked seen None is m))) in
          let who : List (Peer × P) = (s.seat.lane.peer, e.plan s.seat.lane.link) ∷ [] in
          record {
            looked = s.looked ++ s.seat ∷ [];
            rest = s.rest;
            were = one_more;
            now = s.now ∙ (sym (append_assoc (filter is_kept s.looked) (s.seat ∷ []) s.rest) ∙
                ap (λ ys. ys ++ s.rest) (sym kept));
            place = let n = length-append (filter is_kept s.looked) (s.seat ∷ []) in let k =
                ap length kept in let p = s.place in let one : length (s.seat ∷ []) ≡ 1 =
                refl in omega (arith, n, k, p, one);
            accounts = λ t.
                subst (λ xs. Accounts Holds e.plan (books old spills fallen xs)
                (books new spills' fallen' (seated e
                (filter is_kept (s.looked ++ s.seat ∷ []))))) (sym (seated_more s.looked))
                (subst (λ xs. Accounts Holds e.plan (books old spills fallen
                (seated e s.looked ++ who)) (books new spills' fallen' xs))
                (sym (ap (seated e) kept ∙ seated_more (filter is_kept s.looked)))
                (accounts_join Holds e.plan old new new spills spills' spills' fallen fallen'
                fallen' (seated e s.looked) who (seated e (filter is_kept s.looked)) who goes
                (s.accounts t) (accounts_none Holds e.plan new spills' fallen' who)));
            net = s.net;
          }

      -- it is retired
      pub drop_at : (left : List (Seat L A S P R)) (after : NetState L P) (spills'' fallen'' : ℕ)
          (seen taken : Seat L A S P R) (end : End) →
          ((entry : Retired L) → TimeGoesOn new after → Holds new entry → Holds after entry) →
          seen ≡ slice_index_or nows i seen → EndsAt seen.mark (Some end) →
          taken ≡ slice_index_or nows i taken → left ≡ remove nows i →
          (IsTrue tells → Accounts Holds e.plan (books new spills' fallen'
          ((taken.lane.peer, e.plan taken.lane.link) ∷ [])) (books after spills'' fallen'' []))
          →
          (IsTrue tells → OnlyRetires new after) → Sifts tells e Holds olds left i old after spills
          spills'' fallen fallen''
      drop_at left after spills'' fallen'' seen taken end goes is m was left_is one net =
          let none = filter-append is_kept s.looked (s.seat ∷ []) ∙
          (ap (λ ys. filter is_kept s.looked ++ ys) (filter_out is_kept s.seat
          (over_closed s.seat.mark end (marked seen (Some end) is m))) ∙
          append-nil (filter is_kept s.looked)) in
          let who : List (Peer × P) = (s.seat.lane.peer, e.plan s.seat.lane.link) ∷ [] in
          record {
            looked = s.looked ++ s.seat ∷ [];
            rest = s.rest;
            were = one_more;
            now = left_is ∙ (removed ∙ ap (λ ys. ys ++ s.rest) (sym none));
            place = s.place ∙ ap length (sym none);
            accounts = λ t.
                subst (λ xs. Accounts Holds e.plan (books old spills fallen xs)
                (books after spills'' fallen'' (seated e
                (filter is_kept (s.looked ++ s.seat ∷ []))))) (sym (seated_more s.looked))
                (subst (λ xs. Accounts Holds e.plan (books old spills fallen
                (seated e s.looked ++ who)) (books after spills'' fallen'' xs))
                (append-nil (seated e (filter is_kept s.looked)) ∙ sym (ap (seated e) none))
                (accounts_join Holds e.plan old new after spills spills' spills'' fallen fallen'
                fallen'' (seated e s.looked) who (seated e (filter is_kept s.looked)) [] goes
                (s.accounts t) (subst (λ (x : Seat L A S P R).
                Accounts Holds e.plan (books new spills' fallen'
                ((x.lane.peer, e.plan x.lane.link) ∷ [])) (books after spills'' fallen'' []))
                (was ∙ here taken) (one t))));
            net = λ t. retires_trans old new after (s.net t) (net t);
          }
