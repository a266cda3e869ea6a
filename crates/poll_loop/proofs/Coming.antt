-- Accepting connections.
use Rattle.std.proofs.Common.{◌≡◌, ◌≤◌, ◌+◌, ◌-◌, ◌<◌, ◌⊎◌, inl, inr, ℕ, zero, suc, Bool, true}
use Rattle.std.proofs.Common.{false, IsTrue, List, [], ◌∷◌, ◌++◌, length, refl, ap, sym, subst, ◌∙◌}
use Rattle.std.proofs.Common.{arith, append_assoc, append-nil, length-append, ltb-true}
use Rattle.std.specs.Prelude.{◌&&◌, nat_lt, IsPermutation, Option, Some, None}
use Rattle.std.proofs.lemmas.List.{length-map, map-append}
use Rattle.std.proofs.lemmas.List.Sorted.{IsPermutation-append_comm, IsPermutation-refl}
use Rattle.std.proofs.lemmas.List.Sorted.{length_permutation}
use Rattle.channel.specs.Output.{IsPrefix}
use Rattle.channel.specs.Views.{Stirs, View, fresh, is_done, is_due, telling, want_of}
use Rattle.channel.specs.declared.types.Window.{Window}
use Rattle.outside.specs.Causes.{Rose}
use Rattle.outside.specs.Link.{LinkState, opened}
use Rattle.outside.specs.Net.{GivesLink, NetState, asked_of}
use Rattle.outside.specs.declared.net.Net.{Ghosts as Nets}
use Rattle.outside.specs.declared.retired.Retired.{Retired}
use Rattle.outside.specs.declared.spill.Spills.{Ghosts as Stores}
use Rattle.outside.specs.declared.types.End.TheVariants as over
use Rattle.outside.specs.declared.types.Peer.{Peer}
use Rattle.outside.specs.declared.types.Want.{Want}
use Rattle.poll_loop.specs.Accounts.{Accounts, Books, TimeGoesOn, books, retired_of}
use Rattle.poll_loop.specs.Connections.{CameAll, CameBy, CameMore, CameUntil, LeavesNobody}
use Rattle.poll_loop.specs.Connections.{SamePolls, SeatsOne, Stays, Takes, seated}
use Rattle.poll_loop.specs.Entries.{EntryHolds, Grounds, IsTimely, IsWithin, Service, app_faults}
use Rattle.poll_loop.specs.Entries.{spill_faults}
use Rattle.poll_loop.specs.Seat.{Eyes, SeatHolds, viewed}
use Rattle.poll_loop.specs.Settings.{fixed_by, is_below}
use Rattle.poll_loop.specs.declared.connections.Came.{Came}
use Rattle.poll_loop.specs.declared.connections.Connections.{Connections}
use Rattle.poll_loop.specs.declared.connections.Came.TheVariants as came
use Rattle.poll_loop.specs.declared.seat.Mark.TheVariants as mark
use Rattle.poll_loop.specs.declared.seat.Seat.{Seat}
use Rattle.poll_loop.specs.declared.settings.Settings.{Settings}
use Rattle.poll_loop.proofs.Books.{accounts_none, accounts_refl, accounts_trans, each_append}
use Rattle.poll_loop.proofs.Books.{time_same}

-- a new channel rests
seat_fresh : (now : ℕ) (w : Window) (want : Want) (v : View) → v.shown ≡ fresh now →
    asked_of want ≡ want_of w v → Stirs w v.shown → SeatHolds w want mark.Rests v
seat_fresh now w want v shown asks stirs = record {
  up = record { alive = ap (λ s. s.dead) shown; undone = ap is_done shown };
  marked = ap (is_due w) shown;
  asks = asks;
  stirs = stirs;
}

-- a new channel has a seat
pub seats_one : {L P A S R : Type 0} (e : Eyes L P) (settings : Settings) (app : A) (now : ℕ)
    (link : L) (peer : Peer) (olds news : List (Seat L A S P R)) (seat : Seat L A S P R) →
    news ≡ olds ++ seat ∷ [] → seat.lane.link ≡ link → seat.lane.peer ≡ peer →
    seat.lane.fixed ≡ fixed_by settings app peer → seat.lane.shown ≡ fresh now →
    seat.mark ≡ mark.Rests →
    asked_of seat.want ≡ want_of seat.lane.fixed.window (viewed e seat.lane) →
    Stirs seat.lane.fixed.window seat.lane.shown → SeatsOne e settings app now link peer olds
    news
seats_one e settings app now link peer olds news seat are link_is peer_is fixed shown rests asks
    stirs =
    let window : seat.lane.fixed.window ≡ settings.window = ap (λ f. f.window) fixed in
    record {
      seat = seat;
      are = are;
      link_is = link_is;
      peer_is = peer_is;
      shown = shown;
      rests = record {
        window = window;
        holds = subst (λ m. SeatHolds settings.window seat.want m (viewed e seat.lane)) (sym rests)
            (subst (λ w. SeatHolds w seat.want mark.Rests (viewed e seat.lane)) window
            (seat_fresh now seat.lane.fixed.window seat.want (viewed e seat.lane) shown asks
            stirs));
      };
      by = fixed ∙ ap (fixed_by settings app) (sym peer_is);
    }

-- ---- what is known of the net

pub seated_one : {L P A S R : Type 0} (e : Eyes L P) (settings : Settings) (app : A) (now : ℕ)
    (link : L) (peer : Peer) (olds news : List (Seat L A S P R)) →
    SeatsOne e settings app now link peer olds news → seated e news ≡ seated e olds ++
    (peer, e.plan link) ∷ []
seated_one {L} {P} {A} {S} {R} e settings app now link peer olds news s =
    let own : (s.seat.lane.peer, e.plan s.seat.lane.link) ∷ [] ≡ (peer, e.plan link) ∷ [] =
    ap (λ p. (p, e.plan s.seat.lane.link) ∷ []) s.peer_is ∙
    ap (λ l. (peer, e.plan l) ∷ []) s.link_is in
    let whole : seated e (olds ++ s.seat ∷ []) ≡ seated e olds ++
    (s.seat.lane.peer, e.plan s.seat.lane.link) ∷ []
    = map-append {B = Peer × P} (λ (seat : Seat L A S P R). (seat.lane.peer, e.plan seat.lane.link))
    olds (s.seat ∷ []) in
    ap (seated e) s.are ∙ (whole ∙ ap (λ xs. seated e olds ++ xs) own)

module _ {L P : Type 0} (Holds : NetState L P → Retired L → Type 0) (plan : L → P)
    (old : NetState L P) (spills spills' fallen fallen' : ℕ) (who who' : List (Peer × P))
    (same : spills' ≡ spills) (none : fallen' ≡ fallen) where
  -- the net was asked, and nobody came
  pub accounts_asked : (new : NetState L P) (a b : ℕ) → new ≡ record old
      { asked = a; put_off = b } → who' ≡ who → Accounts Holds plan (books old spills fallen who)
      (books new spills' fallen' who')
  accounts_asked new a b e w =
      let p = ap (λ n. n.polls) e in
      accounts_none Holds plan (books old spills fallen who) (books new spills' fallen' who')
      (ap (λ n. n.closed) e) (ap (λ n. n.given) e) w (ap (λ n. n.live) e) same none
      (ap (λ n. n.bound) e) (ap (λ n. n.quiet) e) (omega (arith, p))
      (time_same old new (ap (λ n. n.first) e) (ap (λ n. n.last) e))

  module _ (peer : Peer) (made : P) where
    -- one came and has a seat
    pub accounts_seated : (new : NetState L P) → GivesLink made peer old new →
        who' ≡ who ++ (peer, made) ∷ [] → Accounts Holds plan (books old spills fallen who)
        (books new spills' fallen' who')
    accounts_seated new given w =
        let e = given.state in
        let p = ap (λ n. n.polls) e in
        let l = ap (λ n. n.live) e in
        let n = ap length w in
        let one : List (Peer × P) = (peer, made) ∷ [] in
        let m = length-append who one in
        let single : length one ≡ 1 = refl in
        let zero_spills : spill_faults {L = L} [] ≡ 0 = refl in
        let zero_falls : app_faults {L = L} [] ≡ 0 = refl in
        record {
          entries = [];
          closed = ap (λ n. n.closed) e ∙ sym (append-nil old.closed);
          each = tt;
          since = (peer, made) ∷ [];
          given = ap (λ n. n.given) e;
          same = subst (λ xs. IsPermutation xs who') w (IsPermutation-refl who');
          live = omega (arith, l, n, m, single);
          spilled = omega (arith, zero_spills, same);
          fell = omega (arith, zero_falls, none);
          bound = ap (λ n. n.bound) e;
          quiet = ap (λ n. n.quiet) e;
          polls = omega (arith, p);
          time = time_same old new (ap (λ n. n.first) e) (ap (λ n. n.last) e);
        }

  -- one came and was retired at once
  pub accounts_refused : (mid new : NetState L P) (peer : Peer) (link : L) →
      GivesLink (plan link) peer old mid →
      new ≡ record mid {
        closed = mid.closed ++ record {
          peer = peer;
          link = link;
          end =
              over.NoMemory;
        } ∷ [];
        live = mid.live - 1;
      } →
      Holds new (record { peer = peer; link = link; end = over.NoMemory }) → who' ≡ who →
      Accounts Holds plan (books old spills fallen who) (books new spills' fallen' who')
  accounts_refused mid new peer link given retired holds w =
      let e = given.state in
      let r = retired in
      let p = ap (λ n. n.polls) r ∙ ap (λ n. n.polls) e in
      let l = ap (λ n. n.live) e in
      let l' = ap (λ n. n.live) r in
      let n = ap length w in
      let entry : Retired L = record { peer = peer; link = link; end = over.NoMemory } in
      let zero_spills : spill_faults (entry ∷ []) ≡ 0 = refl in
      let zero_falls : app_faults (entry ∷ []) ≡ 0 = refl in
      record {
        entries = entry ∷ [];
        closed = ap (λ n. n.closed) r ∙ ap (λ xs. xs ++ entry ∷ []) (ap (λ n. n.closed) e);
        each = (holds, tt);
        since = (peer, plan link) ∷ [];
        given = ap (λ n. n.given) r ∙ ap (λ n. n.given) e;
        same = subst (λ xs. IsPermutation (who ++ (peer, plan link) ∷ []) ((peer, plan link) ∷ xs))
            (sym w) (IsPermutation-append_comm who ((peer, plan link) ∷ []));
        live = omega (arith, l, l', n);
        spilled = omega (arith, zero_spills, same);
        fell = omega (arith, zero_falls, none);
        bound = ap (λ n. n.bound) r ∙ ap (λ n. n.bound) e;
        quiet = ap (λ n. n.quiet) r ∙ ap (λ n. n.quiet) e;
        polls = omega (arith, p);
        time = time_same old new (ap (λ n. n.first) r ∙ ap (λ n. n.first) e)
            (ap (λ n. n.last) r ∙ ap (λ n. n.last) e);
      }

-- ---- who was refused memory

pub telling_link : (link spill app : Bool) → IsTrue (telling link spill app).all → IsTrue link
telling_link true spill app h = refl
telling_link false spill app h = h

-- a link to which nothing came and nothing was sent
pub entry_refused : {L P : Type 0} (service : Service) (grounds : Grounds) (state : L → LinkState)
    (faults : L → ℕ) (net : NetState L P) (now : ℕ) (peer : Peer) (link : L) →
    (IsTrue service.tells.all → IsTrue service.tells.link) →
    (IsTrue service.tells.link → state link ≡ opened now) → IsWithin net now →
    EntryHolds service grounds state faults net (record {
      peer = peer;
      link = link;
      end =
          over.NoMemory;
    })
entry_refused service grounds state faults net now peer link told fresh within = record {
  prefix = λ t. let e = fresh (told t) in subst (λ s. IsPrefix s.sent
      (service.owed peer s.arrivals).output) (sym e) (record
      { rest = (service.owed peer []).output; whole = refl });
  timely = λ t. subst (IsTimely net) (sym (fresh t)) (record { came = tt; touched = within });
  cause = tt;
}

-- ---- several accepts

-- What the net is after so many accepts that brought one each.
pub record NetSoFar {L P : Type 0} (Holds : NetState L P → Retired L → Type 0) (plan : L → P)
    (limit : Option ℕ) (rounds : ℕ) (old new : Books L P) (before now : ℕ) : Type 0 where
  pub accounts : Accounts Holds plan old new
  pub same_polls : SamePolls old.net new.net
  pub came_more : CameMore limit before now (length old.net.given) (length new.net.given)
  pub first : rounds ≡ 0 → new.net ≡ old.net
  pub some : 0 < rounds → Rose old.net.asked new.net.asked
      × (length old.net.given < length new.net.given)
  pub put_off : new.net.put_off ≡ old.net.put_off
  pub each : rounds + length old.net.given ≤ length new.net.given

-- The same with the seats.
pub record SoFar {L P A S R : Type 0} (tells : Bool) (Holds : NetState L P → Retired L → Type 0)
    (e : Eyes L P) (settings : Settings) (app : A) (now rounds : ℕ)
    (olds news : List (Seat L A S P R)) (old new : Books L P) (accepted accepted' : ℕ) : Type 0
  where
    pub takes : Takes e settings app now olds news
    pub seats : rounds ≡ 0 → news ≡ olds
    pub count : rounds ≡ 0 → accepted' ≡ accepted
    pub few : length news ≤ length olds + rounds
    pub net : IsTrue tells → NetSoFar Holds e.plan settings.serve_limit rounds old new accepted
        accepted'

pub same_polls_refl : {L P : Type 0} (net : NetState L P) → SamePolls net net
same_polls_refl net = record { polls = refl; stopped = refl; first = refl; last = refl }

pub same_polls_trans : {L P : Type 0} (a b c : NetState L P) → SamePolls a b → SamePolls b c →
    SamePolls a c
same_polls_trans a b c x y = record {
  polls = y.polls ∙ x.polls;
  stopped = y.stopped ∙ x.stopped;
  first = y.first ∙ x.first;
  last = y.last ∙ x.last;
}

pub came_more_trans : (limit : Option ℕ) (a b c x y z : ℕ) → CameMore limit a b x y →
    CameMore limit b c y z → CameMore limit a c x z
came_more_trans None a b c x y z h k = tt
came_more_trans (Some limit) a b c x y z h k = omega (arith, h, k)

came_more_same : (limit : Option ℕ) (a x : ℕ) → CameMore limit a a x x
came_more_same None a x = tt
came_more_same (Some limit) a x = refl

-- as many more were given as were retired or are open
pub more_by_given : {L P : Type 0} (Holds : NetState L P → Retired L → Type 0) (plan : L → P)
    (old new : Books L P) → Accounts Holds plan old new →
    length old.net.given < length new.net.given → length old.net.closed + old.net.live < length
    new.net.closed + new.net.live
more_by_given {L} {P} Holds plan old new a more =
    let c = ap length a.closed in
    let c' = length-append old.net.closed a.entries in
    let g = ap length a.given in
    let g' = length-append old.net.given a.since in
    let l = a.live in
    let p = length_permutation _ _ a.same in
    let p' = length-append old.who a.since in
    let p'' = length-append (retired_of plan a.entries) new.who in
    let m : length (retired_of plan a.entries) ≡ length a.entries =
    length-map {B = Peer × P} a.entries (λ (e : Retired L). (e.peer, plan e.link)) in
    omega (arith, more, c, c', g, g', l, p, p', p'', m)

pub takes_refl : {L P A S R : Type 0} (e : Eyes L P) (settings : Settings) (app : A) (now : ℕ)
    (seats : List (Seat L A S P R)) → Takes e settings app now seats seats
takes_refl e settings app now seats = record {
  came = [];
  are = sym (append-nil seats);
  rest = tt;
  by = tt;
  opened = tt;
  faultless = tt;
  shown = tt;
}

pub takes_trans : {L P A S R : Type 0} (e : Eyes L P) (settings : Settings) (app : A) (now : ℕ)
    (a b c : List (Seat L A S P R)) → Takes e settings app now a b → Takes e settings app now b c →
    Takes e settings app now a c
takes_trans e settings app now a b c x y = record {
  came = x.came ++ y.came;
  are = y.are ∙ (ap (λ s. s ++ y.came) x.are ∙ append_assoc a x.came y.came);
  rest = each_append _ x.came y.came x.rest y.rest;
  by = each_append _ x.came y.came x.by y.by;
  opened = each_append _ x.came y.came x.opened y.opened;
  faultless = each_append _ x.came y.came x.faultless y.faultless;
  shown = each_append _ x.came y.came x.shown y.shown;
}

rose_more : {L P : Type 0} (rounds : ℕ) (a b c : NetState L P) → (rounds ≡ 0 → b ≡ a) →
    (0 < rounds → Rose a.asked b.asked × (length a.given < length b.given)) → Rose b.asked c.asked →
    Rose a.asked c.asked
rose_more zero a b c first some r = subst (λ n. Rose n.asked c.asked) (first refl) r
rose_more (suc n) a b c first some r = let s = (some (omega arith)).0 in omega (arith, s, r)

put_off_more : {L P : Type 0} (rounds : ℕ) (a b c : NetState L P) {Q : Type 0} →
    (rounds ≡ 0 → b ≡ a) → Rose b.put_off c.put_off → (0 < rounds → Q) →
    Rose a.put_off c.put_off ⊎ Q
put_off_more zero a b c first r some = inl (subst (λ n. Rose n.put_off c.put_off) (first refl) r)
put_off_more (suc n) a b c first r some = inr (some (omega arith))

module _ {L P : Type 0} (Holds : NetState L P → Retired L → Type 0) (plan : L → P)
    (limit : Option ℕ) where
  net_start : (b : Books L P) (accepted : ℕ) → NetSoFar Holds plan limit 0 b b accepted accepted
  net_start b accepted = record {
    accounts = accounts_refl Holds plan b;
    same_polls = same_polls_refl b.net;
    came_more = came_more_same limit accepted (length b.net.given);
    first = λ _. refl;
    some = λ h. absurd (omega (arith, h));
    put_off = refl;
    each = omega arith;
  }

  module _ (later : (old new : NetState L P) → TimeGoesOn old new → (entry : Retired L) →
      Holds old entry → Holds new entry) (rounds : ℕ) (a b c : Books L P) (x y z : ℕ)
      (sofar : NetSoFar Holds plan limit rounds a b x y) (more : Accounts Holds plan b c) where
    longer : length a.net.given ≤ length b.net.given
    longer = let g = ap length sofar.accounts.given in let m =
        length-append a.net.given sofar.accounts.since in omega (arith, g, m)

    longer' : length b.net.given ≤ length c.net.given
    longer' = let g = ap length more.given in let m = length-append b.net.given more.since in omega
        (arith, g, m)

    whole : Accounts Holds plan a c
    whole = accounts_trans Holds plan later a b c sofar.accounts more

    net_more : SamePolls b.net c.net → CameMore limit y z (length b.net.given)
        (length c.net.given) → CameBy came.One b.net c.net →
        NetSoFar Holds plan limit (rounds + 1) a c x z
    net_more same counts by =
        let l = longer in
        let g = by.1 in
        record {
          accounts = whole;
          same_polls = same_polls_trans a.net b.net c.net sofar.same_polls same;
          came_more = came_more_trans limit x y z (length a.net.given) (length b.net.given)
              (length c.net.given) sofar.came_more counts;
          first = λ e. absurd (let e' : rounds + 1 ≡ 0 = e in omega (arith, e'));
          some = λ _. (
            rose_more rounds a.net b.net c.net sofar.first sofar.some by.0,
            omega (arith, l, g),
          );
          put_off = by.2 ∙ sofar.put_off;
          each = let h = sofar.each in omega (arith, h, g);
        }

    -- whatever the last accept brought
    net_answers : (last : Came) → CameBy last b.net c.net → CameAll last a.net c.net
    net_answers came.One by =
        let l = longer in
        let g = by.1 in (
          rose_more rounds a.net b.net c.net sofar.first sofar.some by.0,
          inr (more_by_given Holds plan a c whole (omega (arith, l, g))),
        )
    net_answers came.Nobody by = (
      rose_more rounds a.net b.net c.net sofar.first sofar.some by.0,
      put_off_more rounds a.net b.net c.net sofar.first by.1 (λ h.
          let s = sofar.some h in
          let g = s.1 in
          let l = longer' in
          more_by_given Holds plan a c whole (omega (arith, l, g))),
    )
    net_answers came.Failed by = tt
    net_answers came.NoMemory by = tt

    -- the last accept brought nobody
    net_until : (last : Came) (settings : Settings) (nobody : Type 0) (open' : ℕ) →
        ¬ (last ≡ came.One) → LeavesNobody last nobody →
        CameUntil last settings nobody open' z a.net c.net
    net_until came.One settings nobody open' other left = absurd (other refl)
    net_until came.Nobody settings nobody open' other left = inl left
    net_until came.Failed settings nobody open' other left = tt
    net_until came.NoMemory settings nobody open' other left = tt

no_room : (n limit : ℕ) (b : Bool) → (nat_lt n limit && b) ≡ false → (limit ≤ n) ⊎ (b ≡ false)
no_room n limit b h = by_test (nat_lt n limit) refl h
  where
    by_test : (t : Bool) → nat_lt n limit ≡ t → (t && b) ≡ false → (limit ≤ n) ⊎ (b ≡ false)
    by_test true e h = inr h
    by_test false e h = inl (grind (arith, e))

module _ {L P A S R : Type 0} (tells : Bool) (Holds : NetState L P → Retired L → Type 0)
    (e : Eyes L P) (settings : Settings) (app : A) (now : ℕ) where
  pub start_accepting : (seats : List (Seat L A S P R)) (b : Books L P) (accepted : ℕ) →
      SoFar tells Holds e settings app now 0 seats seats b b accepted accepted
  start_accepting seats b accepted = record {
    takes = takes_refl e settings app now seats;
    seats = λ _. refl;
    count = λ _. refl;
    few = omega arith;
    net = λ _. net_start Holds e.plan settings.serve_limit b accepted;
  }

  module _ (later : (old new : NetState L P) → TimeGoesOn old new → (entry : Retired L) →
      Holds old entry → Holds new entry) (rounds : ℕ) (s1 s2 s3 : List (Seat L A S P R))
      (a b c : Books L P) (x y z : ℕ)
      (sofar : SoFar tells Holds e settings app now rounds s1 s2 a b x y)
      (takes : Takes e settings app now s2 s3) (more : IsTrue tells → Accounts Holds e.plan b c)
      (same : IsTrue tells → SamePolls b.net c.net) (counts : IsTrue tells →
      CameMore settings.serve_limit y z (length b.net.given) (length c.net.given)) where
    pub one_more : length s3 ≤ length s2 + 1 → (IsTrue tells → CameBy came.One b.net c.net) →
        SoFar tells Holds e settings app now (rounds + 1) s1 s3 a c x z
    one_more few by = record {
      takes = takes_trans e settings app now s1 s2 s3 sofar.takes takes;
      seats = λ e. absurd (let e' : rounds + 1 ≡ 0 = e in omega (arith, e'));
      count = λ e. absurd (let e' : rounds + 1 ≡ 0 = e in omega (arith, e'));
      few = let h = sofar.few in omega (arith, h, few);
      net = λ t. net_more Holds e.plan settings.serve_limit later rounds a b c x y z (sofar.net t)
          (more t) (same t) (counts t) (by t);
    }

    pub last_takes : Takes e settings app now s1 s3
    last_takes = takes_trans e settings app now s1 s2 s3 sofar.takes takes

    pub last_accounts : IsTrue tells → Accounts Holds e.plan a c
    last_accounts t = accounts_trans Holds e.plan later a b c (sofar.net t).accounts (more t)

    pub last_polls : IsTrue tells → SamePolls a.net c.net
    last_polls t = same_polls_trans a.net b.net c.net (sofar.net t).same_polls (same t)

    pub last_more : IsTrue tells → CameMore settings.serve_limit x z (length a.net.given)
        (length c.net.given)
    last_more t = came_more_trans settings.serve_limit x y z (length a.net.given)
        (length b.net.given) (length c.net.given) (sofar.net t).came_more (counts t)

    pub last_came : (last : Came) → (IsTrue tells → CameBy last b.net c.net) → IsTrue tells →
        CameAll last a.net c.net
    last_came last by t = net_answers Holds e.plan settings.serve_limit later rounds a b c x y z
        (sofar.net t) (more t) last (by t)

    pub last_until : (last : Came) (nobody : Type 0) → ¬ (last ≡ came.One) →
        LeavesNobody last nobody → IsTrue tells →
        CameUntil last settings nobody (length s1) z a.net c.net
    last_until last nobody other left t = net_until Holds e.plan settings.serve_limit later rounds a
        b c x y z (sofar.net t) (more t) last settings nobody (length s1) other left

  -- there is no more room
  pub full_came : (rounds : ℕ) (s1 s2 : List (Seat L A S P R)) (a b : Books L P) (x y : ℕ) →
      SoFar tells Holds e settings app now rounds s1 s2 a b x y → 0 < rounds → IsTrue tells →
      CameAll came.One a.net b.net
  full_came rounds s1 s2 a b x y sofar some t =
      let s = (sofar.net t).some some in
      (s.0, inr (more_by_given Holds e.plan a b (sofar.net t).accounts s.1))

  -- so many came as there is room for or are to be served
  pub full_until : (rounds : ℕ) (s1 s2 : List (Seat L A S P R)) (a b : Books L P) (x y : ℕ) →
      SoFar tells Holds e settings app now rounds s1 s2 a b x y →
      (nobody : Type 0) →
      (settings.connection_limit ≤ length s1 + rounds) ⊎ (is_below settings.serve_limit y ≡ false) →
      IsTrue tells → CameUntil came.One settings nobody (length s1) y a.net b.net
  full_until rounds s1 s2 a b x y sofar nobody full t = inr (elim full [
    | inl h ↦ inl (let k = (sofar.net t).each in omega (arith, h, k))
    | inr h ↦ inr h
  ])

  -- the seats are taken
  pub full_seats : (rounds : ℕ) (s1 s2 : List (Seat L A S P R)) (a b : Books L P) (x y : ℕ) →
      SoFar tells Holds e settings app now rounds s1 s2 a b x y →
      (nobody : Type 0) →
      (nat_lt (length s2) settings.connection_limit && is_below settings.serve_limit y) ≡ false →
      IsTrue tells → CameUntil came.One settings nobody (length s1) y a.net b.net
  full_seats rounds s1 s2 a b x y sofar nobody full = full_until rounds s1 s2 a b x y sofar nobody
      (elim (no_room (length s2) settings.connection_limit (is_below settings.serve_limit y) full) [
        | inl h ↦ inl (let k = sofar.few in omega (arith, h, k))
        | inr h ↦ inr h
      ])

-- at the first round there is room
pub some_round : {X : Type 0} (round : ℕ) (olds news : List X) (before now : ℕ)
    (test : List X → ℕ → Bool) → (round ≡ 0 → news ≡ olds) → (round ≡ 0 → now ≡ before) →
    IsTrue (test olds before) → test news now ≡ false → 0 < round
some_round zero olds news before now test f g h k =
    let same : test news now ≡ test olds before = ap (λ xs. test xs now) (f refl) ∙
    ap (λ m. test olds m) (g refl) in
    absurd (contrary (test news now) (same ∙ h) k)
  where
    contrary : (b : Bool) → IsTrue b → b ≡ false → ⊥
    contrary true h k = cc
    contrary false h k = cc
some_round (suc n) olds news before now test f g h k = grind (arith)

pub has_room : (limit n : ℕ) (b : Bool) → IsTrue (nat_lt n limit && b) → n < limit
has_room limit n b h = ltb-true _ _ (first_true (nat_lt n limit) b h)
  where
    first_true : (x y : Bool) → IsTrue (x && y) → x ≡ true
    first_true true y h = refl
    first_true false y h = h

-- one more has a seat
pub room_more : (limit n k m : ℕ) (b : Bool) → IsTrue (nat_lt n limit && b) → n ≡ k → m ≤ k + 1 →
    m ≤ limit
room_more limit n k m b h e more = let less = has_room limit n b h in omega (arith, less, e, more)

-- what stays by two accepts
pub stays_on : {N K M L A S P R : Type 0} {net : Nets N L M P} {stores : Stores K S}
    {old mid new : Connections L A S P R} {n n1 n2 : N} {k k1 k2 : K} →
    Stays net stores old mid n n1 k k1 → Stays net stores mid new n1 n2 k1 k2 →
    Stays net stores old new n n2 k k2
stays_on one more = record {
  bind = more.bind ∙ one.bind;
  plan = more.plan ∙ one.plan;
  moment = more.moment ∙ one.moment;
  shelf = more.shelf;
  fallen = more.fallen ∙ one.fallen;
  spills = more.spills ∙ one.spills;
}
