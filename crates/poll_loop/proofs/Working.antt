-- What a turn leaves of the server behind its connections' parts.
use Rattle.std.proofs.Common.{◌≡◌, ◌≤◌, ℕ, Bool, true, false, IsTrue, List, [], ◌∷◌, refl, ap}
use Rattle.std.proofs.Common.{subst, arith, length, map, filter}
use Rattle.outside.specs.Net.{NetState}
use Rattle.outside.specs.declared.retired.Retired.{Retired}
use Rattle.outside.specs.declared.types.Peer.{Peer}
use Rattle.channel.specs.Views.{Seen}
use Rattle.poll_loop.specs.Accounts.{Accounts, TimeGoesOn, books}
use Rattle.poll_loop.specs.Connections.{SeatIsTimely, seated}
use Rattle.poll_loop.specs.Entries.{IsTimely}
use Rattle.poll_loop.specs.Lists.{EachIs}
use Rattle.poll_loop.specs.NoIdle.{Hosts}
use Rattle.poll_loop.specs.Seat.{Eyes}
use Rattle.poll_loop.specs.declared.seat.Seat.{Seat}
use Rattle.poll_loop.proofs.Books.{timely_later}
use Rattle.poll_loop.proofs.Sifting.{seated_length}

pub map_twice : {X Y Z : Type 0} (f : Y → Z) (g : X → Y) (xs : List X) →
    map f (map g xs) ≡ map (λ x. f (g x)) xs
map_twice f g [] = refl
map_twice f g (x ∷ xs) = ap (λ zs. f (g x) ∷ zs) (map_twice f g xs)

pub map_length : {X Y : Type 0} (f : X → Y) (xs : List X) → length (map f xs) ≡ length xs
map_length f [] = refl
map_length f (x ∷ xs) = let e = map_length f xs in grind (arith, e)

pub lanes : {L P A S R : Type 0} → List (Seat L A S P R) → List (Seen L A)
lanes seats = map (λ seat. seat.lane) seats

pub who_is : {L P A S R : Type 0} (e : Eyes L P) (seats : List (Seat L A S P R)) →
    map (λ lane. (lane.peer, e.plan lane.link)) (map (λ seat. seat.lane) seats) ≡ seated e seats
who_is e seats = map_twice (λ lane. (lane.peer, e.plan lane.link)) (λ seat. seat.lane) seats

-- ---- who hosts

timely_lanes : {L P A S R : Type 0} (e : Eyes L P) (net : NetState L P)
    (seats : List (Seat L A S P R)) → EachIs (SeatIsTimely e net) seats → IsTrue e.tells →
    EachIs (λ lane. IsTimely net (e.state lane.link)) (map (λ seat. seat.lane) seats)
timely_lanes e net [] h t = tt
timely_lanes e net (s ∷ ss) h t = (h.0 t, timely_lanes e net ss h.1 t)

timely_seats : {L P A S R : Type 0} (e : Eyes L P) (net : NetState L P)
    (seats : List (Seat L A S P R)) →
    (IsTrue e.tells → EachIs (λ lane. IsTimely net (e.state lane.link))
    (map (λ seat. seat.lane) seats)) → EachIs (SeatIsTimely e net) seats
timely_seats e net [] h = tt
timely_seats e net (s ∷ ss) h = (λ t. (h t).0, timely_seats e net ss (λ t. (h t).1))

pub hosts_seats : {L P A S R : Type 0} (e : Eyes L P) (net : NetState L P)
    (seats : List (Seat L A S P R)) → length seats ≤ net.live → EachIs (SeatIsTimely e net) seats →
    Hosts e net (map (λ seat. seat.lane) seats)
hosts_seats e net seats few h = record {
  room = let n = map_length (λ seat. seat.lane) seats in omega (arith, few, n);
  timely = timely_lanes e net seats h;
}

pub hosted_room : {L P A S R : Type 0} (e : Eyes L P) (net : NetState L P)
    (seats : List (Seat L A S P R)) → Hosts e net (map (λ seat. seat.lane) seats) →
    length seats ≤ net.live
hosted_room e net seats h = let n = map_length (λ seat. seat.lane) seats in let r =
    h.room in omega (arith, r, n)

pub hosted_timely : {L P A S R : Type 0} (e : Eyes L P) (net : NetState L P)
    (seats : List (Seat L A S P R)) → Hosts e net (map (λ seat. seat.lane) seats) →
    EachIs (SeatIsTimely e net) seats
hosted_timely e net seats h = timely_seats e net seats h.timely

pub timely_goes_on : {L P A S R : Type 0} (e : Eyes L P) (old new : NetState L P)
    (seats : List (Seat L A S P R)) → TimeGoesOn old new → EachIs (SeatIsTimely e old) seats →
    EachIs (SeatIsTimely e new) seats
timely_goes_on e old new [] t h = tt
timely_goes_on e old new (s ∷ ss) t h = (
  λ told. timely_later old new (e.state s.lane.link) t
      (h.0 told),
  timely_goes_on e old new ss t h.1,
)

-- ---- accounts

pub accounts_as : {L P : Type 0} (Holds : NetState L P → Retired L → Type 0) (plan : L → P)
    (old new : NetState L P) (x x' y y' f f' g g' : ℕ) (a a' b b' : List (Peer × P)) →
    x' ≡ x → y' ≡ y → f' ≡ f → g' ≡ g → a' ≡ a → b' ≡ b →
    Accounts Holds plan (books old x' f' a') (books new y' g' b') →
    Accounts Holds plan (books old x f a) (books new y g b)
accounts_as Holds plan old new x x' y y' f f' g g' a a' b b' e1 e2 e3 e4 e5 e6 h =
    subst (λ k. Accounts Holds plan (books old x f a) (books new y g k)) e6
    (subst (λ k. Accounts Holds plan (books old x f k) (books new y g b')) e5
    (subst (λ k. Accounts Holds plan (books old x f a') (books new y k b')) e4
    (subst (λ k. Accounts Holds plan (books old x k a') (books new y g' b')) e3
    (subst (λ k. Accounts Holds plan (books old x f' a') (books new k g' b')) e2
    (subst (λ k. Accounts Holds plan (books old k f' a') (books new y' g' b')) e1 h)))))

pub room_after : {L P A S R : Type 0} (Holds : NetState L P → Retired L → Type 0) (e : Eyes L P)
    (old new : NetState L P) (x y f g : ℕ) (olds lasts : List (Seat L A S P R)) →
    Accounts Holds e.plan (books old x f (seated e olds)) (books new y g (seated e lasts)) →
    length olds ≤ old.live → length lasts ≤ new.live
room_after Holds e old new x y f g olds lasts h few =
    let a = seated_length e olds in
    let b = seated_length e lasts in
    let c = h.live in
    omega (arith, a, b, c, few)

fewer_by : {X : Type 0} (p : X → Bool) (x : X) (xs : List X) (b : Bool) → p x ≡ b →
    length (filter p xs) ≤ length xs → length (filter p (x ∷ xs)) ≤ length (x ∷ xs)
fewer_by p x xs true e h = let same : filter p (x ∷ xs) ≡ x ∷ filter p xs =
    grind (arith, e) in let n = ap length same in grind (arith, n, h)
fewer_by p x xs false e h = let same : filter p (x ∷ xs) ≡ filter p xs = grind (arith, e) in let n =
    ap length same in grind (arith, n, h)

pub fewer : {X : Type 0} (p : X → Bool) (xs : List X) → length (filter p xs) ≤ length xs
fewer p [] = omega arith
fewer p (x ∷ xs) = fewer_by p x xs (p x) refl (fewer p xs)

pub within_after : {X : Type 0} (p : X → Bool) (limit : ℕ) (olds news lasts : List X) →
    lasts ≡ filter p news → length news ≡ length olds → length olds ≤ limit → length lasts ≤ limit
within_after p limit olds news lasts e n h = let k = ap length e in let f =
    fewer p news in omega (arith, k, f, n, h)
