use Rattle.std.proofs.Common.{◌≡◌, ◌∙◌, IsTrue, refl, ap, subst, sym, length, Ok}
use Rattle.std.specs.Prelude.{IfSome}
use Rattle.outside.specs.Link.{opened}
use Rattle.outside.specs.Causes.{raised}
use Rattle.outside.specs.Net.{Accepts, FindsNobody, GivesLink}
use Rattle.poll_loop.specs.Connections.{seated}
use Rattle.poll_loop.specs.Seat.{eyes_of}
use Rattle.poll_loop.proofs.Books.{time_same, within_later}
use Rattle.poll_loop.proofs.Coming.{accounts_asked, accounts_refused, accounts_seated}
use Rattle.poll_loop.proofs.Coming.{entry_refused, seated_one, telling_link}
use Rattle.poll_loop.proofs.accepting.accept_one.Goals as goal

pub returns-in-Ok-None-clause-accounts : goal.returns-in-Ok-None-clause-accounts
returns-in-Ok-None-clause-accounts g c told =
    let net = g.N.Net.state c.args.net.now in
    accounts_asked _ g.N.Link.Link.plan net _ _ _ _ _ _ refl refl (g.N.Net.state c.accept.new.self)
    (raised net.asked) (raised net.put_off)
    (subst (λ o. Accepts g.N.Link.Link.plan (Ok o) net (g.N.Net.state c.accept.new.self))
    c.in-Ok-None.field-0-is (c.in-Ok-None.ensures.told told)) refl

pub returns-in-Ok-None-clause-nobody : goal.returns-in-Ok-None-clause-nobody
returns-in-Ok-None-clause-nobody g c =
    subst (λ o. FindsNobody (Ok o) (g.N.Net.nobody c.accept.new.self)) c.in-Ok-None.field-0-is
    c.in-Ok-None.ensures.nobody

pub returns-in-Err-Failed-clause-accounts : goal.returns-in-Err-Failed-clause-accounts
returns-in-Err-Failed-clause-accounts g c told =
    let net = g.N.Net.state c.args.net.now in
    accounts_asked _ g.N.Link.Link.plan net _ _ _ _ _ _ refl refl (g.N.Net.state c.accept.new.self)
    (raised net.asked) net.put_off (c.in-Err-Failed.ensures.told told) refl

pub returns-in-Err-NoMemory-clause-accounts : goal.returns-in-Err-NoMemory-clause-accounts
returns-in-Err-NoMemory-clause-accounts g c told =
    let net = g.N.Net.state c.args.net.now in
    accounts_asked _ g.N.Link.Link.plan net _ _ _ _ _ _ refl refl (g.N.Net.state c.accept.new.self)
    (raised net.asked) net.put_off (c.in-Err-NoMemory.ensures.told told) refl

pub returns-in-Ok-clause-accounts : goal.returns-in-Ok-clause-accounts
returns-in-Ok-clause-accounts g c told =
    let opening = c.args.opening.now in
    let link = c.in-Ok-Some.link in
    let peer = c.in-Ok-Some.peer in
    let e = eyes_of g.N.Link.Link in
    accounts_seated _ g.N.Link.Link.plan (g.N.Net.state c.args.net.now) _ _ _ _ _ _
    c.in-Ok.ensures.spills (ap length c.in-Ok.ensures.fallen) peer (g.N.Link.Link.plan link)
    (g.N.Net.state c.accept.new.self)
    (subst (λ o. Accepts g.N.Link.Link.plan (Ok o) (g.N.Net.state c.args.net.now)
    (g.N.Net.state c.accept.new.self)) c.in-Ok-Some.field-0-is (c.in-Ok-Some.ensures.told told))
    (seated_one e opening.settings.now opening.app.now opening.moment link peer
    c.args.connections.now.seats.items c.seat_link.new.connections.seats.items
    c.in-Ok.ensures.seated)

pub returns-in-Err-clause-accounts : goal.returns-in-Err-clause-accounts
returns-in-Err-clause-accounts g c told =
    let opening = c.args.opening.now in
    let plan = g.N.Link.Link.plan in
    let came = c.in-Ok-Some.link in
    let from = c.in-Ok-Some.peer in
    let link = c.in-Err.link in
    let peer = c.in-Err.peer in
    let old = g.N.Net.state c.args.net.now in
    let mid = g.N.Net.state c.accept.new.self in
    let new = g.N.Net.state c.retire.new.self in
    let back = c.in-Err.ensures.back in
    let given = subst (λ o. Accepts plan (Ok o) old mid) c.in-Ok-Some.field-0-is
    (c.in-Ok-Some.ensures.told told) in
    let given' = subst (λ l. GivesLink (plan l) from old mid) (sym back.0) given in
    let given'' = subst (λ p. GivesLink (plan link) p old mid) (sym back.1) given' in
    let e = given.state in
    let r = c.retire.ensures.told told in
    let time = time_same old new (ap (λ n. n.first) r ∙ ap (λ n. n.first) e)
    (ap (λ n. n.last) r ∙ ap (λ n. n.last) e) in
    let opened_at = λ (t : IsTrue g.N.Link.Link.tells).
    ap g.N.Link.Link.state back.0 ∙ subst (λ o. IfSome o
    (λ new. g.N.Link.Link.state new.0 ≡ opened opening.moment)) c.in-Ok-Some.field-0-is
    (c.in-Ok-Some.ensures.opened t) in
    accounts_refused _ plan old _ _ _ _ _ _ c.in-Err.ensures.spills
    (ap length c.in-Err.ensures.fallen) mid new peer link given'' r
    (entry_refused _ _ g.N.Link.Link.state g.N.Link.Link.faults new opening.moment peer link
    (telling_link g.N.Link.Link.tells g.P.Spill.Spill.tells g.A.App.tells) opened_at
    (within_later old new opening.moment time (c.requires.admits.within told)))
    (ap (seated (eyes_of g.N.Link.Link)) c.in-Err.ensures.kept)
