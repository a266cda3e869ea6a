use Rattle.std.proofs.Common.{arith, take, subst, sym, ◌≡◌}
use Rattle.std.specs.Prelude.{IfOk, map}
use Rattle.std.proofs.lemmas.Bool.{eqb-true}
use Rattle.std.proofs.lemmas.List.{nil_from_length}
use Rattle.request_stream.specs.Asks.{asks}
use Rattle.request_stream.specs.Units.{verdict_by}
use Rattle.request_stream.specs.Reading.{FoundAt, LeadsBy, SeeksOn}
use Rattle.request_stream.proofs.SeekLemmas.{cut_is, ends_head}
use Rattle.request_stream.proofs.heads.seek.Goals as goal

pub returns-then-is_empty-clause-seeks : goal.returns-then-is_empty-clause-seeks
returns-then-is_empty-clause-seeks g c =
    let none = nil_from_length c.args.held.items (let e : c.args.held.len ≡ 0 =
    eqb-true c.args.held.len 0 (sym c.if-is_empty.ensures) in omega arith) in
    subst (λ held. IfOk c.seek_first.result (λ s. SeeksOn c.args.limits.now held
    (take s.taken c.args.piece.now) c.args.now s.state (map asks c.args.given.now.items)
    (map asks c.seek_first.new.given.items)))
    (sym none) c.seek_first.ensures.seeks

pub returns-in-Some-clause-seeks : goal.returns-in-Some-clause-seeks
returns-in-Some-clause-seeks g c =
    let f : FoundAt c.extend_from_slice.new.self.items c.len-before.result
    c.args.limits.now.max_head c.in-Some.end =
    subst (λ b. FoundAt b c.len-before.result c.args.limits.now.max_head c.in-Some.end)
    c.as_slice.ensures.value c.in-Some.ensures in
    ends_head c.args.limits.now c.extend_from_slice.new.self.items c.args.held.items _
    c.len-before.result c.in-Some.end c.args.now c.in_ok-state.state _ _ f
    (cut_is c.extend_from_slice.new.self.items c.args.held.items c.args.piece.now c.min-taken.result
    c.in-Some.end c.len-before.result c.in_ok-extend_from_slice.ensures.items
    (omega arith) f.low f.high)
    (subst (λ b. LeadsBy (verdict_by c.args.limits.now (take c.in-Some.end b)) c.args.limits.now
    c.args.now c.in_ok-state.state (map asks c.args.given.now.items)
    (map asks c.lead.new.given.items)) c.deref.ensures.value c.in_ok-state.ensures.leads)
