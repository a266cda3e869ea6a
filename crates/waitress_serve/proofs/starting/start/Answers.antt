use Rattle.std.proofs.Common.{◌≡◌, ◌∙◌, ◌++◌, List, ap, refl, rules, subst}
use Rattle.std.specs.Prelude.{Some}
use Rattle.outside.specs.Net.{NetState}
use Rattle.outside.specs.declared.types.Listen.{Listen}
use Rattle.waitress_serve.specs.Conclusions.{PollCount, conclusion_of}
use Rattle.waitress_serve.specs.Status.{WritesPart, addresses_of, serving_lines}
use Rattle.waitress_serve.proofs.Concluded.{bind_count, is_of_serving, out_count, out_leaves}
use Rattle.waitress_serve.proofs.Concluded.{poll_count, ran_none, started_ran, started_stops}
use Rattle.waitress_serve.proofs.TextLemmas.{part_written}
use Rattle.waitress_serve.proofs.starting.start.Goals as goal

pub returns-in_default-clause-ran : goal.returns-in_default-clause-ran
returns-in_default-clause-ran g c = λ told. ran_none _ _ _ _ _ _ _ _ _ _
    (g.N.Net.state c.args.net.now).bound (search rules) refl refl tt

pub returns-in_default-lines_of-clause-ran : goal.returns-in_default-lines_of-clause-ran
returns-in_default-lines_of-clause-ran g c = λ told. ran_none _ _ _ _ _ _ _ _ _ _
    (g.N.Net.state c.args.net.now).bound (search rules) refl refl tt

pub returns-then-is_err-clause-ran : goal.returns-then-is_err-clause-ran
returns-then-is_err-clause-ran g c = λ told.
    let same : g.N.Net.state c.bind.new.self ≡ g.N.Net.state c.args.net.now = search rules in
    ran_none _ _ _ _ _ _ _ _ _ _ (g.N.Net.state c.args.net.now).bound (search rules) same refl same

pub returns-then-is_err-2-clause-ran : goal.returns-then-is_err-2-clause-ran
returns-then-is_err-2-clause-ran g c = λ told.
    let bound : g.N.Net.state c.bind.new.self ≡ record (g.N.Net.state c.args.net.now)
    { bound = Some c.as_slice-2.result.now } = search rules in
    ran_none _ _ _ _ _ _ _ _ _ _ _ (search rules) bound refl
    (record { polls = ap (λ s. s.polls) bound; closed = ap (λ s. s.closed) bound })

pub returns-then-is_err-2-clause-text : goal.returns-then-is_err-2-clause-text
returns-then-is_err-2-clause-text g c = λ told.
    let text : c.as_slice-3.result.now ≡ serving_lines (addresses_of c.args.options) =
    c.as_slice-3.ensures ∙ (c.in-Ok-lines_of.ensures ∙
    ap (λ l. serving_lines l) (c.as_slice.ensures ∙ c.in-Ok.ensures.addresses)) in
    subst (λ t. WritesPart t (g.C.Sink.written c.args.out.now) (g.C.Sink.written c.write.new.self))
    text (part_written _ _ _ c.write.result (c.write.ensures.written told)
    (c.write.ensures.broken told))

pub returns-clause-why : goal.returns-clause-why
returns-clause-why g c = rw c.conclude.ensures (is_of_serving c.serve-ended.result.0)

pub returns-clause-binds : goal.returns-clause-binds
returns-clause-binds g c =
    let same : g.N.Net.bind_faults c.serve-ended.new.net ≡ g.N.Net.bind_faults c.args.net.now =
    search rules in
    rw c.conclude.ensures (bind_count c.serve-ended.result.0 _ _ same)

pub returns-clause-polls : goal.returns-clause-polls
returns-clause-polls g c =
    let others : g.N.Net.poll_faults c.bind.new.self ≡ g.N.Net.poll_faults c.args.net.now =
    search rules in
    rw c.conclude.ensures (subst (λ before. PollCount (conclusion_of c.serve-ended.result.0) before
    (g.N.Net.poll_faults c.serve-ended.new.net)) others (poll_count c.serve-ended.result.0 _ _
    c.serve-ended.ensures.cause))

-- the net behind the bind
bound_at : {L P : Type 0} (old mid : NetState L P) (one other listen : List Listen) →
    mid ≡ record old { bound = Some one } → one ≡ other → other ≡ listen →
    mid ≡ record old { bound = Some listen }
bound_at old mid one other listen is same by = is ∙ ap (λ l. record old { bound = Some l })
    (same ∙ by)

pub returns-clause-ran : goal.returns-clause-ran
returns-clause-ran g c = λ told.
    let bound : g.N.Net.state c.bind.new.self ≡ record (g.N.Net.state c.args.net.now)
    { bound = Some c.as_slice-2.result.now } = search rules in
    started_ran _ g.A.App.script c.args.app c.args.options _ _ _ _ _ _
    (g.N.Net.state c.args.net.now) _ _ (bound_at (g.N.Net.state c.args.net.now) _ _ _ _ bound
    c.as_slice-2.ensures c.in-Ok.ensures.addresses) c.serve-ended.result.0 _ c.conclude.ensures
    c.in-Ok.settings c.in-Ok.ensures.settings
    (c.serve-ended.ensures.served told) (c.serve-ended.ensures.ends told)

pub returns-clause-stops : goal.returns-clause-stops
returns-clause-stops g c = λ told.
    let bound : g.N.Net.state c.bind.new.self ≡ record (g.N.Net.state c.args.net.now)
    { bound = Some c.as_slice-2.result.now } = search rules in
    started_stops _ g.A.App.script c.args.app c.args.options _ _ _ _ _ _
    (g.N.Net.state c.args.net.now) _ _ (bound_at (g.N.Net.state c.args.net.now) _ _ _ _ bound
    c.as_slice-2.ensures c.in-Ok.ensures.addresses) c.serve-ended.result.0 _ c.conclude.ensures
    c.in-Ok.settings c.in-Ok.ensures.settings
    (c.serve-ended.ensures.served told) (c.serve-ended.ensures.ends told)

pub returns-clause-outs : goal.returns-clause-outs
returns-clause-outs g c =
    let same : g.C.Sink.faults c.write.new.self ≡ g.C.Sink.faults c.args.out.now = search rules in
    rw c.conclude.ensures (out_count c.serve-ended.result.0 _ _ same)

pub returns-clause-text : goal.returns-clause-text
returns-clause-text g c = λ told.
    let whole : g.C.Sink.written c.write.new.self ≡ g.C.Sink.written c.args.out.now ++ serving_lines
    (addresses_of c.args.options) = search rules in
    rw c.conclude.ensures (out_leaves _ c.serve-ended.result.0 _ _ whole)
