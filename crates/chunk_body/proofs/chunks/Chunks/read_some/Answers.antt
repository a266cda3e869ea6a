use Rattle.std.proofs.Common.{◌≡◌, ◌++◌, [], take, length, sym, ap, ◌∙◌, get_or}
use Rattle.std.proofs.lemmas.List.{append-nil}
use Rattle.chunk_body.proofs.Runs.{one_read, one_decoded, nothing_given, run_passed, Passed}
use Rattle.chunk_body.proofs.Runs.{counted}
use Rattle.chunk_body.specs.Reading.{Reading, gives}
use Rattle.chunk_body.proofs.chunks.Chunks.read_some.Goals as goal

pub returns-then-run-eq0-clause-reads : goal.returns-then-run-eq0-clause-reads
returns-then-run-eq0-clause-reads c = c.read_byte.ensures
    ∙ sym (one_read c.args.self.now c.args.rest.now c.requires.some)

pub returns-then-run-eq0-clause-room : goal.returns-then-run-eq0-clause-room
returns-then-run-eq0-clause-room c =
    let d = c.data_run-run.ensures in
    let g : gives c.args.self.now (get_or c.args.rest.now 0 0) ≡ [] =
    nothing_given c.args.self.now (get_or c.args.rest.now 0 0)
    (length c.args.rest.now) c.requires.some d.within c.requires.open d.sound (sym d.run
    ∙ c.if-run-eq0.true) in
    sym (ap (λ l. c.args.room.now.items ++ l) (one_decoded c.args.self.now c.args.rest.now
    c.requires.some g) ∙ append-nil c.args.room.now.items)

pub returns-clause-reads : goal.returns-clause-reads
returns-clause-reads c =
    let p : Passed c.args.self.now c.data_run-run.result
    (take c.data_run-run.result c.args.rest.now) =
    run_passed c.args.self.now c.args.rest.now c.data_run-run.result c.data_run-run.ensures.run
    c.if-run-eq0.false in
    c.pass.ensures ∙ sym p.state

pub returns-clause-room : goal.returns-clause-room
returns-clause-room c =
    let p : Passed c.args.self.now c.data_run-run.result
    (take c.data_run-run.result c.args.rest.now) =
    run_passed c.args.self.now c.args.rest.now c.data_run-run.result c.data_run-run.ensures.run
    c.if-run-eq0.false in
    c.in-Ok.ensures.items ∙ sym (ap (λ l. c.args.room.now.items ++ l) p.body)

pub returns-then-run-eq0-clause-taken : goal.returns-then-run-eq0-clause-taken
returns-then-run-eq0-clause-taken c =
    ap (λ (r : Reading). r.taken) c.read_byte.ensures
    ∙ counted c.args.self.now (get_or c.args.rest.now 0 0) c.requires.open
