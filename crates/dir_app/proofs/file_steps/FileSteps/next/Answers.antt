-- A file gives the piece at its place, and a fault leaves it.
use Rattle.std.proofs.Common.{◌∙◌}
use Rattle.dir_app.proofs.FileLemmas.{found_end, found_falls, found_fault, found_next, found_within}
use Rattle.dir_app.proofs.FileLemmas.{unseen_fault}
use Rattle.dir_app.proofs.file_steps.FileSteps.next.Goals as goal

pub returns-in_err-step-in-Unseen-clause-steps : goal.returns-in_err-step-in-Unseen-clause-steps
returns-in_err-step-in-Unseen-clause-steps g c = λ told.
    unseen_fault c.args.self.now.bodyless c.args.self.now.media.now
    (g.E.TreeEntry.file c.args.self.now.entry) (g.E.TreeEntry.file c.look.new.entry)
    c.args.self.now.progress c.from_residual.result c.in-Unseen.is c.from_residual.ensures.0
    (c.look.ensures.file told)

pub returns-then-at-size-clause-steps : goal.returns-then-at-size-clause-steps
returns-then-at-size-clause-steps g c = λ told.
    let over = found_end c.args.self.now.bodyless c.args.self.now.media.now
    (g.E.TreeEntry.file c.args.self.now.entry)
    c.args.self.now.progress c.in-Found.at c.in-Found.size c.in-Found.is (c.args.self.now.told told)
    c.if-at-size.true in
    (over, over)

pub read_piece-requires-clause-within : goal.read_piece-requires-clause-within
read_piece-requires-clause-within g c =
    found_within c.args.self.now.progress c.in-Found.at c.in-Found.size c.in-Found.is
    c.args.self.now.within

pub returns-in_err-piece-in-Found-clause-steps : goal.returns-in_err-piece-in-Found-clause-steps
returns-in_err-piece-in-Found-clause-steps g c = λ told.
    found_fault c.args.self.now.bodyless c.args.self.now.media.now
    (g.E.TreeEntry.file c.args.self.now.entry) (g.E.TreeEntry.file c.read_piece.new.entry)
    c.args.self.now.progress c.in-Found.at c.in-Found.size
    c.from_residual-in_err-piece-in-Found.result c.in-Found.is (c.args.self.now.told told)
    c.if-at-size.false
    (found_within c.args.self.now.progress c.in-Found.at c.in-Found.size c.in-Found.is
    c.args.self.now.within)
    c.from_residual-in_err-piece-in-Found.ensures.0 (c.read_piece.ensures.file told)

pub returns-in_ok-piece-in-Found-clause-steps : goal.returns-in_ok-piece-in-Found-clause-steps
returns-in_ok-piece-in-Found-clause-steps g c = λ told.
    found_next c.args.self.now.bodyless c.args.self.now.media.now
    (g.E.TreeEntry.file c.args.self.now.entry) (g.E.TreeEntry.file c.read_piece.new.entry)
    c.args.self.now.progress c.in-Found.at c.in-Found.size c.len.result c.in_ok-piece-in-Found.piece
    c.in-Found.is (c.args.self.now.told told) c.if-at-size.false
    (found_within c.args.self.now.progress c.in-Found.at c.in-Found.size c.in-Found.is
    c.args.self.now.within)
    (c.in_ok-piece-in-Found.ensures.piece told) c.in_ok-piece-in-Found.ensures.size c.len.ensures
    (c.read_piece.ensures.file told)

pub returns-in_ok-piece-in-Found-clause-left : goal.returns-in_ok-piece-in-Found-clause-left
returns-in_ok-piece-in-Found-clause-left g c =
    found_falls c.args.self.now.progress c.in-Found.at c.in-Found.size c.len.result c.in-Found.is
    c.if-at-size.false
    (found_within c.args.self.now.progress c.in-Found.at c.in-Found.size c.in-Found.is
    c.args.self.now.within)
    (c.len.ensures ∙ c.in_ok-piece-in-Found.ensures.size)
