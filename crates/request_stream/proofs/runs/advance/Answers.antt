use Rattle.request_stream.proofs.SeekLemmas.{seek_reads}
use Rattle.request_stream.proofs.Shutting.{shuts_refl, shuts_seeks}
use Rattle.std.proofs.Common.{ap, subst, sym, map}
use Rattle.request_stream.specs.Reading.{IsSound, Shuts, StandsFor, is_over}
use Rattle.request_stream.specs.Asks.{asks}
use Rattle.request_stream.specs.declared.state.State.TheVariants.{Over}
use Rattle.request_stream.proofs.BodyMoves.{reads_over}
use Rattle.request_stream.proofs.runs.advance.Goals as goal

pub returns-in-Over-clause-reads : goal.returns-in-Over-clause-reads
returns-in-Over-clause-reads g c = reads_over _ c.args.limits.now c.args.state _ _
    c.requires.fed.positive.head c.in-Over.is

pub returns-in-Over-clause-shuts : goal.returns-in-Over-clause-shuts
returns-in-Over-clause-shuts g c = subst (λ s. Shuts s Over (map asks c.args.given.now.items)
    (map asks c.args.given.now.items)) (sym c.in-Over.is)
    (shuts_refl Over (map asks c.args.given.now.items))

pub returns-in-Seeking-clause-reads : goal.returns-in-Seeking-clause-reads
returns-in-Seeking-clause-reads g c =
    seek_reads c.seek.result _ c.args.limits.now c.args.state c.in-Seeking.held.items
    c.args.piece.now c.args.now _ _ c.requires.fed.positive.head (ap is_over c.in-Seeking.is)
    (λ z s. subst (λ state. StandsFor g.S.Spill.tells c.args.limits.now state z) c.in-Seeking.is s)
    (subst (IsSound c.args.limits.now) c.in-Seeking.is c.requires.sound) c.seek.ensures.taken
    c.seek.ensures.seeks

pub returns-in-Seeking-clause-shuts : goal.returns-in-Seeking-clause-shuts
returns-in-Seeking-clause-shuts g c = shuts_seeks c.seek.result c.args.limits.now _ c.args.piece.now
    c.args.now c.args.state _ _ (ap is_over c.in-Seeking.is) c.seek.ensures.seeks
