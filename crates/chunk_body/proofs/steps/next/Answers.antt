use Rattle.std.proofs.Common.{sym, ap, ◌∙◌, subst}
use Rattle.chunk_body.specs.Reading.{IsSound, line_bytes}
use Rattle.chunk_body.proofs.Sound.{step_sound}
use Rattle.chunk_body.proofs.steps.next.Goals as goal

pub returns-clause-sound : goal.returns-clause-sound
returns-clause-sound c =
    subst (λ p. IsSound c.args.max_trailer p) (sym c.stepped-reached.ensures)
    (step_sound c.args.max_trailer c.args.place c.args.byte c.requires.some c.requires.sound
    c.requires.open
    (sym c.ends_trailer.ensures ∙ c.if-ends_trailer.false)
    (λ e. c.if-line_len-eq1024.false (c.line_len.ensures
    ∙ (ap line_bytes c.stepped-reached.ensures ∙ e))))
