use Rattle.waitress_serve.proofs.TextLemmas.{leaves_part, leaves_whole}
use Rattle.waitress_serve.proofs.texts.report.Goals as goal

pub returns-in-Ok-clause-text : goal.returns-in-Ok-clause-text
returns-in-Ok-clause-text g c = λ told.
    leaves_whole _ c.text.result.now _ _ _ _ c.status.ensures c.text.ensures
    (c.in-Ok.ensures.written told)

pub returns-in-Err-clause-text : goal.returns-in-Err-clause-text
returns-in-Err-clause-text g c = λ told.
    leaves_part _ c.text.result.now _ _ _ c.text.ensures (c.in-Err.ensures.broken told)
