use Rattle.std.proofs.Common.{◌∙◌, inl, inr, refl}
use Rattle.waitress_serve.proofs.TextLemmas.{leaves_part, leaves_whole}
use Rattle.waitress_serve.proofs.texts.report_usage.Goals as goal

pub returns-in_default-clause-text : goal.returns-in_default-clause-text
returns-in_default-clause-text g c = λ told. inr (c.report.ensures.text told)

pub returns-in-Ok-write-clause-text : goal.returns-in-Ok-write-clause-text
returns-in-Ok-write-clause-text g c = λ told.
    inl (leaves_whole _ c.as_slice.result.now 1 1 _ _ refl
    (c.as_slice.ensures.value ∙ c.in-Ok.ensures) (c.in-Ok-write.ensures.written told))

pub returns-clause-text : goal.returns-clause-text
returns-clause-text g c = λ told.
    inl (leaves_part _ c.as_slice.result.now 1 _ _ (c.as_slice.ensures.value ∙ c.in-Ok.ensures)
    (c.in-Err.ensures.broken told))
