-- What clap finds is exact, since the command line is a simple one.
use Rattle.std.proofs.Common.{◌∙◌, ap, inl, inr}
use Rattle.clap.specs.Words.{is_simple, is_simple_and_free}
use Rattle.adjust.specs.CommandLine.{words_of}
use Rattle.adjust.proofs.OneCommand.{as_given, is_exact, is_simple_line, refused, taken}
use Rattle.adjust.proofs.definition.find_given.Goals as goal

pub returns-in-Ok : goal.returns-in-Ok
returns-in-Ok c =
    let exact = ap is_simple_and_free c.in_ok-definition.ensures ∙ is_exact in
    let simple = ap is_simple c.in_ok-definition.ensures ∙ is_simple_line in (
      taken _ (words_of c.args.words.now) c.in_ok-definition.ensures (c.in-Ok.ensures.kinds exact),
      as_given _ (words_of c.args.words.now) _ c.in_ok-definition.ensures
          (c.in-Ok.ensures.matches simple).0,
    )

pub returns : goal.returns
returns c = elim (c.in-Err.ensures.kinds (ap is_simple_and_free c.in_ok-definition.ensures ∙
    is_exact)) [
      | inl memory ↦ absurd (c.in_default.not-OutOfMemory (c.kind.ensures ∙ memory))
      | inr among ↦ refused _ (words_of c.args.words.now) _ c.in_ok-definition.ensures among
    ]
