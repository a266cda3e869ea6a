-- What was asked for is opened: a text, or the entry of a name.
use Rattle.std.proofs.Common.{◌≡◌, ap, sym, subst, ◌∙◌, List, ℕ, Option, Some, None}
use Rattle.std.specs.Prelude.{IfSome}
use Rattle.outside.specs.Tree.{content_of}
use Rattle.dir_app.specs.Asked.{asked_script}
use Rattle.dir_app.specs.DirLaws.{first_tells}
use Rattle.dir_app.specs.DirScript.{dir_script, file_script, sizable}
use Rattle.dir_app.specs.Texts.{rest_of}
use Rattle.dir_app.proofs.directory.DirAppApp.begin.Goals as goal

-- The body was taken out of the option.
on_some : {A : Type 0} (P : A → Type 0) (o : Option A) (x : A) → o ≡ Some x → P x → IfSome o P
on_some P (Some y) x e holds = let same : x ≡ y = cc in subst P same holds
on_some P None x e holds = absurd (cc)

pub returns-in-Text-clause-script : goal.returns-in-Text-clause-script
returns-in-Text-clause-script g c = λ told.
    let files : List (List ℕ × List ℕ) = g.T.Tree.files c.args.self.now.tree.now in
    let body = c.unwrap-body.result in
    on_some _ c.args.body.now body (sym c.take.ensures.value ∙ c.unwrap-body.ensures)
    (ap rest_of c.new.ensures
    ∙ (ap (asked_script files) (sym c.in-Text.is)
    ∙ (c.in-Ok.ensures files ∙ ap (λ (root : List ℕ). dir_script files root c.args.environ
    body.bytes) c.as_str.ensures.value)))

pub returns-clause-script : goal.returns-clause-script
returns-clause-script g c = λ told.
    let files : List (List ℕ × List ℕ) = g.T.Tree.files c.args.self.now.tree.now in
    let body = c.unwrap-body.result in
    let entry = c.in_ok-entry-in-File.ensures.told (first_tells g.T.Tree.tells
    g.T.Entry.TreeEntry.tells told) in
    on_some _ c.args.body.now body (sym c.take.ensures.value ∙ c.unwrap-body.ensures)
    (ap (λ (file : Option (List ℕ)). file_script c.in-File.bodyless c.in-File.media.now
    (sizable file))
    (entry.1 ∙ ap (content_of files) c.as_str-in-File.ensures.value)
    ∙ (ap (asked_script files) (sym c.in-File.is)
    ∙ (c.in-Ok.ensures files ∙ ap (λ (root : List ℕ). dir_script files root c.args.environ
    body.bytes) c.as_str.ensures.value)))
