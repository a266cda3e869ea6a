use Rattle.std.proofs.Common.{rules, ◌≡◌, ◌∙◌, ℕ, Bool, List, Option, Result, Err, ap, subst}
use Rattle.outside.specs.Tree.{content_of}
use Rattle.waitress_serve.specs.TableFile.{GivesBytes}
use Rattle.waitress_serve.specs.declared.made.Unmade.{Unmade}
use Rattle.waitress_serve.proofs.TableFiles.{none_read}
use Rattle.waitress_serve.proofs.made.read_table.Goals as goal

-- from a file without faults
gives_none : (entries : Bool) (start count : ℕ) (file : Option (List ℕ))
    (answer : Result (List ℕ) Unmade) (why : Unmade) →
    GivesBytes entries start count file answer → start ≡ 0 → answer ≡ Err why →
    GivesBytes entries 0 count file (Err why)
gives_none entries start count file answer why gives none is =
    subst (λ r. GivesBytes entries 0 count file r) is
    (subst (λ n. GivesBytes entries n count file answer) none gives)

pub returns-clause-made : goal.returns-clause-made
returns-clause-made g c =
    let named : c.as_str.result.now ≡ c.args.name = search rules in
    none_read g.T.Tree.tells g.T.Entry.TreeEntry.tells (g.T.Tree.faults c.args.tree.now)
    (g.T.Tree.faults c.settle.new.self)
    (g.T.Entry.TreeEntry.faults c.content-content.new.entry)
    (g.T.Tree.files c.args.tree.now) c.args.name
    (g.T.Entry.TreeEntry.file c.in_ok-entry.entry)
    (λ told. (
      (c.in_ok-entry.ensures.told told).0,
      (c.in_ok-entry.ensures.told told).1 ∙
          ap (λ n. content_of (g.T.Tree.files c.args.tree.now) n) named,
    ))
    c.settle.ensures.faults c.in-Err.why
    (gives_none g.T.Entry.TreeEntry.tells _ _ _ c.in_ok-bytes.field-0 c.in-Err.why
    c.in_ok-bytes.ensures.content c.in_ok-entry.ensures.faultless c.in-Err.is)
