use Rattle.std.proofs.Common.{◌≡◌, ◌∙◌, ◌&&◌, IsTrue, Ok, ap, arith, refl, rules, true}
use Rattle.adjust.specs.declared.types.Adjustments.{Adjustments}
use Rattle.adjust.specs.declared.types.AppName.{AppName}
use Rattle.adjust.specs.declared.types.AppName.TheVariants as app
use Rattle.adjust.specs.declared.types.Command.{Command}
use Rattle.adjust.specs.declared.types.Command.TheVariants as command
use Rattle.waitress_serve.specs.Reading.{prints}
use Rattle.waitress_serve.proofs.Applications.{and_first, can_not, directory_ran, echo_ran, lack_of}
use Rattle.waitress_serve.proofs.Applications.{nobody_ran, printing_concludes, rows_made, rows_of}
use Rattle.waitress_serve.proofs.Applications.{same_count, serving_concludes, table_ran}
use Rattle.waitress_serve.proofs.Concluded.{stays}
use Rattle.waitress_serve.proofs.starting.carry_out.Goals as goal

-- the application is this one
is_serve : (asked : Command) (options : Adjustments) (named other : AppName) →
    asked ≡ command.Serve options named → named ≡ other → asked ≡ command.Serve options other
is_serve asked options named other is same = is ∙ ap (λ n. command.Serve options n) same

pub returns-in-Echo-clause-why : goal.returns-in-Echo-clause-why
returns-in-Echo-clause-why g c =
    let is : c.args.command ≡ command.Serve c.in-Serve.options app.Echo =
    is_serve _ _ _ _ c.in-Serve.is c.in-Echo.is in
    rw is (serving_concludes _ _ _ _ _ app.Echo refl _ c.start.ensures.why)

pub returns-in-Echo-clause-idle : goal.returns-in-Echo-clause-idle
returns-in-Echo-clause-idle g c =
    let is : c.args.command ≡ command.Serve c.in-Serve.options app.Echo =
    is_serve _ _ _ _ c.in-Serve.is c.in-Echo.is in
    rw is (λ none. absurd (can_not true refl none))

pub returns-in-Echo-clause-idle_net : goal.returns-in-Echo-clause-idle_net
returns-in-Echo-clause-idle_net g c =
    let is : c.args.command ≡ command.Serve c.in-Serve.options app.Echo =
    is_serve _ _ _ _ c.in-Serve.is c.in-Echo.is in
    rw is (λ told none. absurd (can_not true refl none))

pub returns-in-Echo-clause-idle_out : goal.returns-in-Echo-clause-idle_out
returns-in-Echo-clause-idle_out g c =
    let is : c.args.command ≡ command.Serve c.in-Serve.options app.Echo =
    is_serve _ _ _ _ c.in-Serve.is c.in-Echo.is in
    rw is (λ told none. absurd (can_not true refl none))

pub returns-in-Echo-clause-ran : goal.returns-in-Echo-clause-ran
returns-in-Echo-clause-ran g c = λ told.
    let is : c.args.command ≡ command.Serve c.in-Serve.options app.Echo =
    is_serve _ _ _ _ c.in-Serve.is c.in-Echo.is in
    rw is (echo_ran g.N.Link.Link.tells g.P.Spill.Spill.tells (g.T.Tree.files c.args.tree.now)
    c.in-Serve.options (g.T.Tree.faults c.args.tree.now) (g.T.Tree.faults c.args.tree.now) _ _
    _ _ _ (g.N.Net.state c.args.net.now) _ _ (omega arith)
    (c.start.ensures.ran told) c.start.ensures.broke)

pub returns-in-Echo-clause-tree_read : goal.returns-in-Echo-clause-tree_read
returns-in-Echo-clause-tree_read g c = λ none. same_count _ _ _ refl

pub returns-in-Ok-Ok-clause-why : goal.returns-in-Ok-Ok-clause-why
returns-in-Ok-Ok-clause-why g c =
    let is : c.args.command ≡ command.Serve c.in-Serve.options (app.Table c.in-Table.file) =
    is_serve _ _ _ _ c.in-Serve.is c.in-Table.is in
    let made = rows_of g.T.Tree.tells (g.T.Tree.faults c.args.tree.now)
    (g.T.Tree.faults c.read_table.new.tree) (g.T.Tree.files c.args.tree.now) c.in-Table.file _ _
    c.in-Ok-Ok.ensures.made c.in-Ok-Ok.field-0-is in
    rw is (serving_concludes _ _ _ _ _ (app.Table c.in-Table.file)
    (rows_made g.T.Tree.tells (g.T.Tree.files c.args.tree.now) c.in-Table.file _ made.1) _
    c.start-in-Ok-Ok.ensures.why)

pub returns-in-Ok-Ok-clause-idle : goal.returns-in-Ok-Ok-clause-idle
returns-in-Ok-Ok-clause-idle g c =
    let is : c.args.command ≡ command.Serve c.in-Serve.options (app.Table c.in-Table.file) =
    is_serve _ _ _ _ c.in-Serve.is c.in-Table.is in
    let made = rows_of g.T.Tree.tells (g.T.Tree.faults c.args.tree.now)
    (g.T.Tree.faults c.read_table.new.tree) (g.T.Tree.files c.args.tree.now) c.in-Table.file _ _
    c.in-Ok-Ok.ensures.made c.in-Ok-Ok.field-0-is in
    rw is (λ none. absurd (can_not _
    (rows_made g.T.Tree.tells (g.T.Tree.files c.args.tree.now) c.in-Table.file _ made.1)
    none))

pub returns-in-Ok-Ok-clause-idle_net : goal.returns-in-Ok-Ok-clause-idle_net
returns-in-Ok-Ok-clause-idle_net g c =
    let is : c.args.command ≡ command.Serve c.in-Serve.options (app.Table c.in-Table.file) =
    is_serve _ _ _ _ c.in-Serve.is c.in-Table.is in
    let made = rows_of g.T.Tree.tells (g.T.Tree.faults c.args.tree.now)
    (g.T.Tree.faults c.read_table.new.tree) (g.T.Tree.files c.args.tree.now) c.in-Table.file _ _
    c.in-Ok-Ok.ensures.made c.in-Ok-Ok.field-0-is in
    rw is (λ told none. absurd (can_not _
    (rows_made g.T.Tree.tells (g.T.Tree.files c.args.tree.now) c.in-Table.file _ made.1)
    none))

pub returns-in-Ok-Ok-clause-idle_out : goal.returns-in-Ok-Ok-clause-idle_out
returns-in-Ok-Ok-clause-idle_out g c =
    let is : c.args.command ≡ command.Serve c.in-Serve.options (app.Table c.in-Table.file) =
    is_serve _ _ _ _ c.in-Serve.is c.in-Table.is in
    let made = rows_of g.T.Tree.tells (g.T.Tree.faults c.args.tree.now)
    (g.T.Tree.faults c.read_table.new.tree) (g.T.Tree.files c.args.tree.now) c.in-Table.file _ _
    c.in-Ok-Ok.ensures.made c.in-Ok-Ok.field-0-is in
    rw is (λ some none. absurd (can_not _
    (rows_made g.T.Tree.tells (g.T.Tree.files c.args.tree.now) c.in-Table.file _ made.1)
    none))

pub returns-in-Ok-Ok-clause-ran : goal.returns-in-Ok-Ok-clause-ran
returns-in-Ok-Ok-clause-ran g c = λ told.
    let is : c.args.command ≡ command.Serve c.in-Serve.options (app.Table c.in-Table.file) =
    is_serve _ _ _ _ c.in-Serve.is c.in-Table.is in
    let made = rows_of g.T.Tree.tells (g.T.Tree.faults c.args.tree.now)
    (g.T.Tree.faults c.read_table.new.tree) (g.T.Tree.files c.args.tree.now) c.in-Table.file _ _
    c.in-Ok-Ok.ensures.made c.in-Ok-Ok.field-0-is in
    rw is (table_ran g.N.Link.Link.tells g.P.Spill.Spill.tells (g.T.Tree.files c.args.tree.now)
    c.in-Serve.options (g.T.Tree.faults c.args.tree.now)
    (g.T.Tree.faults c.read_table.new.tree) _ _ _ _ _
    (g.N.Net.state c.args.net.now) _ c.in-Table.file c.in-Ok-Ok.table
    (g.T.Tree.tells && g.T.Entry.TreeEntry.tells) (λ all. made.1 (and_first _ _ all)) _
    (let same = made.0 in omega (arith, same))
    (c.start-in-Ok-Ok.ensures.ran told) c.start-in-Ok-Ok.ensures.broke)

pub returns-in-Ok-Ok-clause-tree : goal.returns-in-Ok-Ok-clause-tree
returns-in-Ok-Ok-clause-tree g c =
    let made = rows_of g.T.Tree.tells (g.T.Tree.faults c.args.tree.now)
    (g.T.Tree.faults c.read_table.new.tree) (g.T.Tree.files c.args.tree.now) c.in-Table.file _ _
    c.in-Ok-Ok.ensures.made c.in-Ok-Ok.field-0-is in
    let same = made.0 in omega (arith, same)

pub returns-in-Ok-Ok-clause-tree_kept : goal.returns-in-Ok-Ok-clause-tree_kept
returns-in-Ok-Ok-clause-tree_kept g c =
    let made = rows_of g.T.Tree.tells (g.T.Tree.faults c.args.tree.now)
    (g.T.Tree.faults c.read_table.new.tree) (g.T.Tree.files c.args.tree.now) c.in-Table.file _ _
    c.in-Ok-Ok.ensures.made c.in-Ok-Ok.field-0-is in
    (λ none. made.0)

pub returns-in-Ok-Ok-clause-tree_read : goal.returns-in-Ok-Ok-clause-tree_read
returns-in-Ok-Ok-clause-tree_read g c =
    let made = rows_of g.T.Tree.tells (g.T.Tree.faults c.args.tree.now)
    (g.T.Tree.faults c.read_table.new.tree) (g.T.Tree.files c.args.tree.now) c.in-Table.file _ _
    c.in-Ok-Ok.ensures.made c.in-Ok-Ok.field-0-is in
    (λ none. same_count _ _ _ made.0)

pub returns-in-Ok-Err-clause-why : goal.returns-in-Ok-Err-clause-why
returns-in-Ok-Err-clause-why g c =
    let is : c.args.command ≡ command.Serve c.in-Serve.options (app.Table c.in-Table.file) =
    is_serve _ _ _ _ c.in-Serve.is c.in-Table.is in
    let lack = lack_of g.T.Tree.tells (g.T.Tree.faults c.args.tree.now)
    (g.T.Tree.faults c.read_table.new.tree) (g.T.Tree.files c.args.tree.now) c.in-Table.file _ _
    c.in-Ok-Err.ensures.made c.in-Ok-Err.field-0-is in
    rw is (record { cannot = lack.1; serves_is = refl; faultless = refl; built = refl })

pub returns-in-Ok-Err-clause-ran : goal.returns-in-Ok-Err-clause-ran
returns-in-Ok-Err-clause-ran g c = λ told.
    let lack = lack_of g.T.Tree.tells (g.T.Tree.faults c.args.tree.now)
    (g.T.Tree.faults c.read_table.new.tree) (g.T.Tree.files c.args.tree.now) c.in-Table.file _ _
    c.in-Ok-Err.ensures.made c.in-Ok-Err.field-0-is in
    nobody_ran _ _ (g.T.Tree.faults c.args.tree.now) (g.T.Tree.faults c.read_table.new.tree) _ _ _ _
    _
    (g.N.Net.state c.args.net.now) _ (g.N.Net.state c.args.net.now).bound lack.0 refl refl refl

pub returns-in-Ok-Err-clause-tree : goal.returns-in-Ok-Err-clause-tree
returns-in-Ok-Err-clause-tree g c =
    let lack = lack_of g.T.Tree.tells (g.T.Tree.faults c.args.tree.now)
    (g.T.Tree.faults c.read_table.new.tree) (g.T.Tree.files c.args.tree.now) c.in-Table.file _ _
    c.in-Ok-Err.ensures.made c.in-Ok-Err.field-0-is in
    lack.0

pub returns-in-Ok-Err-clause-tree_kept : goal.returns-in-Ok-Err-clause-tree_kept
returns-in-Ok-Err-clause-tree_kept g c =
    let is : c.args.command ≡ command.Serve c.in-Serve.options (app.Table c.in-Table.file) =
    is_serve _ _ _ _ c.in-Serve.is c.in-Table.is in
    rw is (λ none. absurd (can_not true refl none))

pub returns-in-Ok-Err-clause-tree_read : goal.returns-in-Ok-Err-clause-tree_read
returns-in-Ok-Err-clause-tree_read g c =
    let lack = lack_of g.T.Tree.tells (g.T.Tree.faults c.args.tree.now)
    (g.T.Tree.faults c.read_table.new.tree) (g.T.Tree.files c.args.tree.now) c.in-Table.file _ _
    c.in-Ok-Err.ensures.made c.in-Ok-Err.field-0-is in
    (λ none. lack.0)

pub returns-in-Err-clause-ran : goal.returns-in-Err-clause-ran
returns-in-Err-clause-ran g c = λ told. nobody_ran _ _ (g.T.Tree.faults c.args.tree.now)
    (g.T.Tree.faults c.read_table.new.tree) _ _ _ _ _ (g.N.Net.state c.args.net.now) _
    (g.N.Net.state c.args.net.now).bound (let same = c.in-Err.ensures.kept in omega (arith, same))
    refl refl tt

pub returns-in-Err-clause-tree : goal.returns-in-Err-clause-tree
returns-in-Err-clause-tree g c = let same = c.in-Err.ensures.kept in omega (arith, same)

pub returns-in-Err-clause-tree_kept : goal.returns-in-Err-clause-tree_kept
returns-in-Err-clause-tree_kept g c = λ none. c.in-Err.ensures.kept

pub returns-in-Err-clause-tree_read : goal.returns-in-Err-clause-tree_read
returns-in-Err-clause-tree_read g c = λ none. c.in-Err.ensures.kept

pub returns-in-Dir-clause-why : goal.returns-in-Dir-clause-why
returns-in-Dir-clause-why g c =
    let is : c.args.command ≡ command.Serve c.in-Serve.options (app.Dir c.in-Dir.root) =
    is_serve _ _ _ _ c.in-Serve.is c.in-Dir.is in
    rw is (serving_concludes _ _ _ _ _ (app.Dir c.in-Dir.root) refl _ c.start-ended.ensures.why)

pub returns-in-Dir-clause-idle : goal.returns-in-Dir-clause-idle
returns-in-Dir-clause-idle g c =
    let is : c.args.command ≡ command.Serve c.in-Serve.options (app.Dir c.in-Dir.root) =
    is_serve _ _ _ _ c.in-Serve.is c.in-Dir.is in
    rw is (λ none. absurd (can_not true refl none))

pub returns-in-Dir-clause-idle_net : goal.returns-in-Dir-clause-idle_net
returns-in-Dir-clause-idle_net g c =
    let is : c.args.command ≡ command.Serve c.in-Serve.options (app.Dir c.in-Dir.root) =
    is_serve _ _ _ _ c.in-Serve.is c.in-Dir.is in
    rw is (λ told none. absurd (can_not true refl none))

pub returns-in-Dir-clause-idle_out : goal.returns-in-Dir-clause-idle_out
returns-in-Dir-clause-idle_out g c =
    let is : c.args.command ≡ command.Serve c.in-Serve.options (app.Dir c.in-Dir.root) =
    is_serve _ _ _ _ c.in-Serve.is c.in-Dir.is in
    rw is (λ told none. absurd (can_not true refl none))

pub returns-in-Dir-clause-ran : goal.returns-in-Dir-clause-ran
returns-in-Dir-clause-ran g c = λ told.
    let is : c.args.command ≡ command.Serve c.in-Serve.options (app.Dir c.in-Dir.root) =
    is_serve _ _ _ _ c.in-Serve.is c.in-Dir.is in
    rw is (directory_ran g.N.Link.Link.tells g.P.Spill.Spill.tells
    (g.T.Tree.files c.args.tree.now) c.in-Serve.options (g.T.Tree.faults c.args.tree.now)
    (g.T.Tree.faults c.settle.new.tree) _ _ _ _ _ (g.N.Net.state c.args.net.now) _ c.in-Dir.root _
    (g.T.Tree.files c.new-directory.result.tree.now)
    (g.T.Tree.tells && g.T.Entry.TreeEntry.tells)
    (ap (λ t. g.T.Tree.files t) c.new-directory.ensures.tree) c.new-directory.ensures.root _ _
    (c.start-ended.ensures.ran told) (c.settle.ensures.counted c.start-ended.ensures.broke))

pub returns-in-Dir-clause-tree : goal.returns-in-Dir-clause-tree
returns-in-Dir-clause-tree g c = c.settle.ensures.later

pub returns-in-Dir-clause-tree_kept : goal.returns-in-Dir-clause-tree_kept
returns-in-Dir-clause-tree_kept g c =
    let is : c.args.command ≡ command.Serve c.in-Serve.options (app.Dir c.in-Dir.root) =
    is_serve _ _ _ _ c.in-Serve.is c.in-Dir.is in
    rw is (λ none. absurd (can_not true refl none))

pub returns-in-Dir-clause-tree_read : goal.returns-in-Dir-clause-tree_read
returns-in-Dir-clause-tree_read g c =
    let is : c.args.command ≡ command.Serve c.in-Serve.options (app.Dir c.in-Dir.root) =
    is_serve _ _ _ _ c.in-Serve.is c.in-Dir.is in
    rw is (λ none. absurd (can_not true refl none))

pub returns-in-Rehearse-clause-ran : goal.returns-in-Rehearse-clause-ran
returns-in-Rehearse-clause-ran g c = λ told. nobody_ran _ _ (g.T.Tree.faults c.args.tree.now)
    (g.T.Tree.faults c.args.tree.now) _ _ _ _ _
    (g.N.Net.state c.args.net.now) _ (g.N.Net.state c.args.net.now).bound (omega arith) refl refl
    refl

pub returns-in_default-clause-why : goal.returns-in_default-clause-why
returns-in_default-clause-why g c =
    let some : IsTrue (prints (Ok c.args.command)) = search rules in
    printing_concludes _ _ _ _ _ some _ c.print.ensures.why

pub returns-in_default-clause-ran : goal.returns-in_default-clause-ran
returns-in_default-clause-ran g c = λ told. nobody_ran _ _ (g.T.Tree.faults c.args.tree.now)
    (g.T.Tree.faults c.args.tree.now) _ _ _ _ _
    (g.N.Net.state c.args.net.now) _ (g.N.Net.state c.args.net.now).bound (omega arith) refl refl
    (stays _ _)

pub returns-in_default-clause-tree_read : goal.returns-in_default-clause-tree_read
returns-in_default-clause-tree_read g c = λ none. same_count _ _ _ refl
