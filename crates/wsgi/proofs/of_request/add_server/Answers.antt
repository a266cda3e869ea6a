use Rattle.std.proofs.Common.{rules}
use Rattle.std.proofs.lemmas.Result.{IfOk-equal}
use Rattle.wsgi.proofs.Rows.{four}
use Rattle.wsgi.proofs.of_request.add_server.Goals as goal

pub returns : goal.returns
returns c = IfOk-equal _ _ _ _ c.add-4.ensures
    (four _ _ _ _ _ c.in_ok-add.ensures c.in_ok-add-2.ensures c.in_ok-add-3.ensures
    (search rules) (search rules) (search rules) (search rules))
