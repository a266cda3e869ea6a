use Rattle.std.proofs.Common.{rules, refl}
use Rattle.std.proofs.lemmas.Result.{IfOk-equal}
use Rattle.wsgi.proofs.Rows.{five}
use Rattle.wsgi.proofs.of_request.add_line.Goals as goal

pub returns : goal.returns
returns c = IfOk-equal _ _ _ _ c.add-5.ensures
    (five _ _ _ _ _ _ c.in_ok-add.ensures c.in_ok-add-2.ensures c.in_ok-add-3.ensures
    c.in_ok-add-4.ensures
    c.method.ensures refl (search rules) (search rules) (search rules))
