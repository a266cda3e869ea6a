-- The headers are read in their order, and the first fault ends it.
use Rattle.std.proofs.Common.{ap, ◌∙◌, refl}
use Rattle.std.specs.Prelude.{Err}
use Rattle.std.proofs.lemmas.Result.{err_from_is_err_and}
use Rattle.proxy_trust.specs.Trust.{read_all}
use Rattle.proxy_trust.proofs.Chains.{fault_first, fault_behind, value_behind}
use Rattle.proxy_trust.proofs.reading.read_all.Goals as goal

pub returns-in_err-read_clients : goal.returns-in_err-read_clients
unfolding read_all
returns-in_err-read_clients c =
    let p = err_from_is_err_and c.from_residual.result c.from_residual.ensures.1 in
    (fault_first _ _ _ _ _ _ _ (p.1 ∙ ap Err p.2) c.used.ensures c.in_err-read_clients.ensures)

pub returns-in_err-read_hosts : goal.returns-in_err-read_hosts
unfolding read_all
returns-in_err-read_hosts c =
    let p = err_from_is_err_and c.from_residual-in_err-read_hosts.result
    c.from_residual-in_err-read_hosts.ensures.1 in
    (fault_behind _ _ _ _ _ _ _ c.used.ensures c.in_ok-read_clients.ensures
    (fault_first _ _ _ _ _ _ _ (p.1 ∙ ap Err p.2) c.used-2.ensures c.in_err-read_hosts.ensures))

pub returns-in_err-read_proto : goal.returns-in_err-read_proto
unfolding read_all
returns-in_err-read_proto c =
    let p = err_from_is_err_and c.from_residual-in_err-read_proto.result
    c.from_residual-in_err-read_proto.ensures.1 in
    (fault_behind _ _ _ _ _ _ _ c.used.ensures c.in_ok-read_clients.ensures
    (fault_behind _ _ _ _ _ _ _ c.used-2.ensures c.in_ok-read_hosts.ensures
    (fault_first _ _ _ _ _ _ _ (p.1 ∙ ap Err p.2) c.used-3.ensures c.in_err-read_proto.ensures)))

pub returns-in_err-read_port : goal.returns-in_err-read_port
unfolding read_all
returns-in_err-read_port c =
    let p = err_from_is_err_and c.from_residual-in_err-read_port.result
    c.from_residual-in_err-read_port.ensures.1 in
    (fault_behind _ _ _ _ _ _ _ c.used.ensures c.in_ok-read_clients.ensures
    (fault_behind _ _ _ _ _ _ _ c.used-2.ensures c.in_ok-read_hosts.ensures
    (fault_behind _ _ _ _ _ _ _ c.used-3.ensures c.in_ok-read_proto.ensures
    (fault_first _ _ _ _ _ _ _ (p.1 ∙ ap Err p.2) c.used-4.ensures c.in_err-read_port.ensures))))

pub returns-in_err-read_by : goal.returns-in_err-read_by
unfolding read_all
returns-in_err-read_by c =
    let p = err_from_is_err_and c.from_residual-in_err-read_by.result
    c.from_residual-in_err-read_by.ensures.1 in
    (fault_behind _ _ _ _ _ _ _ c.used.ensures c.in_ok-read_clients.ensures
    (fault_behind _ _ _ _ _ _ _ c.used-2.ensures c.in_ok-read_hosts.ensures
    (fault_behind _ _ _ _ _ _ _ c.used-3.ensures c.in_ok-read_proto.ensures
    (fault_behind _ _ _ _ _ _ _ c.used-4.ensures c.in_ok-read_port.ensures
    (fault_first _ _ _ _ _ _ _ (p.1 ∙ ap Err p.2) c.used-5.ensures c.in_err-read_by.ensures)))))

pub returns : goal.returns
unfolding read_all
returns c =
    (value_behind _ _ _ _ _ _ _ c.used.ensures c.in_ok-read_clients.ensures
    (value_behind _ _ _ _ _ _ _ c.used-2.ensures c.in_ok-read_hosts.ensures
    (value_behind _ _ _ _ _ _ _ c.used-3.ensures c.in_ok-read_proto.ensures
    (value_behind _ _ _ _ _ _ _ c.used-4.ensures c.in_ok-read_port.ensures
    (value_behind _ _ _ _ _ _ _ c.used-5.ensures c.in_ok-read_by.ensures
    refl)))))
