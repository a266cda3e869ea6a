use Rattle.request_stream.proofs.heads.lead.Goals as goal

pub returns-in_ok-refuse-in-Bad-clause-within : goal.returns-in_ok-refuse-in-Bad-clause-within
returns-in_ok-refuse-in-Bad-clause-within g c =
    c.in_ok-refuse-in-Bad.ensures.within c.args.limits.now
