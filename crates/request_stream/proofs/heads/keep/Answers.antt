use Rattle.request_stream.proofs.heads.keep.Goals as goal

pub returns-then-len-limits-clause-within : goal.returns-then-len-limits-clause-within
returns-then-len-limits-clause-within g c = c.in_ok-refuse.ensures.within c.args.limits.now
