use Rattle.request_stream.proofs.whole.refuse.Goals as goal

pub returns-clause-within : goal.returns-clause-within
returns-clause-within g c = λ limits. c.in_ok-give.ensures.within limits (record {})
