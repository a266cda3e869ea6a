use Rattle.request_stream.proofs.whole.greet.Goals as goal

pub returns-in_ok-give-clause-within : goal.returns-in_ok-give-clause-within
returns-in_ok-give-clause-within g c = λ limits. c.in_ok-give.ensures.within limits (record {})
