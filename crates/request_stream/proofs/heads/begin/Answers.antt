-- An empty body stands in memory below any limit.
use Rattle.std.proofs.Common.{rules}
use Rattle.request_stream.proofs.heads.begin.Goals as goal

pub returns-in_ok-finish-in-Empty-clause-within : goal.returns-in_ok-finish-in-Empty-clause-within
returns-in_ok-finish-in-Empty-clause-within g c = λ all.
    c.in_ok-finish-in-Empty.ensures.within c.args.limits.now c.requires.short (search rules)
    (c.in_ok-greet.ensures.within c.args.limits.now all)

pub returns-then-left-eq0-clause-within : goal.returns-then-left-eq0-clause-within
returns-then-left-eq0-clause-within g c = λ all.
    c.in_ok-finish-in-Fixed.ensures.within c.args.limits.now c.requires.short (search rules)
    (c.in_ok-greet.ensures.within c.args.limits.now all)

pub returns-else-left-eq0-clause-within : goal.returns-else-left-eq0-clause-within
returns-else-left-eq0-clause-within g c = c.in_ok-greet.ensures.within c.args.limits.now

pub returns-in-Chunked-clause-within : goal.returns-in-Chunked-clause-within
returns-in-Chunked-clause-within g c = c.in_ok-greet.ensures.within c.args.limits.now
