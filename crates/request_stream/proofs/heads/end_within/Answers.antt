use Rattle.std.proofs.Common.{arith}
use Rattle.request_stream.proofs.SeekLemmas.{ends_by}
use Rattle.request_stream.proofs.heads.end_within.Goals as goal

pub returns : goal.returns
returns c =
    ends_by c.head_end.result c.args.bytes.now c.args.before c.args.max_head c.min-window.result
    c.requires.short (omega arith) c.head_end.ensures.value c.head_end.ensures.behind
    c.head_end.ensures.within c.head_end.ensures.cut
