use Rattle.std.proofs.Common.{rules}
use Rattle.outside.proofs.mem_net.MemNet.keeps_to_plan.Goals as goal

pub returns : goal.returns
returns c = rw (← c.self.view_is) (search rules)
