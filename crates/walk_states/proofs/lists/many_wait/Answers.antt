use Rattle.std.proofs.Common.{sym, ap, nat_lt}
use Rattle.walk_states.proofs.Following.{long-waits}
use Rattle.walk_states.proofs.lists.many_wait.Goals as goal

pub returns : goal.returns
returns c = ap (nat_lt 64) (sym (long-waits c.args.waiting.now))
