use Rattle.std.proofs.Common.{sym}
use Rattle.walk_states.proofs.Following.{no-waits}
use Rattle.walk_states.proofs.lists.no_waits.Goals as goal

pub returns : goal.returns
returns c = sym (no-waits c.args.waiting.now)
