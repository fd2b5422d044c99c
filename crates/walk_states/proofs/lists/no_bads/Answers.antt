use Rattle.std.proofs.Common.{sym}
use Rattle.walk_states.proofs.Following.{no-bads}
use Rattle.walk_states.proofs.lists.no_bads.Goals as goal

pub returns : goal.returns
returns c = sym (no-bads c.args.bads.now)
