use Rattle.std.proofs.Common.{refl}
use Rattle.block_walk.proofs.branches.second_side.Goals as goal

pub returns-clause-means : goal.returns-clause-means
returns-clause-means c = (c.in-Some.other.term, (c.in-Some.ensures.means, c.if-not-is_other.ensures.means refl, c.in_ok-only_these.ensures.means))
