use Rattle.std.proofs.Common.{rules}
use Rattle.loop_names.proofs.spelling.Goals as goal

pub returns-then-means-2 : goal.returns-then-means-2
returns-then-means-2 c = search rules

pub returns-else-means : goal.returns-else-means
returns-else-means c = search rules
