use Rattle.high_tree_laws.proofs.HighFile.{the_only}
use Rattle.high_tree_laws.proofs.the_only.Goals as goal

pub returns : goal.returns
returns c = the_only
