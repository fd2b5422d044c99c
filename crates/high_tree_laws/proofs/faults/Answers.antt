use Rattle.high_tree_laws.proofs.HighFile.{faults}
use Rattle.high_tree_laws.proofs.faults.Goals as goal

pub returns : goal.returns
returns c = faults
