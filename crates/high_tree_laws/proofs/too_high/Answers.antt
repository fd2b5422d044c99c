use Rattle.high_tree_laws.proofs.HighFile.{too_high}
use Rattle.high_tree_laws.proofs.too_high.Goals as goal

pub returns : goal.returns
returns c = too_high
