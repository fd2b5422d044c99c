use Rattle.unwinding_laws.proofs.Rooting.{legal_tree}
use Rattle.unwinding_laws.proofs.legal_is_a_tree.Goals as goal

pub returns : goal.returns
returns c = legal_tree
