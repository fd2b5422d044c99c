use Rattle.unwinding_laws.proofs.Rooting.{legal_edges}
use Rattle.unwinding_laws.proofs.legal_paths_are_of_edges.Goals as goal

pub returns : goal.returns
returns c = legal_edges
