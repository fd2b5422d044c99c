use Rattle.needed_cells.proofs.Paths as law
use Rattle.needed_cells.proofs.edges_keep_whole.Goals as goal

pub returns : goal.returns
returns c = law.edges_keep_whole
