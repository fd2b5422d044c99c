use Rattle.needed_cells.proofs.Operations as law
use Rattle.needed_cells.proofs.needed_cells_decide.Goals as goal

pub returns : goal.returns
returns c = law.needed_cells_decide
