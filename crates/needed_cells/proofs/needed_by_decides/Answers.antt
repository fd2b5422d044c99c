use Rattle.needed_cells.proofs.Operations as law
use Rattle.needed_cells.proofs.needed_by_decides.Goals as goal

pub returns : goal.returns
returns c = law.needed_by_decides
