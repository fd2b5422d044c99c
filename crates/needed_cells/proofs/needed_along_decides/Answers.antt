use Rattle.needed_cells.proofs.Paths as law
use Rattle.needed_cells.proofs.needed_along_decides.Goals as goal

pub returns : goal.returns
returns c = law.needed_along_decides
