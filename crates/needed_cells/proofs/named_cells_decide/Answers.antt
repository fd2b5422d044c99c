use Rattle.needed_cells.proofs.Agreeing as law
use Rattle.needed_cells.proofs.named_cells_decide.Goals as goal

pub returns : goal.returns
returns c = law.named_cells_decide
