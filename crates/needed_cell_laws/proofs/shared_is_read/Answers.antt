use Rattle.needed_cell_laws.proofs.Cutting as law
use Rattle.needed_cell_laws.proofs.shared_is_read.Goals as goal

pub returns : goal.returns
returns c = law.shared_is_read
