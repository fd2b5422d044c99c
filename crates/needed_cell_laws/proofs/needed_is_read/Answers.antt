use Rattle.needed_cell_laws.proofs.Reading as law
use Rattle.needed_cell_laws.proofs.needed_is_read.Goals as goal

pub returns : goal.returns
returns c = law.needed_is_read
