use Rattle.needed_cell_laws.proofs.Cutting as law
use Rattle.needed_cell_laws.proofs.cuts_are_read.Goals as goal

pub returns : goal.returns
returns c = law.cuts_are_read
