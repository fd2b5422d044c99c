use Rattle.layout_laws.proofs.Regions as law
use Rattle.layout_laws.proofs.cells_differ.Goals as goal

pub returns : goal.returns
returns c = law.cells_differ
